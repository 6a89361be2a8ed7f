-- `claiming_turns::back` takes so many steps away: the machine reads each number back from its bits, and no result is far from zero.
use Prim.Native.Nat.{◌*◌}
use mathlib.Core.Path.{◌≡◌, ap, ◌∙◌}
use native.Mathlib.Omega.{arith}
use lib.IntN.{ℤ, pos, nat_abs, neg_ℤ, ◌+ℤ◌, ◌-ℤ◌, ◌*ℤ◌, -ℤ-+ℤ_cancel}
use mir.Syntax.{w64}
use mir.Val.{to_z, of_z, SFits}
use mir.Facts.{to_z-of_z, to_z_pos}
use Rattle.laws.proofs.Signed.{sum_far, times_far, far_fits}
use Rattle.claiming_turns.proofs.Ways.{negated_far}
use Rattle.claiming_turns.proofs.back.Statement.{statement}
use Rattle.claiming_turns.proofs.back.Tie as tie

-- what is taken away
abbrev taken : tie.Start → ℤ
taken c = pos c.args.many *ℤ c.args.step

taken_far : (c : tie.Start) → nat_abs (taken c) ≡ c.args.many * nat_abs c.args.step
taken_far c = times_far c.args.many c.args.step

many_back : (c : tie.Start) → to_z w64 c.args.many ≡ pos c.args.many
many_back c = to_z_pos w64 (omega (arith, c.requires.small_component))

taken_back : (c : tie.Start) → to_z w64 (of_z w64 (taken c)) ≡ taken c
taken_back c = to_z-of_z (far_fits {x = taken c} (omega (arith, taken_far c, c.requires.room)))

rest_fits : (c : tie.Start) → SFits w64 (c.args.value -ℤ taken c)
rest_fits c = far_fits (omega (arith, sum_far c.args.value (neg_ℤ (taken c)), negated_far (taken c), c.requires.room, taken_far c))

cast_result : tie.Need-overflow_cast-result
cast_result c = far_fits (omega (arith, c.requires.small_component))

mul_result : tie.Need-overflow_mul-result
mul_result c = rw (many_back c, to_z-of_z c.ranges.step) (far_fits {x = taken c} (omega (arith, taken_far c, c.requires.room)))

sub_result : tie.Need-overflow_sub-result
sub_result c = rw (many_back c, to_z-of_z c.ranges.step, taken_back c, to_z-of_z c.ranges.value) (rest_fits c)

returns : tie.Need-returns
returns c =
    rw (many_back c, to_z-of_z c.ranges.step, taken_back c, to_z-of_z c.ranges.value)
    (ap (λ (z : ℤ). z +ℤ taken c) (to_z-of_z (rest_fits c)) ∙ -ℤ-+ℤ_cancel c.args.value (taken c))

pub back_spec : {M : Type 1} → statement M
back_spec = tie.close (tie.spec cast_result mul_result sub_result returns)
