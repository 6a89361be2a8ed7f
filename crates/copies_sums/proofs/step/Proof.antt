-- `copies_sums::step` adds a component times its stride: the machine reads each number back from its bits, and no result is far from zero.
use Prim.Native.Nat.{◌*◌}
use mathlib.Core.Path.{◌≡◌}
use native.Mathlib.Omega.{arith}
use lib.IntN.{ℤ, pos, nat_abs, ◌+ℤ◌, ◌*ℤ◌}
use mir.Syntax.{w64}
use mir.Val.{to_z, of_z, SFits}
use mir.Facts.{to_z-of_z, to_z_pos}
use Rattle.laws.proofs.Signed.{sum_far, times_far, far_fits}
use Rattle.copies_sums.proofs.step.Statement.{statement}
use Rattle.copies_sums.proofs.step.Tie as tie

-- what is added
abbrev added : tie.Start → ℤ
added c = pos c.args.component *ℤ c.args.stride

added_far : (c : tie.Start) → nat_abs (added c) ≡ c.args.component * nat_abs c.args.stride
added_far c = times_far c.args.component c.args.stride

component_back : (c : tie.Start) → to_z w64 c.args.component ≡ pos c.args.component
component_back c = to_z_pos w64 (omega (arith, c.requires.small_component))

added_back : (c : tie.Start) → to_z w64 (of_z w64 (added c)) ≡ added c
added_back c = to_z-of_z (far_fits {x = added c} (omega (arith, added_far c, c.requires.room)))

sum_fits : (c : tie.Start) → SFits w64 (c.args.sum +ℤ added c)
sum_fits c = far_fits (omega (arith, sum_far c.args.sum (added c), c.requires.room, added_far c))

cast_result : tie.Need-overflow_cast-result
cast_result c = far_fits (omega (arith, c.requires.small_component))

mul_result : tie.Need-overflow_mul-result
mul_result c = rw (component_back c, to_z-of_z c.ranges.stride) (far_fits {x = added c} (omega (arith, added_far c, c.requires.room)))

add_result : tie.Need-overflow_add-result
add_result c = rw (component_back c, to_z-of_z c.ranges.stride, added_back c, to_z-of_z c.ranges.sum) (sum_fits c)

returns : tie.Need-returns
returns c = rw (component_back c, to_z-of_z c.ranges.stride, added_back c, to_z-of_z c.ranges.sum) (to_z-of_z (sum_fits c))

pub step_spec : {M : Type 1} → statement M
step_spec = tie.close (tie.spec cast_result mul_result add_result returns)
