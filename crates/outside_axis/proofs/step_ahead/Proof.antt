-- `outside_axis::step_ahead` is the step of the definition, by the tests that it makes.
use mathlib.Core.Path.{◌≡◌}
use native.Mathlib.Omega.{arith}
use borrow.Author.Tests.{eq-eqb, ne_eqb}
use lib.IntN.{pos, ◌-ℤ◌}
use mir.Syntax.{w64}
use mir.Val.{SFits, to_z, of_z}
use mir.Facts.{to_z-of_z, Fits-nat_abs}
use Rattle.laws.proofs.Signed.{far_fits}
use Rattle.outside_axis.proofs.Steps.{Forward, forward, Backward, backward}
use Rattle.outside_axis.proofs.step_ahead.Statement.{statement}
use Rattle.outside_axis.proofs.step_ahead.Tie as tie

-- the machine reads the stride back from its bits
back : (s : tie.Start) → to_z w64 (of_z w64 s.args.stride) ≡ s.args.stride
back s = to_z-of_z s.ranges.stride

returns : tie.Need-returns-then-on-axis
returns c = let a = c.args in rw (ne_eqb a.on a.axis c.if-on-axis.true)

ahead_up : (c : tie.Then-forward) → Forward c.args.stride
ahead_up c = let s = c in forward s.args.stride (rw (back s.before.before.before) at c.if-forward.true)

behind_up : (c : tie.Else-forward) → Backward c.args.stride
behind_up c = let s = c in backward s.args.stride (rw (back s.before.before.before) at c.if-forward.false)

ahead_down : (c : tie.Then-forward-2) → Forward c.args.stride
ahead_down c = let s = c in forward s.args.stride (rw (back s.before.before.before) at c.if-forward-2.true)

behind_down : (c : tie.Else-forward-2) → Backward c.args.stride
behind_down c = let s = c in backward s.args.stride (rw (back s.before.before.before) at c.if-forward-2.false)

cast_result : tie.Need-overflow_cast-result
cast_result c = let s = c in rw (back s.before.before.before) ((ahead_up c).natural, Fits-nat_abs {w = w64} tt s.ranges.stride)

-- a backward stride turned round
turned_fits : (c : tie.Else-forward-2) → SFits w64 (pos 0 -ℤ c.args.stride)
turned_fits c = let s = c in far_fits (omega (arith, (behind_down c).same, s.requires))

turned : (c : tie.Else-forward-2) → to_z w64 (of_z w64 (pos 0 -ℤ to_z w64 (of_z w64 c.args.stride))) ≡ pos 0 -ℤ c.args.stride
turned c = rw (back c.before.before.before) (to_z-of_z (turned_fits c))

cast_result_2 : tie.Need-overflow_cast-result-else-forward-2
cast_result_2 c = rw (turned c) ((behind_down c).natural, Fits-nat_abs {w = w64} tt (turned_fits c))

returns_2 : tie.Need-returns-then-forward
returns_2 c =
    let s = c in
    rw (back s.before.before.before, eq-eqb s.args.on s.args.axis c.if-on-axis.false, c.if-upwards.true) (ahead_up c).rises

returns_3 : tie.Need-returns-else-forward
returns_3 c =
    let s = c in
    rw (eq-eqb s.args.on s.args.axis c.if-on-axis.false, c.if-upwards.true) (behind_up c).rises

returns_4 : tie.Need-returns-then-forward-2
returns_4 c =
    let s = c in
    rw (eq-eqb s.args.on s.args.axis c.if-on-axis.false, c.if-upwards.false) (ahead_down c).falls

returns_5 : tie.Need-returns-else-forward-2
returns_5 c =
    let s = c in
    rw (turned c, eq-eqb s.args.on s.args.axis c.if-on-axis.false, c.if-upwards.false) (behind_down c).falls

pub step_ahead_spec : {M : Type 1} → statement M
step_ahead_spec =
    tie.close
    (tie.spec returns cast_result (λ c. rw (back c.before.before.before) (turned_fits c)) cast_result_2 returns_2 returns_3 returns_4 returns_5)
