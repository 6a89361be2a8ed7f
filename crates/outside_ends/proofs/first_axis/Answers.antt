-- `outside_ends::first_axis` asks one axis after the other: all that were passed lie inside.
use Rattle.std.proofs.Common.{arith, refl, ◌≡◌, ◌+◌, ◌<◌, ℕ, List, Bool, true, false, get_or}
use mathlib.Core.Bool.{◌||◌, true≢false}
use borrow.Author.Count.{below_more}
use lib.IntN.{ℤ, pos}
use lib.Signed.{le_z, lt_z}
use mir.Syntax.{w64}
use mir.Val.{to_z}
use mir.Facts.{to_z-of_z, to_z_pos}
use Rattle.laws.proofs.Signed.{far_fits}
use Rattle.laws.proofs.Parts.{le_z_false, lt_z_false}
use Rattle.outside_ends.specs.Clauses.{BetweenTo}
use Rattle.outside_ends.proofs.first_axis.Invariants.{On}
use Rattle.outside_ends.proofs.first_axis.Goals as goal

neither : (a b : Bool) → (a || b) ≡ false → (a ≡ false) × (b ≡ false)
neither true b e = absurd (true≢false e)
neither false b e = (refl, e)

-- where it stops, the axes before lie inside
passed : (low high : List ℤ) (numbers : List ℕ) (axis : ℕ) → ((j : ℕ) → j < axis → On low high numbers j) → BetweenTo axis low high numbers
passed low high numbers axis on = record { from_zero = λ j h. (on j h).0; below = λ j h. (on j h).1 }

pub overflow_cast-length : goal.overflow_cast-length
overflow_cast-length c = far_fits (omega (arith, c.requires.2.short c.loop-axis.axis (omega arith)))

pub loop-axis-preserved : goal.loop-axis-preserved
loop-axis-preserved c =
    let a = c.args in
    let l = c.loop-axis in
    let low = get_or a.low.now l.axis (pos 0) in
    let high = get_or a.high.now l.axis (pos 0) in
    let length = get_or a.numbers.now (32 + l.axis) 0 in
    let low_back = to_z-of_z {w = w64} {z = low} (record { sfits = c.t14-1.given }) in
    let high_back = to_z-of_z {w = w64} {z = high} (record { sfits = c.t17-1.given }) in
    let length_back : to_z w64 length ≡ pos length = to_z_pos w64 (omega (arith, c.requires.2.short l.axis (omega arith))) in
    let both = neither (lt_z low (pos 0)) (le_z (pos length) high) (rw (low_back, high_back, length_back) at c.if-low-axis.false) in
    below_more (On a.low.now a.high.now a.numbers.now) l.axis l.invariant (lt_z_false low (pos 0) both.0, le_z_false (pos length) high both.1)

pub returns-then-low-axis : goal.returns-then-low-axis
returns-then-low-axis c =
    let a = c.args in
    let l = c.loop-axis in
    (omega arith, passed a.low.now a.high.now a.numbers.now l.axis l.invariant)

pub returns : goal.returns
returns c =
    let a = c.args in
    let l = c.loop-axis in
    let end : l.axis ≡ 7 = omega arith in
    (omega arith, passed a.low.now a.high.now a.numbers.now 7 (rw end at l.invariant))
