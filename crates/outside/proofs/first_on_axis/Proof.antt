-- `outside::first_on_axis` finds none where the far ends lie inside on the axis, and else the first that strays from its length.
use mathlib.Core.Path.{◌≡◌}
use mathlib.Core.Bool.{Bool, true, ◌&&◌, and-eq-true_iff}
use Prim.Native.Nat.{ℕ, ◌+◌, ◌≤◌}
use native.Mathlib.Omega.{arith}
use borrow.Author.Rules.{rules}
use lib.IntN.{pos}
use lib.ListN.{get_or}
use lib.Signed.{le_z, lt_z}
use mir.Syntax.{w64}
use mir.Val.{to_z}
use mir.Facts.{to_z-of_z, to_z_pos}
use Rattle.laws.proofs.Signed.{far_fits}
use Rattle.laws.proofs.Parts.{le_z_true, lt_z_true}
use Rattle.card.proofs.Admitted.{measured}
use Rattle.outside.proofs.Packed.{none_astray, leaves_there}
use Rattle.outside.proofs.first_on_axis.Statement.{statement}
use Rattle.outside.proofs.first_on_axis.Tie as tie

abbrev bound : tie.Start → ℕ
bound s = get_or s.args.numbers.now (32 + s.args.axis) 0

returns : tie.Need-returns-then-low-high
returns c =
    let i = c in
    let s = i in
    let a = s.args in
    let length_back : to_z w64 (bound s.before.before.before.before) ≡ pos (bound s.before.before.before.before) = to_z_pos w64 (omega (arith, s.requires.0.short)) in
    let both = (and-eq-true_iff (le_z (pos 0) a.low) (lt_z a.high (pos (bound s.before.before.before.before)))).0 (rw (to_z-of_z s.ranges.low, to_z-of_z s.ranges.high, length_back) at i.if-low-high.true) in
    rw (measured a.numbers.now a.strides.now s.requires.0.admits).elements_are
    (leaves_there a.numbers.now a.strides.now s.requires.0.admits a.axis _ s.requires.1
    (none_astray s.requires.0 (le_z_true (pos 0) a.low both.0) (lt_z_true a.high (pos (bound s.before.before.before.before)) both.1)))

returns_2 : tie.Need-returns
returns_2 c =
    let s = c in
    let a = s.args in
    leaves_there a.numbers.now a.strides.now s.requires.0.admits a.axis c.first_astray.result.0 s.requires.1 c.first_astray.ensures

pub first_on_axis_spec : {M : Type 1} → statement M
first_on_axis_spec =
    tie.close
    (tie.spec (λ c. omega (arith, c.requires.1)) (λ c. omega (arith, c.requires.1)) (λ c. omega (arith, c.requires.1)) (λ c. far_fits (omega (arith, c.requires.0.short))) (λ c. search rules) returns
    (λ c κs. let s = c in rw (to_z-of_z s.ranges.low, to_z-of_z s.ranges.high) s.requires.0) returns_2)
