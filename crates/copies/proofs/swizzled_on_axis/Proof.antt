-- `copies::swizzled_on_axis` is the coordinate of m: below zero the largest length, else swizzled.
use mathlib.Core.Path.{◌∙◌}
use borrow.Author.Rules.{rules}
use lib.Dec.{T}
use lib.Signed.{non_neg}
use mir.Syntax.{w64}
use mir.Facts.{to_z-of_z, Fits-nat_abs}
use Rattle.card.specs.Packed.{swizzle_of}
use Rattle.copies.proofs.Below.{from_zero, below_swizzled, natural_swizzled}
use Rattle.copies.proofs.swizzled_on_axis.Statement.{statement}
use Rattle.copies.proofs.swizzled_on_axis.Tie as tie

natural : (c : tie.Else-sum-lt0) → T (non_neg c.args.sum)
natural c = let s = c in from_zero s.args.sum (rw (to_z-of_z s.ranges.sum) at c.if-sum-lt0.false)

cast_swizzle_permitted : tie.Need-overflow_cast-sum
cast_swizzle_permitted c =
    let e = c in
    let s = e in
    rw (to_z-of_z s.ranges.sum) (natural e.before.before.before.before, Fits-nat_abs {w = w64} tt s.ranges.sum)

returns : tie.Need-returns-then-sum-lt0
returns c = let s = c in below_swizzled _ s.args.sum (rw (to_z-of_z s.ranges.sum) at c.if-sum-lt0.true)

returns_2 : tie.Need-returns-else-sum-lt0
returns_2 c =
    let e = c in
    let s = e in
    let w = swizzle_of s.args.numbers.now in
    rw (to_z-of_z s.ranges.sum) at c.swizzle_permitted.ensures ∙ natural_swizzled w s.args.sum (natural e.before.before.before.before.before)

pub swizzled_on_axis_spec : {M : Type 1} → statement M
swizzled_on_axis_spec =
    tie.close
    (tie.spec (λ c. search rules) (λ c. search rules) (λ c. search rules) cast_swizzle_permitted (λ c κs. search rules) returns returns_2)
