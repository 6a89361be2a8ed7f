-- `outside_axis::first_over` finds none where the far end is not beyond, and else the first index near enough to it.
use mathlib.Core.Path.{◌≡◌, sym, ◌∙◌, subst}
use native.Mathlib.Omega.{arith}
use borrow.Author.Rules.{rules}
use lib.Dec.{T}
use lib.IntN.{ℤ, pos, nat_abs}
use lib.Signed.{◌<ℤ◌, non_neg}
use mir.Syntax.{w64}
use mir.Val.{to_z, of_z}
use mir.Facts.{to_z-of_z, Fits-nat_abs}
use Rattle.laws.proofs.Parts.{lt_z_true}
use Rattle.card.specs.Packed.{card_of}
use Rattle.card.specs.declared.Card.{Card}
use Rattle.card.proofs.Admitted.{sized, measured}
use Rattle.copies.proofs.Below.{from_zero}
use Rattle.copies.proofs.Cards.{walkable_shard}
use Rattle.outside_axis.proofs.Packed.{natural_is}
use Rattle.outside_axis.proofs.Straying.{none_over, first_over}
use Rattle.outside_axis.proofs.first_over.Statement.{statement}
use Rattle.outside_axis.proofs.first_over.Tie as tie

abbrev card : tie.Start → Card
card s = card_of s.args.numbers.now s.args.strides.now

back : (s : tie.Start) → to_z w64 (of_z w64 s.args.over) ≡ s.args.over
back s = to_z-of_z s.ranges.over

returns : tie.Need-returns-then-over-lt0
returns c =
    let s = c in
    let a = s.args in
    let below = lt_z_true a.over (pos 0) (rw (back s.before.before.before) at c.if-over-lt0.true) in
    rw (measured a.numbers.now a.strides.now s.requires.admits).elements_are
    (none_over (card s.before.before.before) s.requires.admits.admitted a.axis a.bound a.upwards (subst (λ (z : ℤ). z <ℤ pos 0) s.requires.there below))

natural : (c : tie.Else-over-lt0) → T (non_neg c.args.over)
natural c = let s = c in from_zero s.args.over (rw (back s.before) at c.if-over-lt0.false)

returns_2 : tie.Need-returns
returns_2 c =
    let s = c in
    let a = s.args in
    rw (c.first_within.ensures, back s.before.before)
    (first_over (card s.before.before) s.requires.admits.admitted a.axis a.bound a.upwards (nat_abs a.over) (sym s.requires.there ∙ natural_is a.over (natural c.before)))

pub first_over_spec : {M : Type 1} → statement M
first_over_spec =
    tie.close
    (tie.spec (λ c. search rules) returns (λ c. let s = c in rw (back s.before) (natural c, Fits-nat_abs {w = w64} tt s.ranges.over))
    (λ c κs.
    let s = c.before in
    record {
      walkable = walkable_shard s.args.numbers.now s.args.strides.now s.requires.admits;
      small = omega (arith, (sized (card s) s.requires.admits.admitted).most_elements_lem);
    })
    returns_2)
