-- `copies::place_row` places the copies of an element from its base, which the shard's walk leaves on the offset.
use lib.IntN.{ℤ}
use mathlib.Core.Path.{◌≡◌, sym, ap, ◌∙◌, subst}
use mathlib.Core.List.{List}
use borrow.Author.Rules.{rules}
use Rattle.card.specs.Packed.{card_of}
use Rattle.rules.specs.Walked.{walked, spot_from, PlacedRow}
use Rattle.rules.proofs.Base.{row_of_card}
use Rattle.copies_sums.specs.Walks.{Sums}
use Rattle.copies.specs.Clauses.{Ready}
use Rattle.copies.proofs.Cards.{walkable_shard, offset_sums, ready}
use Rattle.copies.proofs.place_row.Statement.{statement}
use Rattle.copies.proofs.place_row.Tie as tie

-- the base that the walk leaves
based : (w : tie.After-walk) → let a = w.args in
    let card = card_of a.numbers.now a.strides.now in
    w.walk.new.sums ≡ walked card.shard a.flat.0 card.offset
based w =
    let o = w in
    let a = o.args in
    w.walk.ensures ∙ ap (walked (card_of a.numbers.now a.strides.now).shard a.flat.0) o.offset-base.ensures

walk_requires : tie.Need-walk-requires
walk_requires c κs =
    let o = c in
    let s = o in
    let a = s.args in
    (walkable_shard a.numbers.now a.strides.now s.requires, subst Sums (sym o.offset-base.ensures) (offset_sums a.numbers.now a.strides.now s.requires))

place_copies_requires : tie.Need-place_copies-requires
place_copies_requires c κs =
    let w = c in
    let s = w in
    let a = s.args in
    subst (λ (base : List ℤ). Ready base a.numbers.now a.strides.now) (sym (based w.before.before)) (ready a.numbers.now a.strides.now s.requires a.flat.0)

returns : tie.Need-returns
returns c =
    let p = c in
    let w = p in
    let a = w.args in
    let card = card_of a.numbers.now a.strides.now in
    row_of_card card a.flat.0
    (subst (λ (base : List ℤ). PlacedRow (spot_from card.lengths card.swizzle card.replica base) a.row.now p.place_copies.new.row p.place_copies.result)
    (based w.before.before.before.before.before) p.place_copies.ensures)

pub place_row_spec : {M : Type 1} → statement M
place_row_spec = tie.close (tie.spec (λ c κs. search rules) walk_requires place_copies_requires (λ c. search rules) returns)
