-- `placement::place` packs the card, and what is promised of the packed card is promised of the card.
use mathlib.Core.Path.{subst}
use borrow.Author.Rules.{rules}
use Rattle.card.specs.declared.Card.{Card}
use Rattle.placement_judged.specs.Placement.{Placing}
use Rattle.placement_judged.proofs.Theorems.{placement_exactly}
use Rattle.placement.proofs.place.Statement.{statement}
use Rattle.placement.proofs.place.Tie as tie

place_packed_requires : tie.Need-place_packed-requires
place_packed_requires c κs = c.pack-packed.ensures.whole

returns : tie.Need-returns
returns c =
    let p = c in
    let k = p in
    let a = k.args in
    let after = p.place_packed.new.memory in
    (placement_exactly a.card a.shape a.coordinates a.memory.now after p.place-packed.result).1
    (subst (λ (card : Card). Placing card a.shape a.coordinates a.memory.now after p.place_packed.result) k.pack-packed.ensures.same_card
    p.place_packed.ensures)

pub place_spec : {M : Type 1} → statement M
place_spec = tie.close (tie.spec (λ c κs. search rules) place_packed_requires (λ c. search rules) returns)
