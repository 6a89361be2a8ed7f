-- `c_packed::copies` is the capped product of the replica's extents up to the count, and all eight where the count is more.
use Rattle.std.proofs.Common.{refl, ap, ◌∙◌, List, map, ℕ, min, take}
use mathlib.Core.Path.{ap₂}
use Rattle.laws.proofs.Lists.{take_min}
use Rattle.card.specs.Lists.{product}
use Rattle.card.specs.Card.{extent_of}
use Rattle.card.specs.Packed.{beyond}
use Rattle.card.specs.declared.Iters.{Iters}
use Rattle.card.proofs.Listed.{listed_product}
use Rattle.c_card.specs.Card.{replica_from}
use Rattle.c_packed.proofs.copies.Goals as goal

pub returns : goal.returns
returns c =
    let iters : Iters = replica_from c.args.card.now in
    let extents = map extent_of iters.at in
    c.product.ensures
    ∙ ap₂ (λ (k : ℕ) (l : List ℕ). min (product (take k l)) beyond) c.min.ensures c.of_replica.ensures
    ∙ ap (λ (l : List ℕ). min (product l) beyond) (take_min iters.count 8 extents refl)
    ∙ ap (λ (k : ℕ). min k beyond) (listed_product extent_of iters refl)
