-- `card_packed::size` is the capped product of the extents up to the count, and all eight where the count is more.
use Rattle.std.proofs.Common.{rules, ◌≡◌, ap, ◌∙◌, min, ℕ, length, List, take}
use Rattle.laws.proofs.Lists.{take_min}
use Rattle.card.specs.Lists.{product}
use Rattle.card.specs.Card.{extent_of}
use Rattle.card.specs.Packed.{beyond}
use Rattle.card.proofs.Listed.{listed_product}
use Rattle.card_packed.proofs.size.Goals as goal

pub returns : goal.returns
returns c =
    let iters = c.args.iters in
    let eight : length c.extents-extents.result ≡ 8 = search rules in
    c.product.ensures
    ∙ ap (λ (k : ℕ). min (product (take k c.extents-extents.result)) beyond) c.min.ensures
    ∙ ap (λ (l : List ℕ). min (product l) beyond) (take_min iters.count 8 c.extents-extents.result eight)
    ∙ ap (λ (k : ℕ). min k beyond) (listed_product extent_of iters c.extents-extents.ensures)
