-- What the functions here promise each other. Nothing here has to be believed.
use Rattle.std.specs.Prelude.{ℕ, ◌≤◌, ◌≡◌, Bool, true, false, List, ℤ}
use Rattle.card.specs.Card.{size}
use Rattle.card.specs.Packed.{beyond, iters_of, card_of, Admits}
use Rattle.copies_sums.specs.Walks.{Walkable}
use Rattle.outside_reach.specs.Ends.{end_sum}
use Rattle.outside_axis.specs.Straying.{beyond_end}

-- a list of iters that can be walked, and whose indices are small
pub record Indexed (numbers : List ℕ) (strides : List ℤ) (list : ℕ) : Type 0 where
  pub walkable : Walkable numbers strides list
  pub small : size (iters_of numbers strides list) ≤ beyond

-- an admitted card, and how far one of its far ends lies beyond a bound
pub record Over (numbers : List ℕ) (strides : List ℤ) (axis bound : ℕ) (upwards : Bool) (over : ℤ) : Type 0 where
  pub admits : Admits numbers strides
  pub there : over ≡ beyond_end upwards (card_of numbers strides) axis bound

-- an admitted card, a bound, and both of its far ends on an axis
pub record AxisEnded (numbers : List ℕ) (strides : List ℤ) (axis bound : ℕ) (low high : ℤ) : Type 0 where
  pub admits : Admits numbers strides
  pub short : bound ≤ beyond
  pub low_there : low ≡ end_sum false (card_of numbers strides) axis
  pub high_there : high ≡ end_sum true (card_of numbers strides) axis
