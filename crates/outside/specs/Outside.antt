-- What lies outside the space, as the verdict needs it, and how it is found. Nothing here has to be believed: a finding is what judgement says.
use Rattle.std.specs.Prelude.{ℕ, ◌+◌, ◌*◌, ◌/◌, ◌%◌, ◌≤◌, ◌<◌, true, false, List, ℤ, Option, Some, None}
use Rattle.outside.specs.declared.Outside.{Outside}
use Rattle.card.specs.Card.{elements}
use Rattle.card.specs.Packed.{card_of, Admits}
use Rattle.card.specs.declared.Card.{Card}
use Rattle.rules_linear.specs.Leaving.{Leaves}
use Rattle.judgement.specs.Judgement.{AllInside, FirstOutside}
use Rattle.outside_ends.specs.Clauses.{EndSums}

-- what a search for the first element outside finds
abbrev pub FindsOutside : Card → Option Outside → Type 0
FindsOutside card (Some found) = FirstOutside card found.flat.0 found.axis
FindsOutside card None = AllInside card

-- an element and one of eight axes as one number, the smallest of those that leave on the first so many axes: the first element, and then its smallest
-- axis; where none leaves, past all elements
pub record FirstWord (card : Card) (axes word : ℕ) : Type 0 where
  pub most : word ≤ 8 * elements card
  pub leaves : word < 8 * elements card → Leaves card (word / 8) (word % 8)
  pub least : (f a : ℕ) → f < elements card → a < axes → Leaves card f a → word ≤ 8 * f + a

-- an admitted card and its far ends
pub record Ended (numbers : List ℕ) (strides : List ℤ) (low high : List ℤ) : Type 0 where
  pub admits : Admits numbers strides
  pub low_there : EndSums (card_of numbers strides) false low
  pub high_there : EndSums (card_of numbers strides) true high
