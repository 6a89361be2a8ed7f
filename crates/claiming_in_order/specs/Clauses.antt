-- What the functions inside promise each other: an admitted card, packed, and a row for the copies of one element.
use Rattle.std.specs.Prelude.{◌≡◌, List, ℕ, ◌<◌, ℤ, length, Ok}
use Rattle.answers.specs.Refusals.{no_refusal}
use Rattle.card.specs.Card.{elements, copies}
use Rattle.card.specs.Packed.{card_of, Whole, Admits}
use Rattle.rules.specs.Copies.{copy_cells}
use Rattle.idle.specs.Admission.{full_admission}
use Rattle.claims.specs.Rows.{entry_met}
use Rattle.claiming_runs.specs.Clauses.{Claimable}

-- what a pass over the elements is lent: an admitted card, packed, how many elements it has, and a row as long as its copies
pub record Pass (numbers : List ℕ) (strides : List ℤ) (count : ℕ) (row : List ℕ) : Type 0 where
  pub whole : Whole numbers strides
  pub admitted : full_admission (card_of numbers strides) ≡ no_refusal
  pub all_elements : count ≡ elements (card_of numbers strides)
  pub one_each : length row ≡ copies (card_of numbers strides)

-- an element that meets an owner
pub record Met (numbers : List ℕ) (strides : List ℤ) (flat : ℕ) (row table : List ℕ) : Type 0 where
  pub admits : Admits numbers strides
  pub one_each : length row ≡ copies (card_of numbers strides)
  pub claimable : Claimable (card_of numbers strides) flat table
  pub meets : 0 < entry_met table (copy_cells (card_of numbers strides) flat)
