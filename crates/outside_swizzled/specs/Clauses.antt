-- What the functions here promise each other. Nothing here has to be believed.
use Rattle.std.specs.Prelude.{ℕ, ◌^◌, ◌≤◌, ◌<◌, List, ℤ, pos, nat_abs, get_or}
use Rattle.card.specs.Limits.{most_elements, last_axis}
use Rattle.card.specs.Card.{elements}
use Rattle.card.specs.Packed.{card_of, Admits}
use Rattle.copies.specs.Clauses.{Permits}
use Rattle.copies_sums.specs.Walks.{roomy}
use Rattle.rules_linear.specs.Leaving.{Leaves}
use Rattle.outside_swizzled.specs.Doubt.{CopiesAdd}

-- what the copies of an element are looked at by: a permitted swizzle, what each copy adds, and m, all far inside a word
pub record Looks (numbers : List ℕ) (adds : List ℤ) (m : ℤ) : Type 0 where
  pub permits : Permits numbers
  pub near_adds : (r : ℕ) → nat_abs (get_or adds r (pos 0)) ≤ 2 ^ 60
  pub near : nat_abs m ≤ 2 ^ 60

-- and those of the elements of a run, of which each has a step more
pub record RunSteps (numbers : List ℕ) (adds : List ℤ) (base step : ℤ) (count : ℕ) : Type 0 where
  pub permits : Permits numbers
  pub near_adds : (r : ℕ) → nat_abs (get_or adds r (pos 0)) ≤ 2 ^ 60
  pub near_base : nat_abs base ≤ roomy
  pub near_step : nat_abs step ≤ roomy
  pub few : count ≤ most_elements

-- an admitted card with what its copies add to m
pub record Doubted (numbers : List ℕ) (strides : List ℤ) (adds : List ℤ) : Type 0 where
  pub admits : Admits numbers strides
  pub adds_there : CopiesAdd (card_of numbers strides) adds

-- elements up to a limit, of which none before a first one leaves on m
pub record NoneLeaving (numbers : List ℕ) (strides : List ℤ) (from limit : ℕ) : Type 0 where
  pub most : limit ≤ elements (card_of numbers strides)
  pub none_before : (f : ℕ) → f < from → Leaves (card_of numbers strides) f last_axis → ⊥
