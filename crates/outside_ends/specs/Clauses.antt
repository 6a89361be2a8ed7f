-- What the functions here promise each other. Nothing here has to be believed.
use Rattle.std.specs.Prelude.{ℕ, ◌+◌, ◌^◌, ◌≤◌, ◌<◌, ◌≡◌, Bool, List, ℤ, pos, length, get_or, ◌≤ℤ◌, ◌<ℤ◌}
use Rattle.card.specs.Packed.{beyond}
use Rattle.card.specs.declared.Iters.{Iters}
use Rattle.card.specs.declared.Card.{Card}
use Rattle.rules.specs.Walked.{walked}
use Rattle.outside_reach.specs.Ends.{end_index, end_sum, whole_blocks}

-- sums to which a list of iters added what it adds at a far end
abbrev pub Moves : Bool → Iters → List ℤ → List ℤ → Type 0
Moves up iters before after = after ≡ walked iters (end_index up iters) before

-- the sums of the copy at a far end
pub record EndSums (card : Card) (up : Bool) (sums : List ℤ) : Type 0 where
  pub eight : length sums ≡ 8
  pub there : (axis : ℕ) → axis < 8 → get_or sums axis (pos 0) ≡ end_sum up card axis

-- the whole blocks of m's length
abbrev pub blocks_of : List ℕ → ℕ
blocks_of numbers = whole_blocks (get_or numbers 39 0) (2 ^ (get_or numbers 42 0 + get_or numbers 43 0))

-- m from 0 to below whole blocks
pub record MBetween (low high : ℤ) (numbers : List ℕ) : Type 0 where
  pub from_zero : pos 0 ≤ℤ low
  pub below : high <ℤ pos (blocks_of numbers)

-- the sums low and high lie inside the lengths of a packed card on the first so many axes
pub record BetweenTo (axes : ℕ) (low high : List ℤ) (numbers : List ℕ) : Type 0 where
  pub from_zero : (axis : ℕ) → axis < axes → pos 0 ≤ℤ get_or low axis (pos 0)
  pub below : (axis : ℕ) → axis < axes → get_or high axis (pos 0) <ℤ pos (get_or numbers (32 + axis) 0)

-- and on m inside whole blocks
pub record Between (low high : List ℤ) (numbers : List ℕ) : Type 0 where
  pub axes : BetweenTo 7 low high numbers
  pub m : MBetween (get_or low 7 (pos 0)) (get_or high 7 (pos 0)) numbers

-- what they are judged by: lengths and a swizzle that were admitted
pub record Spaced (numbers : List ℕ) : Type 0 where
  pub short : (axis : ℕ) → axis < 8 → get_or numbers (32 + axis) 0 ≤ beyond
  pub few_bits : get_or numbers 42 0 + get_or numbers 43 0 < 64
