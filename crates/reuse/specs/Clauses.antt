-- What the functions here are given: an element of a packed card whose shard's extents can be divided by. Nothing here has to be believed.
use Rattle.std.specs.Prelude.{◌≡◌, true, List, ℕ, ◌<◌, length, get_or, take}
use Rattle.card.specs.Lists.{all, within, product}
use Rattle.card.specs.Limits.{most_extent}
use Rattle.card.specs.Packed.{ListOf}

-- the extents of the listed shard iters
abbrev pub extents_there : List ℕ → List ℕ
extents_there numbers = take (get_or numbers 40 0) numbers

pub record Element (numbers : List ℕ) (flat : ℕ) : Type 0 where
  pub all_numbers : length numbers ≡ 56
  pub of : ListOf numbers 0
  pub some_extents : all (within 1 most_extent) (extents_there numbers) ≡ true
  pub element : flat < product (extents_there numbers)
