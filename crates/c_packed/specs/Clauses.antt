-- What the functions here promise each other. Nothing here has to be believed.
use Rattle.std.specs.Prelude.{ℕ, ◌+◌, ◌*◌, ◌<◌, ◌≡◌, List, length, get_or}

-- the first k entries of one column of eight were put into a list, and its other columns stay
pub record Put {A : Type 0} (other : A) (column k : ℕ) (value : ℕ → A) (before after : List A) : Type 0 where
  pub whole : length after ≡ length before
  pub there : (j : ℕ) → j < k → get_or after (8 * column + j) other ≡ value j
  pub others : (c j : ℕ) → j < 8 → (c ≡ column → ⊥) → get_or after (8 * c + j) other ≡ get_or before (8 * c + j) other
