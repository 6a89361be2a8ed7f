-- The longest beginning of a text that some correct text also has.
use Rattle.std.specs.Prelude.{ℕ, ◌≤◌, ◌<◌, List, ◌++◌, length, take}

-- a text that some rest makes correct
pub record Begins (Correct : List ℕ → Type 0) (text : List ℕ) : Type 0 where
  pub rest : List ℕ
  pub correct : Correct (text ++ rest)

-- the text is not correct, and its first a bytes are its longest beginning
pub record Refused (Correct : List ℕ → Type 0) (text : List ℕ) (a : ℕ) : Type 0 where
  pub within : a ≤ length text
  pub begins : Begins Correct (take a text)
  pub longest : (k : ℕ) → a < k → k ≤ length text → Begins Correct (take k text) → ⊥
  pub incorrect : Correct text → ⊥
