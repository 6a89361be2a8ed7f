-- Idle copies: document 02, request 8. Two different combinations of a replica that give the same sum on every axis.
use Rattle.std.specs.Prelude.{◌≡◌, ℕ, ◌≤◌, ◌<◌, length, Option, Some, None}
use Rattle.card.specs.Card.{size}
use Rattle.card.specs.declared.Iters.{Iters}
use Rattle.rules.specs.Rules.{axes, part}

-- combinations a and b, counted from 0 with the last replica iter fastest, give the same sum on every axis
abbrev pub SameSums : Iters → ℕ → ℕ → Type 0
SameSums replica a b = (axis : ℕ) → axis < length axes → part replica a axis ≡ part replica b axis

-- the smallest pair of different combinations with the same sums, smallest second first
pub record IdlePair (replica : Iters) (a b : ℕ) : Type 0 where
  pub different : a < b
  pub combination : b < size replica
  pub same : SameSums replica a b
  pub smallest_b : (x y : ℕ) → x < y → y < size replica → SameSums replica x y → b ≤ y
  pub smallest_a : (x : ℕ) → x < b → SameSums replica x b → a ≤ x

-- different combinations never have the same sums
abbrev pub NoIdlePair : Iters → Type 0
NoIdlePair replica = (x y : ℕ) → x < y → y < size replica → SameSums replica x y → ⊥

-- what a search for the pair finds
abbrev pub Finds : Iters → Option (ℕ × ℕ) → Type 0
Finds replica (Some (a, b)) = IdlePair replica a b
Finds replica None = NoIdlePair replica
