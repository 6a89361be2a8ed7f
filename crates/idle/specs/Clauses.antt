-- What functions above promise: a test, the first combination below another that has its sums, and no pair so far. Nothing here has to be
-- believed.
use Rattle.std.specs.Prelude.{◌≡◌, Bool, true, false, ℕ, ◌≤◌, ◌<◌}
use Rattle.card.specs.declared.Iters.{Iters}
use Rattle.idle.specs.Idle.{SameSums}

-- a yes or no that says whether something holds
pub record Says (holds : Type 0) (answer : Bool) : Type 0 where
  pub yes_holds : answer ≡ true → holds
  pub no_fails : answer ≡ false → holds → ⊥

-- no combination below a has the sums of b
abbrev pub NoneBelow : Iters → ℕ → ℕ → Type 0
NoneBelow replica b a = (x : ℕ) → x < a → SameSums replica x b → ⊥

-- the smallest combination below b with the sums of b, or b
pub record Twin (replica : Iters) (b a : ℕ) : Type 0 where
  pub at_most : a ≤ b
  pub same : a < b → SameSums replica a b
  pub none_below : NoneBelow replica b a

-- no pair has its second below b
abbrev pub NoneBefore : Iters → ℕ → Type 0
NoneBefore replica b = (x y : ℕ) → x < y → y < b → SameSums replica x y → ⊥
