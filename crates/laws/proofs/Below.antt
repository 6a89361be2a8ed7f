-- What holds at each number below a bound, by one test that the checker computes: the test of a table in which only the places count.
use mathlib.Core.Path.{◌≡◌}
use mathlib.Core.Bool.{Bool, true}
use Prim.Native.Nat.{ℕ, zero, suc, ◌≤◌, ◌<◌, zero-le}
use native.Mathlib.Omega.{arith}
use lib.ListN.{replicate, length-replicate}
use Rattle.laws.proofs.Table.{every, every_at}

module _ (f : ℕ → Bool) where
  -- the test passes at each number below n
  abbrev pub below : ℕ → Bool
  below n = every (λ (i : ℕ) (u : Unit {0}). f i) 0 (replicate n tt)

  pub below_at : (n : ℕ) → below n ≡ true → (k : ℕ) → k < n → f k ≡ true
  below_at n t k h = every_at (λ (i : ℕ) (u : Unit {0}). f i) (replicate n tt) tt t k (rw length-replicate h)

-- n is none of the numbers below k: what is left of a match after the arms 0, 1, .., k - 1
abbrev pub NoneBelow : ℕ → ℕ → Type 0
NoneBelow zero n = Unit
NoneBelow (suc k) n = NoneBelow k n × (n ≡ k → ⊥)

pub none_below : (k n : ℕ) → NoneBelow k n → k ≤ n
none_below zero n h = zero-le
none_below (suc k) n h = let most : k ≤ n = none_below k n h.0 in let other = h.1 in omega arith
