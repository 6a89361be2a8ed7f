-- Of two numbers one is at most the other or above it, by the native comparison.
use mathlib.Core.Logic.{◌⊎◌, inl, inr}
use Prim.Native.Nat.{ℕ, ◌≤◌, ◌<◌}
use native.Mathlib.Decide.{dec_le}
use native.Mathlib.Omega.{arith}

pub le_or_lt : (m n : ℕ) → (m ≤ n) ⊎ (n < m)
le_or_lt m n = split (dec_le m n)
  where
    split : Dec (m ≤ n) → (m ≤ n) ⊎ (n < m)
    split (yes h) = inl h
    split (no h) = inr (omega arith)
