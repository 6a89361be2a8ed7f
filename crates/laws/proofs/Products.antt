-- A product that is not 0 has no factor 0.
use Prim.Native.Nat.{ℕ, zero, suc, ◌*◌, ◌<◌}
use native.Mathlib.Nat.{zero-mul, mul-zero}
use native.Mathlib.Omega.{arith}

pub factors : (n m : ℕ) → 0 < n * m → (0 < n) × (0 < m)
factors zero m h = absurd (omega (arith, zero-mul m))
factors (suc n) zero h = absurd (omega (arith, mul-zero (suc n)))
factors (suc n) (suc m) h = (omega arith, omega arith)
