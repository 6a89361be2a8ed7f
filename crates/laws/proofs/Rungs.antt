-- A ladder of checks is one `cond` in another: what the outcome says of a rung.
use mathlib.Core.Path.{◌≡◌, refl}
use mathlib.Core.Bool.{Bool, true, false, cond}
use Prim.Native.Nat.{ℕ}
use native.Mathlib.Omega.{arith}

-- two different constructors are not equal: of an equation between them `cc` proves 0 ≡ 1
pub apart : ◌≡◌ {A = ℕ} 0 1 → ⊥
apart e = omega arith

module _ {A : Type 0} {x y v : A} where
  -- what stands on the rung is not the outcome, so the rung was passed
  pub passed_by : (b : Bool) → cond b x y ≡ v → (x ≡ v → ⊥) → (b ≡ false) × (y ≡ v)
  passed_by true e other = absurd (other e)
  passed_by false e other = (refl, e)

  -- what stands after the rung is not the outcome, so the ladder ended there
  pub ended_at : (b : Bool) → cond b x y ≡ v → (y ≡ v → ⊥) → (b ≡ true) × (x ≡ v)
  ended_at true e other = (refl, e)
  ended_at false e other = absurd (other e)
