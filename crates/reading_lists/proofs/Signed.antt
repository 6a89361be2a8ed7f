-- A number of the grammar, with its sign, is far from the limits of 64 bits, so it is read back as it is.
use Prim.Native.Nat.{ℕ, zero, suc, ◌<◌}
use mathlib.Core.Path.{◌≡◌, refl, ap, ◌∙◌, subst⁻¹}
use mathlib.Core.Bool.{Bool, true, false, cond}
use native.Mathlib.Omega.{arith}
use borrow.Author.Tests.{le-leb}
use lib.IntN.{ℤ, pos, negsuc, neg_ℤ, nat_abs, ◌-ℤ◌}
use mir.Syntax.{w64}
use mir.Val.{to_z, of_z, SFits}
use mir.Facts.{to_z-of_z}
use Rattle.laws.proofs.Signed.{far_fits}

pub less : (n : ℕ) → pos 0 -ℤ pos n ≡ neg_ℤ (pos n)
less zero = refl
less (suc n) = rw (le-leb 1 (suc n) (omega arith)) (ap negsuc (omega arith))

far : (negative : Bool) (n : ℕ) → nat_abs (cond negative (neg_ℤ (pos n)) (pos n)) ≡ n
far true zero = refl
far true (suc n) = refl
far false n = refl

pub fits : (negative : Bool) (n : ℕ) → n < 100000 → SFits w64 (cond negative (neg_ℤ (pos n)) (pos n))
fits negative n h = far_fits (omega (arith, far negative n))

-- a result that is such a number
pub as_written : (negative : Bool) (n : ℕ) → n < 100000 → (z : ℤ) → z ≡ cond negative (neg_ℤ (pos n)) (pos n) → to_z w64 (of_z w64 z) ≡ cond negative (neg_ℤ (pos n)) (pos n)
as_written negative n h z e = to_z-of_z (subst⁻¹ (SFits w64) e (fits negative n h)) ∙ e
