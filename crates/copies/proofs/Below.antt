-- A finished sum is below zero or a natural number, and the test against zero says which.
use mathlib.Core.Path.{◌≡◌, refl}
use mathlib.Core.Bool.{true, false}
use native.Mathlib.Omega.{arith}
use borrow.Author.Tests.{ltb-true}
use lib.Dec.{T}
use lib.IntN.{ℤ, pos, negsuc, nat_abs}
use lib.Signed.{lt_z, non_neg}
use Rattle.laws.proofs.Rungs.{apart}
use Rattle.swizzle.specs.Swizzle.{swizzled}
use Rattle.swizzle.specs.declared.Swizzle.{Swizzle}
use Rattle.card.specs.Limits.{most_length}
use Rattle.rules.specs.Rules.{swizzled_z, on_axis}

-- not below zero
pub from_zero : (z : ℤ) → lt_z z (pos 0) ≡ false → T (non_neg z)
from_zero (pos n) t = tt
from_zero (negsuc n) t = absurd (apart (cc))

pub below_axis : (z : ℤ) → lt_z z (pos 0) ≡ true → most_length ≡ on_axis z
below_axis (pos n) t = let h = ltb-true n 0 t in absurd (omega arith)
below_axis (negsuc n) t = refl

pub natural_axis : (z : ℤ) → T (non_neg z) → nat_abs z ≡ on_axis z
natural_axis (pos n) t = refl
natural_axis (negsuc n) t = absurd t

-- and swizzled
pub below_swizzled : (w : Swizzle) (z : ℤ) → lt_z z (pos 0) ≡ true → most_length ≡ on_axis (swizzled_z w z)
below_swizzled w (pos n) t = let h = ltb-true n 0 t in absurd (omega arith)
below_swizzled w (negsuc n) t = refl

pub natural_swizzled : (w : Swizzle) (z : ℤ) → T (non_neg z) → swizzled w.m w.b w.s (nat_abs z) ≡ on_axis (swizzled_z w z)
natural_swizzled w (pos n) t = refl
natural_swizzled w (negsuc n) t = absurd t
