-- One step of an iter, by the sign of its stride: a forward stride moves its axis up alone, a backward one down alone.
use mathlib.Core.Path.{◌≡◌, refl}
use mathlib.Core.Bool.{true, false}
use native.Mathlib.Omega.{arith}
use borrow.Author.Tests.{leb-false}
use lib.Dec.{T}
use lib.IntN.{ℤ, pos, negsuc, nat_abs, ◌-ℤ◌}
use lib.Signed.{le_z, non_neg}
use Rattle.laws.proofs.Parts.{up, down}
use Rattle.laws.proofs.Rungs.{apart}

pub record Forward (z : ℤ) : Type 0 where
  pub natural : T (non_neg z)
  pub rises : nat_abs z ≡ up z
  pub falls : 0 ≡ down z

pub forward : (z : ℤ) → le_z (pos 0) z ≡ true → Forward z
forward (pos n) t = record { natural = tt; rises = refl; falls = refl }
forward (negsuc n) t = absurd (apart (cc))

pub record Backward (z : ℤ) : Type 0 where
  pub rises : 0 ≡ up z
  pub natural : T (non_neg (pos 0 -ℤ z))
  pub falls : nat_abs (pos 0 -ℤ z) ≡ down z
  pub same : nat_abs (pos 0 -ℤ z) ≡ nat_abs z

pub backward : (z : ℤ) → le_z (pos 0) z ≡ false → Backward z
backward (pos n) t = absurd (omega (arith, leb-false 0 n t))
backward (negsuc n) t = record { rises = refl; natural = tt; falls = omega arith; same = omega arith }
