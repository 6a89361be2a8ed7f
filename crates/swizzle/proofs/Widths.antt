-- What holds of each of the six widths holds of all known bits; so the leading zeros of 128 / bits are counted once for each width, and
-- 2^M elements of each make 128 bits.
use mathlib.Core.Path.{◌≡◌, refl, subst⁻¹}
use mathlib.Core.Bool.{Bool, true, false, ◌||◌, and-eq-true_iff}
use mathlib.Core.Logic.{◌⊎◌, inl, inr, ⊎_elim}
use Prim.Native.Nat.{ℕ, ◌-◌, ◌*◌, ◌/◌, ◌^◌, ◌≤◌, ◌<◌}
use borrow.Author.Tests.{eqb-true, leb-true}
use lib.Dec.{T, eqb, leb, lit<, lit≤}
use lib.Count.{count_leading_zeros}
use Rattle.swizzle.specs.Mode.{known_bits, known, bit_length}

either : (a b : Bool) → (a || b) ≡ true → (a ≡ true) ⊎ (b ≡ true)
either true b e = inl refl
either false b e = inr e

module _ (P : ℕ → Type 0) where
  one_of : (a : Bool) (n w : ℕ) → (a ≡ true → P n) → P w → (a || eqb n w) ≡ true → P n
  one_of a n w before here e =
      ⊎_elim before (λ (h : eqb n w ≡ true). subst⁻¹ P (eqb-true n w h) here) (either a (eqb n w) e)

  pub at_known_bits : P 4 → P 8 → P 16 → P 32 → P 64 → P 128 → (n : ℕ) → known_bits n ≡ true → P n
  at_known_bits p4 p8 p16 p32 p64 p128 n =
      one_of (eqb n 4 || eqb n 8 || eqb n 16 || eqb n 32 || eqb n 64) n 128
      (one_of (eqb n 4 || eqb n 8 || eqb n 16 || eqb n 32) n 64
      (one_of (eqb n 4 || eqb n 8 || eqb n 16) n 32
      (one_of (eqb n 4 || eqb n 8) n 16
      (one_of (eqb n 4) n 8 (λ (h : eqb n 4 ≡ true). subst⁻¹ P (eqb-true n 4 h) p4) p8) p16) p32) p64) p128

pub known_parts : (bits mode : ℕ) → known bits mode ≡ true → (known_bits bits ≡ true) × (mode ≤ 3)
known_parts bits mode k =
    let both = (and-eq-true_iff (known_bits bits) (leb mode 3)).0 k in (both.0, leb-true mode 3 both.1)

pub bits_positive : (bits : ℕ) → known_bits bits ≡ true → 0 < bits
bits_positive = at_known_bits (λ n. 0 < n) (lit< tt) (lit< tt) (lit< tt) (lit< tt) (lit< tt) (lit< tt)

-- 128 / bits has 2 to the power of 0 to 5, so its leading zeros are 58 to 63
pub record Zeros (zeros : ℕ) : Type 0 where
  pub least : 58 ≤ zeros
  pub most : zeros ≤ 63

zeros_at : (w : ℕ) → T (leb 58 (count_leading_zeros 64 (128 / w))) → T (leb (count_leading_zeros 64 (128 / w)) 63) → Zeros (count_leading_zeros 64 (128 / w))
zeros_at w l m = record { least = lit≤ l; most = lit≤ m }

pub zeros_known : (bits : ℕ) → known_bits bits ≡ true → Zeros (count_leading_zeros 64 (128 / bits))
unfolding count_leading_zeros
zeros_known =
    at_known_bits (λ n. Zeros (count_leading_zeros 64 (128 / n)))
    (zeros_at 4 tt tt) (zeros_at 8 tt tt) (zeros_at 16 tt tt) (zeros_at 32 tt tt) (zeros_at 64 tt tt) (zeros_at 128 tt tt)

-- an element's bits times 2^M are the 128 bits that a mode leaves together
pub together : (bits : ℕ) → known_bits bits ≡ true → 2 ^ 7 ≡ 2 ^ (bit_length (128 / bits) - 1) * bits
unfolding bit_length count_leading_zeros
together = at_known_bits (λ n. 2 ^ 7 ≡ 2 ^ (bit_length (128 / n) - 1) * n) refl refl refl refl refl refl
