-- What the swizzle changes and what it leaves, for all widths: its two parts are bits S to S+B-1, which stay, and bits 0 to B-1, which
-- they are XORed into.
use mathlib.Core.Path.{◌≡◌, sym, ap, ap₂, ◌∙◌}
use mathlib.Core.Bool.{true}
use Prim.Native.Nat.{ℕ, zero, ◌+◌, ◌*◌, ◌/◌, ◌%◌, ◌^◌, ◌≤◌, ◌<◌}
use native.Mathlib.Nat.{mod-lt, div-eq_of_lt, lt_of_lt_of_le, add-zero}
use native.Mathlib.Omega.{arith}
use borrow.Author.Tests.{leb-true}
use lib.Dec.{leb}
use lib.Pow.{pow_pos, pow_mono, split, high, low, shr-shr, shl_exact}
use lib.Bits.{bit_xor, xor_shr, xor_zero_r, xor_block}
use Rattle.laws.proofs.Tests.{four_of}
use Rattle.swizzle.specs.Swizzle.{permitted, picked, swizzled}
use Rattle.swizzle.proofs.Xor.{xor_twice}

-- what a permitted swizzle's numbers are
pub record Permitted (M B S : ℕ) : Type 0 where
  pub most_m : M ≤ 8
  pub most_b : B ≤ 4
  pub most_s : S ≤ 8
  pub not_below : B ≤ S

pub permitted_numbers : (M B S : ℕ) → permitted M B S ≡ true → Permitted M B S
permitted_numbers M B S p =
    let parts = four_of (leb M 8) (leb B 4) (leb S 8) (leb B S) p in
    record {
      most_m = leb-true M 8 parts.0;
      most_b = leb-true B 4 parts.1;
      most_s = leb-true S 8 parts.2;
      not_below = leb-true B S parts.3;
    }

-- x with its bits S to S+B-1 XORed into bits 0 to B-1
abbrev pub crossed : ℕ → ℕ → ℕ → ℕ
crossed B S x = bit_xor x (picked B S x)

picked_below : (B S x : ℕ) → picked B S x < 2 ^ B
picked_below B S x = mod-lt (x / 2 ^ S) (pow_pos B)

-- from bit B on nothing changes
pub crossed_high : (B S x k : ℕ) → B ≤ k → crossed B S x / 2 ^ k ≡ x / 2 ^ k
crossed_high B S x k h =
    xor_shr x (picked B S x) k
    ∙ ap (λ (n : ℕ). bit_xor (x / 2 ^ k) n) (div-eq_of_lt (lt_of_lt_of_le (picked_below B S x) (pow_mono h)))
    ∙ xor_zero_r (x / 2 ^ k)

-- so the same bits are picked again, and XORing them twice gives x back
crossed_twice : (B S x : ℕ) → B ≤ S → crossed B S (crossed B S x) ≡ x
crossed_twice B S x h =
    ap (λ (n : ℕ). bit_xor (crossed B S x) (n % 2 ^ B)) (crossed_high B S x S h)
    ∙ xor_twice x (picked B S x)

module _ (M B S m : ℕ) where
  rest_below : m % 2 ^ M < 2 ^ M
  rest_below = mod-lt m (pow_pos M)

  -- the low M bits stay
  pub swizzled_low : swizzled M B S m % 2 ^ M ≡ m % 2 ^ M
  unfolding swizzled
  swizzled_low = low _ M rest_below

  -- above them x is crossed
  pub swizzled_high : swizzled M B S m / 2 ^ M ≡ crossed B S (m / 2 ^ M)
  unfolding swizzled
  swizzled_high = high (crossed B S (m / 2 ^ M)) M rest_below

  -- from bit M+B on nothing changes: an aligned block of 2^(M+B) addresses is mapped into itself
  pub swizzled_block : swizzled M B S m / 2 ^ (M + B) ≡ m / 2 ^ (M + B)
  swizzled_block =
      sym (shr-shr (swizzled M B S m) M B)
      ∙ ap (λ (n : ℕ). n / 2 ^ B) swizzled_high
      ∙ crossed_high B S (m / 2 ^ M) B (omega arith)
      ∙ shr-shr m M B

-- swizzling twice gives the address back
pub swizzle_twice : (M B S m : ℕ) → B ≤ S → swizzled M B S (swizzled M B S m) ≡ m
unfolding swizzled
swizzle_twice M B S m h =
    ap₂ (λ (x y : ℕ). crossed B S x * 2 ^ M + y) (swizzled_high M B S m) (swizzled_low M B S m)
    ∙ ap (λ (x : ℕ). x * 2 ^ M + m % 2 ^ M) (crossed_twice B S (m / 2 ^ M) h)
    ∙ split m M

-- as the code has it, in 64 bits: the picked bits, shifted up by M, XORed into the address
pub swizzled_shifted : (M B S m : ℕ) → M ≤ 8 → B ≤ 4 → bit_xor m (picked B S (m / 2 ^ M) * 2 ^ M % 2 ^ 64) ≡ swizzled M B S m
unfolding swizzled
swizzled_shifted M B S m hm hb =
    let p = picked B S (m / 2 ^ M) in
    ap₂ (λ (x y : ℕ). bit_xor x y) (sym (split m M))
    (shl_exact B M 64 (picked_below B S (m / 2 ^ M)) (omega arith) ∙ sym (add-zero (p * 2 ^ M)))
    ∙ xor_block M (m / 2 ^ M) p (m % 2 ^ M) zero (rest_below M B S m) (pow_pos M)
    ∙ ap (λ (n : ℕ). crossed B S (m / 2 ^ M) * 2 ^ M + n) (xor_zero_r (m % 2 ^ M))
