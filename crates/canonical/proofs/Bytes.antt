-- Source document 001's swizzles are over bytes, document 01's over elements: Swizzle<B, 4, 3> of a byte is the byte of the element that the
-- mode's M, B, S give.
use mathlib.Core.Path.{◌≡◌, sym, ap, ap₂, ◌∙◌}
use mathlib.Core.Bool.{true}
use Prim.Native.Nat.{ℕ, ◌+◌, ◌-◌, ◌*◌, ◌/◌, ◌%◌, ◌^◌, ◌<◌}
use native.Mathlib.Nat.{add_comm}
use lib.Count.{count_leading_zeros}
use lib.Pow.{split, high, low, shr-shr, field, mod-mod-pow}
use Rattle.swizzle.specs.Swizzle.{swizzled}
use Rattle.swizzle.specs.Mode.{known_bits, bit_length}
use Rattle.swizzle.proofs.Laws.{crossed, swizzled_high, swizzled_low}
use Rattle.swizzle.proofs.Widths.{at_known_bits}

module _ (M B S j : ℕ) where
  -- addresses in units of 2^j: what a swizzle does to them, it does with M that much less
  pub coarser : (x : ℕ) → swizzled (M + j) B S x / 2 ^ j ≡ swizzled M B S (x / 2 ^ j)
  unfolding swizzled
  coarser x =
      let y = swizzled (M + j) B S x in
      let swap : (n : ℕ) → n / 2 ^ j / 2 ^ M ≡ n / 2 ^ (M + j) = λ n. shr-shr n j M ∙ ap (λ (e : ℕ). n / 2 ^ e) (add_comm j M) in
      let above : y / 2 ^ j / 2 ^ M ≡ crossed B S (x / 2 ^ j / 2 ^ M) = swap y ∙ swizzled_high (M + j) B S x ∙ ap (crossed B S) (sym (swap x)) in
      let below : y / 2 ^ j % 2 ^ M ≡ x / 2 ^ j % 2 ^ M = sym (field y M j) ∙ ap (λ (n : ℕ). n / 2 ^ j) (swizzled_low (M + j) B S x) ∙ field x M j in
      sym (split (y / 2 ^ j) M) ∙ ap₂ (λ (h l : ℕ). h * 2 ^ M + l) above below

  -- and what is below a unit stays
  within_unit : (x : ℕ) → swizzled (M + j) B S x % 2 ^ j ≡ x % 2 ^ j
  within_unit x =
      sym (mod-mod-pow (swizzled (M + j) B S x) M j) ∙ ap (λ (n : ℕ). n % 2 ^ j) (swizzled_low (M + j) B S x) ∙ mod-mod-pow x M j

  pub in_units : (a i : ℕ) → i < 2 ^ j → swizzled (M + j) B S (a * 2 ^ j + i) ≡ swizzled M B S a * 2 ^ j + i
  in_units a i h =
      let x = a * 2 ^ j + i in
      sym (split (swizzled (M + j) B S x) j)
      ∙ ap₂ (λ (u l : ℕ). u * 2 ^ j + l) (coarser x ∙ ap (swizzled M B S) (high a j h)) (within_unit x ∙ low a j h)

-- over bits every width's swizzle is one, with M = 7
pub over_bits : (bits mode a i : ℕ) → known_bits bits ≡ true → i < bits
    → swizzled 7 mode 3 (a * bits + i) ≡ swizzled (bit_length (128 / bits) - 1) mode 3 a * bits + i
unfolding bit_length count_leading_zeros
over_bits bits mode a i =
    at_known_bits (λ n. i < n → swizzled 7 mode 3 (a * n + i) ≡ swizzled (bit_length (128 / n) - 1) mode 3 a * n + i)
    (in_units 5 mode 3 2 a i) (in_units 4 mode 3 3 a i) (in_units 3 mode 3 4 a i) (in_units 2 mode 3 5 a i) (in_units 1 mode 3 6 a i)
    (in_units 0 mode 3 7 a i) bits

-- the table's column of swizzles: bit i of element a is in a byte that Swizzle<mode, 4, 3> takes to the byte of bit i of the swizzled element
pub over_bytes : (bits mode a i : ℕ) → known_bits bits ≡ true → i < bits
    → swizzled 4 mode 3 ((a * bits + i) / 8) ≡ (swizzled (bit_length (128 / bits) - 1) mode 3 a * bits + i) / 8
over_bytes bits mode a i known h = sym (coarser 4 mode 3 3 (a * bits + i)) ∙ ap (λ (n : ℕ). n / 8) (over_bits bits mode a i known h)
