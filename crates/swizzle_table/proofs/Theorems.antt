-- One table of bytes serves every width of mode 128B: counted in bits all widths have one swizzle, and bytes are whole units of it.
use Rattle.std.specs.Prelude.{Ok}
use mathlib.Core.Path.{◌≡◌, refl, sym, ap₂, ◌∙◌}
use mathlib.Core.Bool.{true}
use Prim.Native.Nat.{ℕ, ◌+◌, ◌-◌, ◌*◌, ◌/◌, ◌%◌, ◌≤◌}
use native.Mathlib.Nat.{add-zero, mul-div_cancel, mul-mod_left}
use native.Mathlib.Omega.{arith}
use lib.Count.{count_leading_zeros}
use Rattle.swizzle.specs.Swizzle.{swizzled}
use Rattle.swizzle.specs.Mode.{known_bits, bit_length, mode_answer}
use Rattle.swizzle.specs.declared.Swizzle.{Swizzle}
use Rattle.swizzle.proofs.Widths.{at_known_bits, known_parts, bits_positive, together}
use Rattle.swizzle.proofs.Theorems.{mode_told}
use Rattle.swizzle_table.proofs.Laws.{whole_units, pattern_repeats}

-- element m begins at bit m * bits of memory: the byte that this bit is in
abbrev pub byte_of : ℕ → ℕ → ℕ
byte_of bits m = m * bits / 8

-- and its number in that byte: 0, or 4 for every second element of 4 bits
abbrev pub bit_of : ℕ → ℕ → ℕ
bit_of bits m = m * bits % 8

-- an element of whole bytes begins so many bytes on for each before it
pub whole_bytes : (bits m : ℕ) → known_bits bits ≡ true → 8 ≤ bits → byte_of bits m ≡ m * (bits / 8)
whole_bytes bits m k =
    at_known_bits (λ n. 8 ≤ n → m * n / 8 ≡ m * (n / 8))
    (λ h. absurd (omega arith)) (λ h. omega arith) (λ h. omega arith) (λ h. omega arith) (λ h. omega arith) (λ h. omega arith) bits k

-- two elements of 4 bits share a byte, and begin at its bits 0 and 4
pub half_bytes : (m : ℕ) → (byte_of 4 m ≡ m / 2) × (bit_of 4 m ≡ 4 * (m % 2))
half_bytes m = (omega arith, omega arith)

-- the table's numbers, 4, 3 and 3, are those of 8-bit elements in mode 128B
pub mode_of_bytes : mode_answer 8 3 ≡ Ok (record { m = 4; b = 3; s = 3 })
unfolding bit_length count_leading_zeros
mode_of_bytes = refl

-- every width, counted in bits, has the one swizzle
pub same_in_bits : (bits m : ℕ) → known_bits bits ≡ true → swizzled 7 3 3 (m * bits) ≡ swizzled (bit_length (128 / bits) - 1) 3 3 m * bits
same_in_bits bits m k =
    let M = bit_length (128 / bits) - 1 in
    let positive = bits_positive bits k in
    whole_units M 7 3 3 bits (m * bits) positive (together bits k)
    ∙ ap₂ (λ (x y : ℕ). swizzled M 3 3 x * bits + y) (mul-div_cancel m positive) (mul-mod_left m bits)
    ∙ add-zero (swizzled M 3 3 m * bits)

pub record ByTable (bits m entry : ℕ) (w : Swizzle) : Type 0 where
  -- the byte where the swizzled element begins is the block of 1,024 of its byte plus the table's entry
  pub byte : byte_of bits (swizzled w.m w.b w.s m) ≡ byte_of bits m / 1024 * 1024 + entry
  -- and it begins at the same bit of that byte
  pub bit : bit_of bits (swizzled w.m w.b w.s m) ≡ bit_of bits m

of_known : (bits m entry : ℕ) → known_bits bits ≡ true → entry ≡ swizzled 4 3 3 (byte_of bits m % 1024)
    → ByTable bits m entry (record { m = bit_length (128 / bits) - 1; b = 3; s = 3 })
of_known bits m entry k e =
    let n : ℕ = m * bits in
    let in_bytes : swizzled (bit_length (128 / bits) - 1) 3 3 m * bits ≡ swizzled 4 3 3 (n / 8) * 8 + n % 8 =
    sym (same_in_bits bits m k) ∙ whole_units 4 7 3 3 8 n (omega arith) refl in
    record {
      byte = omega (arith, pattern_repeats (n / 8));
      bit = omega arith;
    }

-- Request 10 of document 02, for every width and every element address; `entry` is what `table::entry` promises for the byte's place in
-- its block
pub by_table : (bits m entry : ℕ) (w : Swizzle) → mode_answer bits 3 ≡ Ok w → entry ≡ swizzled 4 3 3 (byte_of bits m % 1024)
    → ByTable bits m entry w
by_table bits m entry w chosen e =
    let told = mode_told bits 3 w chosen in
    rw told.1 (of_known bits m entry (known_parts bits 3 told.0).0 e)

-- and `place_of_byte` has both in one: the byte of the swizzled element is the place of the element's byte
pub place_of_element : (bits m r : ℕ) (w : Swizzle) → mode_answer bits 3 ≡ Ok w → r ≡ swizzled 4 3 3 (byte_of bits m)
    → byte_of bits (swizzled w.m w.b w.s m) ≡ r
place_of_element bits m r w chosen e =
    (by_table bits m (swizzled 4 3 3 (byte_of bits m % 1024)) w chosen refl).byte ∙ sym (e ∙ pattern_repeats (byte_of bits m))

-- two places that its promise allows are equal
pub place_settled : (byte p q : ℕ) → p ≡ swizzled 4 3 3 byte → q ≡ swizzled 4 3 3 byte → p ≡ q
place_settled byte p q e f = e ∙ sym f
