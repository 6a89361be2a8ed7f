-- What lets one table of bytes serve every width: a swizzle of finer addresses moves whole units, and the pattern repeats from block to block.
use mathlib.Core.Path.{◌≡◌, sym, ap, ap₂, ◌∙◌}
use Prim.Native.Nat.{ℕ, ◌+◌, ◌*◌, ◌/◌, ◌%◌, ◌^◌, ◌<◌}
use native.Mathlib.Nat.{add_assoc, add-mul, mul_assoc, mul_comm, div-div-eq-div-mul}
use native.Mathlib.Omega.{arith}
use lib.Arith.{mod-mul}
use lib.Pow.{pow_pos}
use lib.Bits.{bit_xor, xor_zero_r, xor_block}
use Rattle.swizzle.specs.Swizzle.{picked, swizzled}

-- of addresses that count c to a unit: where 2^N is c times 2^M, the unit goes where M sends it, and what lies within it stays
pub whole_units : (M N B S c n : ℕ) → 0 < c → 2 ^ N ≡ 2 ^ M * c → swizzled N B S n ≡ swizzled M B S (n / c) * c + n % c
unfolding swizzled
whole_units M N B S c n positive e =
    let u = n / c in
    let high : n / (2 ^ M * c) ≡ u / 2 ^ M =
    ap (λ (z : ℕ). n / z) (mul_comm (2 ^ M) c) ∙ sym (div-div-eq-div-mul n c (2 ^ M)) in
    let crossed = bit_xor (u / 2 ^ M) (picked B S (u / 2 ^ M)) in
    ap (λ (z : ℕ). bit_xor (n / z) (picked B S (n / z)) * z + n % z) e
    ∙ ap₂ (λ (x y : ℕ). bit_xor x (picked B S x) * (2 ^ M * c) + y) high (mod-mul n (pow_pos M) positive)
    ∙ ap (λ (z : ℕ). z + (u % 2 ^ M * c + n % c)) (sym (mul_assoc crossed (2 ^ M) c))
    ∙ sym (add_assoc (crossed * 2 ^ M * c) (u % 2 ^ M * c) (n % c))
    ∙ ap (λ (z : ℕ). z + n % c) (sym (add-mul (crossed * 2 ^ M) (u % 2 ^ M) c))

-- 16-byte pieces are numbered by bits 4 to 9: eight in a row, eight rows; a block of 1,024 bytes has them all
pub pattern_repeats : (n : ℕ) → swizzled 4 3 3 n ≡ n / 1024 * 1024 + swizzled 4 3 3 (n % 1024)
unfolding swizzled
pattern_repeats n =
    let q = n / 1024 in
    let piece = n % 1024 / 16 in
    let row = picked 3 3 piece in
    let own : n / 16 ≡ q * 64 + piece = omega arith in
    let other : picked 3 3 (n / 16) ≡ 0 * 64 + row = omega arith in
    let crossed : bit_xor (n / 16) (picked 3 3 (n / 16)) ≡ q * 64 + bit_xor piece row =
    ap₂ bit_xor own other
    ∙ xor_block 6 q 0 piece row (omega arith) (omega arith)
    ∙ ap (λ (z : ℕ). z * 64 + bit_xor piece row) (xor_zero_r q) in
    ap (λ (z : ℕ). z * 16 + n % 16) crossed ∙ omega arith
