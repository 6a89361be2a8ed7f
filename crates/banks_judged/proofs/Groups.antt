-- Where the pieces of a column go, for every width and every mode: pieces are whole units of every swizzle, and from a swizzled piece's
-- group and its column the row is read back.
use mathlib.Core.Path.{◌≡◌, sym, ap, ap₂, subst, ◌∙◌}
use mathlib.Core.Bool.{true}
use Prim.Native.Nat.{ℕ, ◌+◌, ◌-◌, ◌*◌, ◌/◌, ◌%◌, ◌^◌, ◌≤◌, ◌<◌}
use native.Mathlib.Nat.{add-zero, add_comm, mul_comm, mod-mod, sub-add_cancel, div-div-eq-div-mul, div-lt_iff_lt-mul, add-mul-div_right, add-mul-mod_self_right}
use native.Mathlib.Omega.{arith}
use lib.Arith.{digits_div}
use lib.Pow.{pow-add, pow_pos, shr_lt, shr-shr, mod-pow-add, field, mod-mod-pow}
use lib.Bits.{bit_xor, xor_comm, xor_mod}
use Rattle.swizzle.specs.Swizzle.{picked, swizzled}
use Rattle.swizzle.specs.Mode.{known_bits, bit_length}
use Rattle.swizzle.proofs.Xor.{xor_twice}
use Rattle.swizzle.proofs.Laws.{crossed, crossed_high, swizzled_high, swizzled_block}
use Rattle.swizzle.proofs.Widths.{at_known_bits, bits_positive, zeros_known, together}
use Rattle.banks_judged.specs.Columns.{group_of}

-- an element below 2^32 begins at a bit below 2^39
pub word_fits : (bits address : ℕ) → known_bits bits ≡ true → address < 2 ^ 32 → address * bits < 2 ^ 39
word_fits bits address known below =
    at_known_bits (λ n. address * n < 2 ^ 39)
    (omega arith) (omega arith) (omega arith) (omega arith) (omega arith) (omega arith) bits known

-- a swizzle of the low 32 bits leaves an address below 2^32 below it
pub stays_below : (M B S m : ℕ) → M + B ≤ 32 → m < 2 ^ 32 → swizzled M B S m < 2 ^ 32
stays_below M B S m most h =
    let j = 32 - (M + B) in
    let whole : j + (M + B) ≡ 32 = sub-add_cancel most in
    let block : swizzled M B S m / 2 ^ (M + B) < 2 ^ j =
    rw (swizzled_block M B S m) (shr_lt j (M + B) (subst (λ (n : ℕ). m < 2 ^ n) (sym whole) h)) in
    subst (λ (n : ℕ). swizzled M B S m < n) (sym (pow-add 2 j (M + B)) ∙ ap (λ (n : ℕ). 2 ^ n) whole)
    ((div-lt_iff_lt-mul (pow_pos (M + B))).0 block)

-- and the swizzles of the modes are among those
pub most_bits_moved : (bits mode : ℕ) → known_bits bits ≡ true → mode ≤ 3 → bit_length (128 / bits) - 1 + mode ≤ 32
unfolding bit_length
most_bits_moved bits mode k most = omega (arith, (zeros_known bits k).least)

-- the group, of the eight of a line, of the 16-byte piece with this number, swizzled by B bits
abbrev pub group_of_piece : ℕ → ℕ → ℕ
group_of_piece B piece = crossed B 3 piece % 8

-- every bit of an element is in one piece
in_one_piece : (bits address i : ℕ) → known_bits bits ≡ true → i < bits
    → (address * bits + i) / 128 ≡ address / 2 ^ (bit_length (128 / bits) - 1)
in_one_piece bits address i known h =
    let M = bit_length (128 / bits) - 1 in
    ap (λ (n : ℕ). (address * bits + i) / n) (together bits known ∙ mul_comm (2 ^ M) bits)
    ∙ sym (div-div-eq-div-mul (address * bits + i) bits (2 ^ M))
    ∙ ap (λ (n : ℕ). n / 2 ^ M) (digits_div address h)

begins_in : (bits address : ℕ) → known_bits bits ≡ true → address * bits / 128 ≡ address / 2 ^ (bit_length (128 / bits) - 1)
begins_in bits address known =
    ap (λ (n : ℕ). n / 128) (sym (add-zero (address * bits))) ∙ in_one_piece bits address 0 known (bits_positive bits known)

-- and a piece in one group: there are eight, and after them the next line begins
pub group_of_element : (bits address i : ℕ) → known_bits bits ≡ true → i < bits → group_of bits address i ≡ address * bits / 128 % 8
group_of_element bits address i known h =
    let pieces : group_of bits address i ≡ (address * bits + i) / 128 % 8 = omega arith in
    pieces ∙ ap (λ (x : ℕ). x % 8) (in_one_piece bits address i known h ∙ sym (begins_in bits address known))

-- a swizzle moves whole pieces, each width's in the same way
pub group_of_swizzled : (bits mode m i : ℕ) → known_bits bits ≡ true → i < bits
    → group_of bits (swizzled (bit_length (128 / bits) - 1) mode 3 m) i ≡ group_of_piece mode (m * bits / 128)
group_of_swizzled bits mode m i known h =
    let M = bit_length (128 / bits) - 1 in
    let address = swizzled M mode 3 m in
    group_of_element bits address i known h
    ∙ ap (λ (x : ℕ). x % 8) (begins_in bits address known ∙ swizzled_high M mode 3 m ∙ ap (crossed mode 3) (sym (begins_in bits m known)))

-- Of a piece the low B bits of the number are its column, and those above count rows. The group of the swizzled piece has the low bits of
-- the row above, and below the column crossed with its further bits; with the column given, these are read back
row_read_back : (k B piece : ℕ)
    → let group = crossed B (k + B) piece % 2 ^ (k + B) in piece / 2 ^ B % 2 ^ (k + B) ≡ bit_xor (group % 2 ^ B) (piece % 2 ^ B) * 2 ^ k + group / 2 ^ B
row_read_back k B piece =
    let S = k + B in
    let row = piece / 2 ^ B in
    let column = piece % 2 ^ B in
    let further = picked B S piece in
    let above : crossed B S piece % 2 ^ S / 2 ^ B ≡ row % 2 ^ k =
    field (crossed B S piece) k B ∙ ap (λ (n : ℕ). n % 2 ^ k) (crossed_high B S piece B (omega arith)) in
    let below : crossed B S piece % 2 ^ S % 2 ^ B ≡ bit_xor column further =
    mod-mod-pow (crossed B S piece) k B ∙ xor_mod piece further B ∙ ap (bit_xor column) (mod-mod (piece / 2 ^ S) (2 ^ B)) in
    let crossed-back : bit_xor (crossed B S piece % 2 ^ S % 2 ^ B) column ≡ further =
    ap (λ (n : ℕ). bit_xor n column) (below ∙ xor_comm column further) ∙ xor_twice further column in
    ap (λ (n : ℕ). row % 2 ^ n) (add_comm k B)
    ∙ mod-pow-add row B k
    ∙ ap₂ (λ (x y : ℕ). x * 2 ^ k + y)
    (ap (λ (n : ℕ). n % 2 ^ B) (shr-shr piece B k ∙ ap (λ (n : ℕ). piece / 2 ^ n) (add_comm B k)) ∙ sym crossed-back) (sym above)

-- the row, of eight, that a group tells with the column
abbrev row_from : ℕ → ℕ → ℕ → ℕ
row_from B column group = bit_xor (group % 2 ^ B) column * 2 ^ (3 - B) + group / 2 ^ B

row_told : (B piece : ℕ) → B ≤ 3 → piece / 2 ^ B % 8 ≡ row_from B (piece % 2 ^ B) (group_of_piece B piece)
row_told B piece h =
    subst (λ (S : ℕ). piece / 2 ^ B % 2 ^ S ≡ row_from B (piece % 2 ^ B) (crossed B S piece % 2 ^ S)) (sub-add_cancel h) (row_read_back (3 - B) B piece)

-- so of eight pieces of one column, a row apart each, no two have one group
pub rows_apart : (B piece i j : ℕ) → B ≤ 3 → i < 8 → j < 8
    → group_of_piece B (piece + i * 2 ^ B) ≡ group_of_piece B (piece + j * 2 ^ B) → i ≡ j
rows_apart B piece i j most hi hj same =
    let told : (n : ℕ) → (piece / 2 ^ B + n) % 8 ≡ row_from B (piece % 2 ^ B) (group_of_piece B (piece + n * 2 ^ B)) =
    λ n.
    ap (λ (x : ℕ). x % 8) (sym (add-mul-div_right piece n (pow_pos B)))
    ∙ row_told B (piece + n * 2 ^ B) most
    ∙ ap (λ (c : ℕ). row_from B c (group_of_piece B (piece + n * 2 ^ B))) (add-mul-mod_self_right piece n (2 ^ B)) in
    let rows : (piece / 2 ^ B + i) % 8 ≡ (piece / 2 ^ B + j) % 8 = told i ∙ ap (row_from B (piece % 2 ^ B)) same ∙ sym (told j) in
    omega (arith, rows)
