-- Request 12 of document 02: columns do not collide, once over the mode and over every width; what happens without the swizzle; and what
-- the answer of the question means in plain for-alls.
use Rattle.std.specs.Prelude.{Ok, Result, Err}
use mathlib.Core.Path.{◌≡◌, refl, sym, ap, subst, ◌∙◌}
use mathlib.Core.Bool.{true, cond, not}
use Prim.Native.Nat.{ℕ, ◌+◌, ◌-◌, ◌*◌, ◌/◌, ◌%◌, ◌^◌, ◌≤◌, ◌<◌}
use native.Mathlib.Nat.{add-zero, mod-lt, sub-add_cancel}
use native.Mathlib.Omega.{arith}
use borrow.Author.Tests.{lt-ltb}
use lib.Dec.{ltb}
use lib.Pow.{pow-add, pow_pos, pow-lt}
use Rattle.answers.specs.declared.Refusal.{Refusal}
use Rattle.answers.specs.Refusals.{answer}
use Rattle.answers.specs.declared.Numbers.{Numbers}
use Rattle.answers.proofs.OneToOne.{read_back, refused_back, pinned, rung}
use Rattle.swizzle.specs.Swizzle.{swizzled}
use Rattle.swizzle.specs.Mode.{known_bits, bit_length, mode_answer}
use Rattle.swizzle.specs.declared.Swizzle.{Swizzle}
use Rattle.swizzle.proofs.Widths.{known_parts, bits_positive}
use Rattle.swizzle.proofs.Theorems.{no_swizzle, mode_told}
use Rattle.banks_judged.specs.Bank.{bank_word, line_and_bank, bank_answer, bank_numbers}
use Rattle.banks_judged.specs.Columns.{piece_at, InPiece, group_of}
use Rattle.banks_judged.specs.declared.BankWord.{BankWord}
use Rattle.banks_judged.proofs.Groups.{stays_below, most_bits_moved, group_of_piece, group_of_element, group_of_swizzled, rows_apart}
use Rattle.banks_judged.proofs.Pieces.{some_element, elements_of_piece, whole_pieces, piece_number, rows_on}

-- The eight pieces of a column in eight rows that follow each other, swizzled by w, fall on eight different groups of four banks
pub record EightGroups (bits mode first column : ℕ) (w : Swizzle) : Type 0 where
  -- the group on which the piece of a row falls, of the eight of a line
  pub group : ℕ → ℕ
  pub of_eight : (row : ℕ) → group row < 8
  -- every element of the piece lies in that group, with all its bits
  pub whole : (row m i : ℕ) → InPiece bits (piece_at mode first column row) m → i < bits → group_of bits (swizzled w.m w.b w.s m) i ≡ group row
  -- and below 2^32 the question says so: it names a bank of that group
  pub answered : (row m : ℕ) → InPiece bits (piece_at mode first column row) m → m < 2 ^ 32
      → (word : BankWord) × (bank_answer bits (swizzled w.m w.b w.s m) ≡ Ok word) × (word.bank / 4 ≡ group row)
  -- eight rows from any row on have eight different groups
  pub different : (row i j : ℕ) → i < 8 → j < 8 → group (row + i) ≡ group (row + j) → i ≡ j

-- known bits and an address below 2^32 have a line and a bank
pub found : (bits address : ℕ) → known_bits bits ≡ true → address < 2 ^ 32 → bank_answer bits address ≡ Ok (line_and_bank bits address)
found bits address k h = rw (k, lt-ltb address (2 ^ 32) h)

of_known : (bits mode first column : ℕ) → known_bits bits ≡ true → mode ≤ 3 → first % 1024 ≡ 0
    → EightGroups bits mode first column (record { m = bit_length (128 / bits) - 1; b = mode; s = 3 })
of_known bits mode first column k most aligned =
    let M = bit_length (128 / bits) - 1 in
    let piece : ℕ → ℕ = λ row. piece_at mode first column row / 16 in
    let whole : (row m i : ℕ) → InPiece bits (piece_at mode first column row) m → i < bits → group_of bits (swizzled M mode 3 m) i ≡ group_of_piece mode (piece row) =
    λ row m i inside h. group_of_swizzled bits mode m i k h ∙ ap (group_of_piece mode) (piece_number mode first column bits row m aligned inside) in
    record {
      group = λ row. group_of_piece mode (piece row);
      of_eight = λ row. mod-lt _ (omega arith);
      whole = whole;
      answered =
          λ row m inside h. (
            line_and_bank bits (swizzled M mode 3 m),
            found bits (swizzled M mode 3 m) k (stays_below M mode 3 m (most_bits_moved bits mode k most) h),
            ap (λ (n : ℕ). n / 32 % 32 / 4) (sym (add-zero (swizzled M mode 3 m * bits))) ∙ whole row m 0 inside (bits_positive bits k),
          );
      different =
          λ row i j hi hj same.
          rows_apart mode (piece row) i j most hi hj
          (ap (group_of_piece mode) (sym (rows_on mode first column row i)) ∙ same ∙ ap (group_of_piece mode) (rows_on mode first column row j));
    }

-- Request 12 of document 02: rows packed at exactly the mode's width, the first at a multiple of 1,024 bytes, and any column of 16-byte
-- pieces, swizzled by the mode's M, B, S. Mode 0 is left in: its rows are the pieces themselves
pub columns_do_not_collide : (bits mode first column : ℕ) (w : Swizzle) → mode_answer bits mode ≡ Ok w → first % 1024 ≡ 0
    → EightGroups bits mode first column w
columns_do_not_collide bits mode first column w chosen aligned =
    let told = mode_told bits mode w chosen in
    let parts = known_parts bits mode told.0 in
    rw told.1 (of_known bits mode first column parts.0 parts.1 aligned)

-- in the question's answers alone: two elements of the column, in eight rows that follow each other, whose banks are in one group, are of
-- one row
pub banks_do_not_collide : (bits mode first column row i j m n : ℕ) (w : Swizzle) (p q : BankWord) → mode_answer bits mode ≡ Ok w → first % 1024 ≡ 0
    → i < 8 → j < 8 → InPiece bits (piece_at mode first column (row + i)) m → InPiece bits (piece_at mode first column (row + j)) n
    → m < 2 ^ 32 → n < 2 ^ 32 → bank_answer bits (swizzled w.m w.b w.s m) ≡ Ok p → bank_answer bits (swizzled w.m w.b w.s n) ≡ Ok q
    → p.bank / 4 ≡ q.bank / 4 → i ≡ j
banks_do_not_collide bits mode first column row i j m n w p q chosen aligned hi hj inM inN hm hn at_p atQ same =
    let eight = columns_do_not_collide bits mode first column w chosen aligned in
    let x = eight.answered (row + i) m inM hm in
    let y = eight.answered (row + j) n inN hn in
    let at_x = x.1 in
    let at_y = y.1 in
    let own : p ≡ x.0 = cc in
    let other : q ≡ y.0 = cc in
    eight.different row i j hi hj
    (sym x.2 ∙ ap (λ (z : BankWord). z.bank / 4) (sym own) ∙ same ∙ ap (λ (z : BankWord). z.bank / 4) other ∙ y.2)

-- Without the swizzle two of the eight pieces collide: whole lines of 128 bytes, 1, 2 or 4 rows, are between them. For 128B all eight do
pub pieces_collide : (bits mode first column row m n i j : ℕ) → known_bits bits ≡ true → mode ≤ 3 → first % 1024 ≡ 0
    → InPiece bits (piece_at mode first column row) m → InPiece bits (piece_at mode first column (row + 2 ^ (3 - mode))) n
    → i < bits → j < bits → group_of bits m i ≡ group_of bits n j
pieces_collide bits mode first column row m n i j k most aligned inM inN hi hj =
    let piece : ℕ = piece_at mode first column row / 16 in
    let a-line : 2 ^ (3 - mode) * 2 ^ mode ≡ 8 = sym (pow-add 2 (3 - mode) mode) ∙ ap (λ (x : ℕ). 2 ^ x) (sub-add_cancel most) in
    let further : n * bits / 128 ≡ piece + 8 =
    piece_number mode first column bits (row + 2 ^ (3 - mode)) n aligned inN
    ∙ rows_on mode first column row (2 ^ (3 - mode))
    ∙ ap (λ (x : ℕ). piece + x) a-line in
    let wraps : piece % 8 ≡ (piece + 8) % 8 = omega arith in
    group_of_element bits m i k hi
    ∙ ap (λ (x : ℕ). x % 8) (piece_number mode first column bits row m aligned inM)
    ∙ wraps
    ∙ sym (group_of_element bits n j k hj ∙ ap (λ (x : ℕ). x % 8) further)

unswizzled_collide : (bits mode first column : ℕ) → known_bits bits ≡ true → 1 ≤ mode → mode ≤ 3 → first % 1024 ≡ 0
    → EightGroups bits mode first column (record { m = bit_length (128 / bits) - 1; b = 0; s = 3 }) → ⊥
unswizzled_collide bits mode first column k least most aligned eight =
    let far = 2 ^ (3 - mode) in
    let positive = bits_positive bits k in
    let element : ℕ → ℕ = λ row. piece_at mode first column row * 8 / bits + 0 in
    let inside : (row : ℕ) → InPiece bits (piece_at mode first column row) (element row) =
    λ row. elements_of_piece bits (piece_at mode first column row) 0 k (whole_pieces mode first column row aligned) (some_element bits k) in
    let on : (row : ℕ) → group_of bits (element row) 0 ≡ eight.group row =
    λ row.
    ap (λ (m : ℕ). group_of bits m 0) (sym (no_swizzle (bit_length (128 / bits) - 1) 3 (element row)))
    ∙ eight.whole row (element row) 0 (inside row) positive in
    let both : group_of bits (element 0) 0 ≡ group_of bits (element (0 + far)) 0 =
    pieces_collide bits mode first column 0 (element 0) (element (0 + far)) 0 0 k most aligned (inside 0) (inside (0 + far)) positive positive in
    let one-row : 0 ≡ far =
    eight.different 0 0 far (omega arith) (pow-lt {i = 3 - mode} {j = 3} (omega arith)) (sym (on 0) ∙ both ∙ on (0 + far)) in
    omega (arith, one-row, pow_pos (3 - mode))

-- so what holds of the numbers of modes 1, 2 and 3 in their rows does not hold there of mode 0's, which are no swizzle
pub not_without_swizzle : (bits mode first column : ℕ) (w : Swizzle) → mode_answer bits 0 ≡ Ok w → 1 ≤ mode → mode ≤ 3 → first % 1024 ≡ 0
    → EightGroups bits mode first column w → ⊥
not_without_swizzle bits mode first column w chosen least most aligned eight =
    let told = mode_told bits 0 w chosen in
    unswizzled_collide bits mode first column (known_parts bits 0 told.0).0 least most aligned
    (subst (EightGroups bits mode first column) told.1 eight)

-- two outcomes that the promise allows are equal
pub bank_settled : (bits address : ℕ) (p q : Result BankWord Refusal) → p ≡ bank_answer bits address → q ≡ bank_answer bits address → p ≡ q
bank_settled bits address p q e f = e ∙ sym f

-- pinning the numbers pins the answer
word_from : Numbers → Result BankWord Refusal
word_from n = Ok (record { line = n.a; bank = n.b })

bank_back : (p : Result BankWord Refusal) → read_back word_from Err (bank_numbers p) ≡ p
unfolding word_from
bank_back (Ok word) = refl
bank_back (Err r) = refused_back word_from Err r

pub bank_one_to_one : (p q : Result BankWord Refusal) → bank_numbers p ≡ bank_numbers q → p ≡ q
bank_one_to_one = pinned word_from Err bank_numbers bank_back

-- in document 02's numbers: 6, or 10, or 0 with line and bank
pub bank_in_numbers : (bits address : ℕ) (r : Result BankWord Refusal) → r ≡ bank_answer bits address
    → bank_numbers r ≡ cond (not (known_bits bits)) (answer 6 0 0 0) (cond (not (ltb address (2 ^ 32))) (answer 10 0 0 0) (answer 0 (bank_word bits address / 32) (bank_word bits address % 32) 0))
bank_in_numbers bits address r e =
    ap bank_numbers e ∙ rung bank_numbers (not (known_bits bits)) refl (rung bank_numbers (not (ltb address (2 ^ 32))) refl refl)
