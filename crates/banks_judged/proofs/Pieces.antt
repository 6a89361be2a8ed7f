-- Pieces in rows: their numbers follow from the bytes at which they begin, since rows are whole pieces and the first is at a multiple of 1,024.
use mathlib.Core.Path.{◌≡◌, sym, ap, ◌∙◌}
use mathlib.Core.Bool.{true}
use Prim.Native.Nat.{ℕ, ◌+◌, ◌*◌, ◌/◌, ◌%◌, ◌^◌, ◌≤◌, ◌<◌}
use native.Mathlib.Nat.{add-mul, mul_assoc, mul_comm}
use native.Mathlib.Omega.{arith}
use lib.Dec.{lit<}
use Rattle.swizzle.specs.Mode.{known_bits}
use Rattle.swizzle.proofs.Widths.{at_known_bits}
use Rattle.banks_judged.specs.Columns.{width, piece_at, InPiece}

-- a piece has its elements: 128 / bits of them, from the one that begins where it begins
pub elements_of_piece : (bits byte e : ℕ) → known_bits bits ≡ true → byte % 16 ≡ 0 → e < 128 / bits → InPiece bits byte (byte * 8 / bits + e)
elements_of_piece bits byte e k aligned =
    at_known_bits (λ n. e < 128 / n → InPiece n byte (byte * 8 / n + e))
    (λ h. record { from = omega arith; before = omega arith })
    (λ h. record { from = omega arith; before = omega arith })
    (λ h. record { from = omega arith; before = omega arith })
    (λ h. record { from = omega arith; before = omega arith })
    (λ h. record { from = omega arith; before = omega arith })
    (λ h. record { from = omega arith; before = omega arith }) bits k

-- one at least
pub some_element : (bits : ℕ) → known_bits bits ≡ true → 0 < 128 / bits
some_element = at_known_bits (λ n. 0 < 128 / n) (lit< tt) (lit< tt) (lit< tt) (lit< tt) (lit< tt) (lit< tt)

module _ (mode first column : ℕ) where
  -- a row is 2^mode pieces
  row_of_pieces : (n : ℕ) → n * width mode ≡ n * 2 ^ mode * 16
  row_of_pieces n = ap (λ (x : ℕ). n * x) (mul_comm 16 (2 ^ mode)) ∙ sym (mul_assoc n (2 ^ mode) 16)

  -- so each row is 2^mode pieces further on
  pub rows_on : (row i : ℕ) → piece_at mode first column (row + i) / 16 ≡ piece_at mode first column row / 16 + i * 2 ^ mode
  rows_on row i = omega (arith, row_of_pieces row, row_of_pieces i, row_of_pieces (row + i), add-mul row i (2 ^ mode))

  pub whole_pieces : (row : ℕ) → first % 1024 ≡ 0 → piece_at mode first column row % 16 ≡ 0
  whole_pieces row aligned = omega (arith, row_of_pieces row)

  -- and an element is in the piece whose number its bits tell
  pub piece_number : (bits row m : ℕ) → first % 1024 ≡ 0 → InPiece bits (piece_at mode first column row) m
      → m * bits / 128 ≡ piece_at mode first column row / 16
  piece_number bits row m aligned inside =
      let byte : ℕ = piece_at mode first column row in
      let n : ℕ = m * bits in
      let from : byte * 8 ≤ n = inside.from in
      let before : n < (byte + 16) * 8 = inside.before in
      let whole : byte % 16 ≡ 0 = whole_pieces row aligned in
      omega (arith, from, before, whole)
