-- Fields of a block byte by byte, and two's complement in a local.
use Prim.Native.Nat.{ℕ, zero, suc, ◌+◌, ◌*◌, ◌-◌, ◌^◌, ◌≤◌, ◌<◌}
use mathlib.Core.Path.{◌≡◌, refl, sym, ap, ◌∙◌}
use mathlib.Core.Bool.{Bool, true, false, cond}
use mathlib.Core.List.{List, [], ◌∷◌}
use native.Mathlib.Omega.{arith}
use native.Mathlib.Numerals.{add-one}
use lib.Dec.{ltb}
use lib.IntN.{ℤ, pos, negsuc}
use mir.Syntax.{w64}
use mir.Val.{SFits, to_z, of_z}
use mir.Facts.{to_z-of_z}
use Rattle.laws.proofs.Signed.{far_fits}
use lib.ListN.{length, get_or, take, drop}
use lib.Seq.{drop-cons}
use Rattle.book.specs.Bytes.{number, field, signed32}

pub drop_next : (l : List ℕ) (i : ℕ) → i < length l → drop i l ≡ get_or l i 0 ∷ drop (i + 1) l
drop_next l i h = drop-cons l i 0 h ∙ ap (λ (n : ℕ). get_or l i 0 ∷ drop n l) (sym (add-one i))

-- a field is its first byte and the field after it
pub field_next : (w at : ℕ) (l : List ℕ) → at < length l → field (suc w) at l ≡ get_or l at 0 + 256 * field w (at + 1) l
field_next w at l h = ap (λ (x : List ℕ). number (take (suc w) x)) (drop_next l at h)

pub field_one : (at : ℕ) (l : List ℕ) → at < length l → field 1 at l ≡ get_or l at 0
field_one at l h = field_next 0 at l h ∙ omega arith

pub field_two : (at : ℕ) (l : List ℕ) → at + 2 ≤ length l → field 2 at l ≡ get_or l at 0 + 256 * get_or l (at + 1) 0
field_two at l h =
    field_next 1 at l (omega arith) ∙ ap (λ (x : ℕ). get_or l at 0 + 256 * x) (field_one (at + 1) l (omega arith))

pub field_pair : (at : ℕ) (l : List ℕ) → at + 2 ≤ length l → field 2 at l ≡ field 1 at l + 256 * field 1 (at + 1) l
field_pair at l h =
    field_next 1 at l (omega arith) ∙ ap (λ (x : ℕ). x + 256 * field 1 (at + 1) l) (sym (field_one at l (omega arith)))

pub field_four : (at : ℕ) (l : List ℕ) → at + 4 ≤ length l
    → field 4 at l ≡ get_or l at 0 + 256 * (get_or l (at + 1) 0 + 256 * (get_or l (at + 2) 0 + 256 * get_or l (at + 3) 0))
field_four at l h =
    let third : at + 1 + 1 ≡ at + 2 = omega arith in
    let last : at + 2 + 1 ≡ at + 3 = omega arith in
    let two : field 2 (at + 1 + 1) l ≡ get_or l (at + 2) 0 + 256 * get_or l (at + 3) 0 = rw (third, field_two (at + 2) l (omega arith), last) in
    field_next 3 at l (omega arith)
    ∙ ap (λ (x : ℕ). get_or l at 0 + 256 * x) (field_next 2 (at + 1) l (omega arith) ∙ ap (λ (x : ℕ). get_or l (at + 1) 0 + 256 * x) two)

-- two's complement of four bytes fits in 64 bits
pub signed_fits : (n : ℕ) → n < 2 ^ 32 → SFits w64 (signed32 n)
signed_fits n h = split (ltb n (2 ^ 31))
  where
    split : (b : Bool) → SFits w64 (cond b (pos n) (negsuc (2 ^ 32 - 1 - n)))
    split true = far_fits (omega arith)
    split false = far_fits (omega arith)

pub stored_signed : {r : ℤ} {n : ℕ} → (r ≡ signed32 n) × (n < 2 ^ 32) → to_z w64 (of_z w64 r) ≡ signed32 n
stored_signed {r} {n} e = rw e.0 (to_z-of_z (signed_fits n e.1))
