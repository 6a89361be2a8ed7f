-- Where a row of bytes lies in a block, and how fields are read out of it.
use Prim.Native.Nat.{ℕ, zero, suc, ◌+◌, ◌*◌, ◌≤◌, ◌<◌}
use mathlib.Core.Path.{◌≡◌, refl, sym, ap, ◌∙◌}
use mathlib.Core.List.{List, [], ◌∷◌, ◌++◌, append_assoc, append-nil}
use native.Mathlib.Omega.{arith}
use native.Mathlib.Nat.{not-suc-le-zero, mul-suc, mul-zero}
use lib.ListN.{length, get_or, take, drop, length-append, length-drop}
use lib.Seq.{drop-append-add, take-append-le, drop-append-le}
use Rattle.book.specs.Bytes.{bytes_from, gather}

-- a row lies in a block from a byte on
pub record Lies (row : List ℕ) (at : ℕ) (block : List ℕ) : Type 0 where
  pub before : List ℕ
  pub after : List ℕ
  pub starts : length before ≡ at
  pub there : block ≡ before ++ (row ++ after)

-- the whole lies from its start on
pub lies_whole : (l : List ℕ) → Lies l 0 l
lies_whole l = record { before = []; after = []; starts = refl; there = sym (append-nil l) }

-- a part of the row is the part of the block
pub lies_part : (row : List ℕ) (at : ℕ) (block : List ℕ) → Lies row at block → (w j : ℕ) → j + w ≤ length row → bytes_from w (at + j) block ≡ bytes_from w j row
lies_part row at block l w j h =
    rw (l.there, sym l.starts)
    (ap (take w) (drop-append-add l.before (row ++ l.after) j)
    ∙ ap (take w) (drop-append-le j row l.after (omega arith))
    ∙ take-append-le w (drop j row) l.after (omega (arith, length-drop j row)))

-- a row of two lies as both
pub lies_first : (p q : List ℕ) (at : ℕ) (block : List ℕ) → Lies (p ++ q) at block → Lies p at block
lies_first p q at block l = record {
  before = l.before;
  after = q ++ l.after;
  starts = l.starts;
  there = l.there ∙ ap (λ (x : List ℕ). l.before ++ x) (append_assoc p q l.after);
}

pub lies_next : (p q : List ℕ) (at : ℕ) (block : List ℕ) (n : ℕ) → length p ≡ n → Lies (p ++ q) at block → Lies q (at + n) block
lies_next p q at block n long l = record {
  before = l.before ++ p;
  after = l.after;
  starts = length-append l.before p ∙ omega (arith, l.starts);
  there = l.there ∙ ap (λ (x : List ℕ). l.before ++ x) (append_assoc p q l.after) ∙ sym (append_assoc l.before p (q ++ l.after));
}

-- rows of one width lie one after the other
pub lies_row : {A : Type 0} (f : A → List ℕ) (w : ℕ) → ((x : A) → length (f x) ≡ w) → (xs : List A) (at : ℕ) (block : List ℕ) → Lies (gather f xs) at block
    → (k : ℕ) (other : A) → k < length xs → Lies (f (get_or xs k other)) (at + w * k) block
lies_row f w wide [] at block l k other h = absurd (not-suc-le-zero h)
lies_row f w wide (x ∷ xs) at block l zero other h =
    let place : at ≡ at + w * 0 = omega (arith, mul-zero w) in
    rw place at (lies_first (f x) (gather f xs) at block l)
lies_row f w wide (x ∷ xs) at block l (suc k) other h =
    let rest = lies_row f w wide xs (at + w) block (lies_next (f x) (gather f xs) at block w (wide x) l) k other (omega arith) in
    let place : at + w + w * k ≡ at + w * suc k = omega (arith, mul-suc w k) in
    rw place at rest

pub length_gather : {A : Type 0} (f : A → List ℕ) (w : ℕ) → ((x : A) → length (f x) ≡ w) → (xs : List A) → length (gather f xs) ≡ w * length xs
length_gather f w wide [] = sym (mul-zero w)
length_gather f w wide (x ∷ xs) = length-append (f x) (gather f xs) ∙ omega (arith, wide x, length_gather f w wide xs, mul-suc w (length xs))

-- a row of the front of a longer block
pub lies_longer : (row : List ℕ) (at : ℕ) (block rest : List ℕ) → Lies row at block → Lies row at (block ++ rest)
lies_longer row at block rest l = record {
  before = l.before;
  after = l.after ++ rest;
  starts = l.starts;
  there = ap (λ (x : List ℕ). x ++ rest) l.there ∙ append_assoc l.before (row ++ l.after) rest ∙ ap (λ (x : List ℕ). l.before ++ x) (append_assoc row l.after rest);
}
