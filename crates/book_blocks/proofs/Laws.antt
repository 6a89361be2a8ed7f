-- The check of a block as its loop comes to it, and what is filled.
use Prim.Native.Nat.{ℕ, ◌+◌, ◌*◌, ◌-◌, ◌/◌, ◌≤◌, ◌<◌}
use mathlib.Core.Path.{◌≡◌, refl, sym, ap, ap₂, ◌∙◌}
use mathlib.Core.List.{List, [], ◌∷◌, ◌++◌, append-nil}
use mathlib.Core.Logic.{◌⊎◌, inl, inr}
use native.Mathlib.Omega.{arith}
use native.Mathlib.Nat.{mul-le-mul}
use borrow.Author.Tests.{lt-ltb, le-ltb}
use lib.Dec.{ltb}
use lib.ListN.{length, get_or, set, take, drop, replicate, drop_of_length-le, get_or-append, get_or-eq_default, get_or-replicate, length-append}
use lib.Seq.{slice, slice_empty, sets, sets-eq, ext_get_or, get_or-take, length-take-le, get_or-append-add}
use Rattle.laws.proofs.Lists.{slice_next}
use Rattle.laws.proofs.Order.{le_or_lt}
use Rattle.card.specs.declared.Card.{Card}
use Rattle.card.proofs.ReadBack.{OfEight}
use Rattle.book.specs.Bytes.{bytes}
use Rattle.book.specs.Block.{weighed, most_note, head_bytes, note_bytes, body_of}
use Rattle.book.proofs.Laid.{length_head, length_body}
use Rattle.book_words.specs.Words.{word_of, byte_of}
use Rattle.book_words.proofs.Spread.{head_at}
use Rattle.book_blocks.specs.Filled.{body_byte}

-- the sum of the first n bytes, one byte more
pub weighed_next : (l : List ℕ) (i n : ℕ) → i < n → n ≤ length l → weighed i (slice i n l) ≡ (i + 1) * get_or l i 0 + weighed (i + 1) (slice (i + 1) n l)
weighed_next l i n h long = ap (weighed i) (slice_next l i n 0 h long)

pub weighed_none : (l : List ℕ) (i n : ℕ) → i ≡ n → weighed i (slice i n l) ≡ 0
weighed_none l i n e = rw e (ap (weighed n) (slice_empty n l))

pub turn_small : (i b : ℕ) → i < 508 → b < 256 → (i + 1) * b ≤ 129540
turn_small i b h small = let w : i + 1 ≤ 508 = omega arith in let v : b ≤ 255 = omega arith in mul-le-mul w v

-- four stores at the end of a block
pub check_put : (l : List ℕ) (n : ℕ) → length l ≡ 512 → sets l 508 (bytes 4 n) ≡ take 508 l ++ bytes 4 n
check_put l n e =
    sets-eq (bytes 4 n) l 508 (omega arith)
    ∙ ap (λ (x : List ℕ). take 508 l ++ bytes 4 n ++ x) (drop_of_length-le l {i = 512} (omega arith))
    ∙ append-nil (take 508 l ++ bytes 4 n)

-- the note and its zeros, byte by byte
noted_at : (note : List ℕ) (k : ℕ) → length note ≤ most_note → k < most_note → get_or (note_bytes note) k 0 ≡ get_or note k 0
noted_at note k short h = split (le_or_lt (length note) k)
  where
    split : (length note ≤ k) ⊎ (k < length note) → get_or (note_bytes note) k 0 ≡ get_or note k 0
    split (inl past) =
        let place : k ≡ length note + (k - length note) = omega arith in
        ap (λ (x : ℕ). get_or (note_bytes note) x 0) place
        ∙ get_or-append-add note (replicate (most_note - length note) 0) (k - length note) 0
        ∙ get_or-replicate {A = ℕ} (most_note - length note) (k - length note) 0 0 (omega arith)
        ∙ sym (get_or-eq_default note 0 past)
    split (inr within) = get_or-append note (replicate (most_note - length note) 0) 0 k within

-- bytes 0 to 507, byte by byte
pub body_is : (card : Card) (note words block : List ℕ) → OfEight card → length note ≤ most_note → length block ≡ 512
    → ((i : ℕ) → i < 54 → get_or words i 0 ≡ word_of card (length note) i)
    → ((j : ℕ) → j < 508 → get_or block j 0 ≡ body_byte words note j) → take 508 block ≡ body_of card note
body_is card note words block eight short long right filled =
    let first : length (take 508 block) ≡ 508 = length-take-le 508 block (omega arith) in
    ext_get_or 0 (take 508 block) (body_of card note) (first ∙ sym (length_body card eight note short))
    (λ j h. get_or-take 508 block j 0 (omega arith) ∙ filled j (omega arith) ∙ split j (omega arith) (le_or_lt 216 j))
  where
    split : (j : ℕ) → j < 508 → (216 ≤ j) ⊎ (j < 216) → body_byte words note j ≡ get_or (body_of card note) j 0
    split j h (inl late) =
        let head = length_head card eight (length note) in
        let place : j ≡ length (head_bytes card (length note)) + (j - 216) = omega arith in
        rw (le-ltb j 216 late)
        (sym (ap (λ (x : ℕ). get_or (body_of card note) x 0) place
        ∙ get_or-append-add (head_bytes card (length note)) (note_bytes note) (j - 216) 0
        ∙ noted_at note (j - 216) short (omega arith)))
    split j h (inr early) =
        let head = length_head card eight (length note) in
        rw (lt-ltb j 216 early, right (j / 4) (omega arith))
        (sym (get_or-append (head_bytes card (length note)) (note_bytes note) 0 j (omega arith) ∙ head_at card (length note) eight j early))
