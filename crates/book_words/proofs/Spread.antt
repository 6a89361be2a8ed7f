-- The first 216 bytes of a block are its 54 words, one after the other.
use Prim.Native.Nat.{ℕ, zero, suc, ◌+◌, ◌*◌, ◌-◌, ◌/◌, ◌%◌, ◌^◌, ◌≤◌, ◌<◌}
use mathlib.Core.Path.{◌≡◌, refl, sym, ap, ap₂, ◌∙◌}
use mathlib.Core.Bool.{Bool, true, false, cond}
use mathlib.Core.List.{List, [], ◌∷◌, ◌++◌, map}
use native.Mathlib.Omega.{arith}
use native.Mathlib.Nat.{not-suc-le-zero, mul-add}
use lib.Dec.{ltb}
use lib.IntN.{ℤ, pos}
use lib.ListN.{length, get_or, take, replicate, get_or-append, length-append}
use lib.Seq.{get_or-append-add}
use Rattle.card.specs.Lists.{slots}
use Rattle.card.specs.Card.{none, mark_number}
use Rattle.card.specs.declared.Iter.{Iter}
use Rattle.card.specs.declared.Card.{Card}
use Rattle.card.proofs.ReadBack.{OfEight, eight_slots}
use Rattle.book.specs.Bytes.{bytes, twos, gather}
use Rattle.book.specs.Block.{iter_bytes, slot_bytes, first_bytes, shard_bytes, replica_bytes, offset_bytes, length_bytes, head_bytes}
use Rattle.book.proofs.Theorems.{gather_alike}
use Rattle.book_words.specs.Words.{iter_word, slot_word, first_word, word_of, byte_of}

abbrev pub range : ℕ → ℕ → List ℕ
range a zero = []
range a (suc n) = a ∷ range (a + 1) n

-- a word's first byte
pub byte_first : (w b x : ℕ) → b < 256 → bytes (suc w) (b + 256 * x) ≡ b ∷ bytes w x
byte_first w b x h =
    let low : (b + 256 * x) % 256 ≡ b = omega arith in
    let high : (b + 256 * x) / 256 ≡ x = omega arith in
    rw (low, high)

zero_first : (w x : ℕ) → bytes (suc w) (256 * x) ≡ 0 ∷ bytes w x
zero_first w x =
    let low : (256 * x) % 256 ≡ 0 = omega arith in
    let high : (256 * x) / 256 ≡ x = omega arith in
    rw (low, high)

first_words : (card : Card) (noted : ℕ) → first_bytes card noted ≡ bytes 4 (first_word card noted 0) ++ bytes 4 (first_word card noted 1)
first_words card noted =
    let a = card.shard.count % 256 in
    let b = card.replica.count % 256 in
    let m = card.swizzle.m % 256 in
    let n = card.swizzle.b % 256 in
    let s = card.swizzle.s % 256 in
    let zeroth : bytes 4 (first_word card noted 0) ≡ a ∷ b ∷ m ∷ bytes 1 n =
    byte_first 3 a (b + 256 * (m + 256 * n)) (omega arith)
    ∙ ap (λ (l : List ℕ). a ∷ l) (byte_first 2 b (m + 256 * n) (omega arith) ∙ ap (λ (l : List ℕ). b ∷ l) (byte_first 1 m n (omega arith))) in
    let first : bytes 4 (first_word card noted 1) ≡ s ∷ 0 ∷ bytes 2 noted =
    byte_first 3 s (256 * noted) (omega arith) ∙ ap (λ (l : List ℕ). s ∷ l) (zero_first 2 noted) in
    let last : n % 256 ≡ n = omega arith in
    sym (ap₂ ◌++◌ (zeroth ∙ ap (λ (x : ℕ). a ∷ b ∷ m ∷ x ∷ []) last) first)

iter_words : (iter : Iter) (mark : Bool) → iter_bytes mark iter ≡ gather (λ (j : ℕ). bytes 4 (iter_word iter mark j)) (0 ∷ 1 ∷ 2 ∷ [])
iter_words iter mark = rw (byte_first 3 (iter.axis % 256) (mark_number mark) (omega arith)) (split mark)
  where
    split : (mark : Bool) → iter_bytes mark iter ≡ bytes 4 iter.extent ++ bytes 4 (twos iter.stride) ++ (iter.axis % 256 ∷ bytes 3 (mark_number mark))
    split true = refl
    split false = refl

slot_words : (count : ℕ) (marks : List Bool) (iters : List Iter) (k : ℕ)
    → slot_bytes count marks iters k ≡ gather (λ (j : ℕ). bytes 4 (slot_word count marks iters (3 * k + j))) (0 ∷ 1 ∷ 2 ∷ [])
slot_words count marks iters k =
    let d0 : (3 * k + 0) / 3 ≡ k = omega arith in
    let d1 : (3 * k + 1) / 3 ≡ k = omega arith in
    let d2 : (3 * k + 2) / 3 ≡ k = omega arith in
    let r0 : (3 * k + 0) % 3 ≡ 0 = omega arith in
    let r1 : (3 * k + 1) % 3 ≡ 1 = omega arith in
    let r2 : (3 * k + 2) % 3 ≡ 2 = omega arith in
    rw (d0, d1, d2, r0, r1, r2) (split (ltb k count))
  where
    split : (b : Bool) → cond b (iter_bytes (get_or marks k false) (get_or iters k none)) (replicate 12 0)
        ≡ gather (λ (j : ℕ). bytes 4 (cond b (iter_word (get_or iters k none) (get_or marks k false) j) 0)) (0 ∷ 1 ∷ 2 ∷ [])
    split true = iter_words (get_or iters k none) (get_or marks k false)
    split false = refl

no_mark : (n k : ℕ) → get_or (replicate n false) k false ≡ false
no_mark zero k = refl
no_mark (suc n) zero = refl
no_mark (suc n) (suc k) = no_mark n k

unmarked : (count : ℕ) (iters : List Iter) (k : ℕ) → slot_bytes count [] iters k ≡ slot_bytes count (replicate 8 false) iters k
unmarked count iters k = rw (no_mark 8 k)

pub head_words : (card : Card) (noted : ℕ) → OfEight card → head_bytes card noted ≡ gather (λ (i : ℕ). bytes 4 (word_of card noted i)) (range 0 54)
unfolding head_bytes
head_words card noted eight =
    let shard : shard_bytes card ≡ gather (λ (k : ℕ). gather (λ (j : ℕ). bytes 4 (slot_word card.shard.count card.marks card.shard.at (3 * k + j))) (0 ∷ 1 ∷ 2 ∷ [])) slots =
    gather_alike _ _ (slot_words card.shard.count card.marks card.shard.at) slots in
    let replica : replica_bytes card ≡ gather (λ (k : ℕ). gather (λ (j : ℕ). bytes 4 (slot_word card.replica.count (replicate 8 false) card.replica.at (3 * k + j))) (0 ∷ 1 ∷ 2 ∷ [])) (take 4 slots) =
    gather_alike _ _ (λ k. unmarked card.replica.count card.replica.at k ∙ slot_words card.replica.count (replicate 8 false) card.replica.at k) (take 4 slots) in
    let offset : card.offset ≡ map (λ (k : ℕ). get_or card.offset k (pos 0)) slots = eight_slots (λ (k : ℕ). get_or card.offset k (pos 0)) (pos 0) card.offset eight.offset (λ k h. refl) in
    let lengths : card.lengths ≡ map (λ (k : ℕ). get_or card.lengths k 0) slots = eight_slots (λ (k : ℕ). get_or card.lengths k 0) 0 card.lengths eight.lengths (λ k h. refl) in
    ap₂ ◌++◌ (ap₂ ◌++◌ (ap₂ ◌++◌ (ap₂ ◌++◌ (first_words card noted) shard) replica) (ap offset_bytes offset)) (ap length_bytes lengths)

-- a byte of rows of four
gather_at : (f : ℕ → List ℕ) → ((x : ℕ) → length (f x) ≡ 4) → (xs : List ℕ) (k r : ℕ) → k < length xs → r < 4
    → get_or (gather f xs) (4 * k + r) 0 ≡ get_or (f (get_or xs k 0)) r 0
gather_at f wide [] k r h small = absurd (not-suc-le-zero h)
gather_at f wide (x ∷ xs) zero r h small =
    let place : 4 * 0 + r ≡ r = omega arith in
    rw place (get_or-append (f x) (gather f xs) 0 r (omega (arith, wide x)))
gather_at f wide (x ∷ xs) (suc k) r h small =
    let place : 4 * suc k + r ≡ length (f x) + (4 * k + r) = omega (arith, wide x) in
    rw place (get_or-append-add (f x) (gather f xs) (4 * k + r) 0 ∙ gather_at f wide xs k r (omega arith) small)

byte_at : (n r : ℕ) → r < 4 → get_or (bytes 4 n) r 0 ≡ n / 2 ^ (8 * r) % 256
byte_at n zero h = omega arith
byte_at n (suc zero) h = refl
byte_at n (suc (suc zero)) h = omega arith
byte_at n (suc (suc (suc zero))) h = omega arith
byte_at n (suc (suc (suc (suc r)))) h = absurd (omega arith)

range_at : (a n k : ℕ) → k < n → get_or (range a n) k 0 ≡ a + k
range_at a zero k h = absurd (not-suc-le-zero h)
range_at a (suc n) zero h = omega arith
range_at a (suc n) (suc k) h = range_at (a + 1) n k (omega arith) ∙ omega arith

-- byte j of the head is that of its word
pub head_at : (card : Card) (noted : ℕ) → OfEight card → (j : ℕ) → j < 216 → get_or (head_bytes card noted) j 0 ≡ byte_of (word_of card noted) j
head_at card noted eight j h =
    let place : j ≡ 4 * (j / 4) + j % 4 = omega arith in
    let word : get_or (range 0 54) (j / 4) 0 ≡ j / 4 = range_at 0 54 (j / 4) (omega arith) ∙ omega arith in
    ap (λ (l : List ℕ). get_or l j 0) (head_words card noted eight)
    ∙ ap (λ (x : ℕ). get_or (gather (λ (i : ℕ). bytes 4 (word_of card noted i)) (range 0 54)) x 0) place
    ∙ gather_at (λ (i : ℕ). bytes 4 (word_of card noted i)) (λ x. refl) (range 0 54) (j / 4) (j % 4) (omega arith) (omega arith)
    ∙ ap (λ (i : ℕ). get_or (bytes 4 (word_of card noted i)) (j % 4) 0) word
    ∙ byte_at (word_of card noted (j / 4)) (j % 4) (omega arith)
