-- Which blocks are read, in document 02's words, and both answers in numbers.
use Rattle.std.specs.Prelude.{Ok, Result, ⊤, Err}
use Prim.Native.Nat.{ℕ, ◌≤◌}
use mathlib.Core.Path.{◌≡◌, refl, sym, ap, ◌∙◌}
use mathlib.Core.Bool.{true, cond, not, and-eq-true_iff}
use mathlib.Core.Logic.{◌↔◌}
use mathlib.Core.List.{List, [], ◌++◌}
use native.Mathlib.Omega.{arith}
use borrow.Author.Tests.{le-ltb, le-leb, ltb-false}
use lib.Dec.{leb, ltb}
use lib.ListN.{length, take, drop}
use Rattle.answers.specs.Refusals.{answer, refusal_numbers, no_refusal}
use Rattle.answers.specs.declared.Numbers.{Numbers}
use Rattle.answers.specs.declared.Refusal.{Refusal}
use Rattle.answers.proofs.OneToOne.{rung, read_back, refused_back, pinned}
use Rattle.laws.proofs.Rungs.{apart, passed_by}
use Rattle.card.specs.Lists.{same}
use Rattle.card.specs.Card.{no_card}
use Rattle.card.specs.Admission.{counts_fit, admission}
use Rattle.card.specs.declared.Card.{Card}
use Rattle.card.proofs.ReadBack.{OfEight}
use Rattle.card.proofs.Lists.{same_refl}
use Rattle.card.proofs.Listed.{counted}
use Rattle.book.specs.Bytes.{field}
use Rattle.book.specs.Block.{most_note, block_of, block_length}
use Rattle.book.specs.Book.{card_in, noted_in, note_in, check_right, all_used, read_answer, answer_numbers, write_checked, write_answer, lent_after, card_read, page_of, note_read, NoteBegins}
use Rattle.book.specs.declared.Page.{Page}
use Rattle.book.proofs.Theorems.{passed, answered, ReadBack, read_back_lem}
use Rattle.book.proofs.Unused.{Bytes, UnusedZero, unused_then, then_unused}

few_counts : (b : List ℕ) → counts_fit (card_in b) ≡ true → (field 1 0 b ≤ 8) × (field 1 1 b ≤ 4)
unfolding card_in
few_counts b t = let n = counted (card_in b) t in (n.shard, n.replica)

-- after 11, 19 and 1 a block is read exactly when its note is not too long, every unused byte is zero and every mark is 0 or 1
pub read_exactly : (b : List ℕ) → Bytes b → 512 ≤ length b → check_right b ≡ true → counts_fit (card_in b) ≡ true
    → (read_answer b ≡ no_refusal) ↔ ((noted_in b ≤ most_note) × UnusedZero b)
read_exactly b small room right counts =
    let few = few_counts b counts in (
      λ done. let p = passed b done in (p.noted, then_unused b room p.noted few.0 few.1 p.is),
      λ u.
          answered b (le-ltb (length b) block_length room) right counts
          ((and-eq-true_iff (leb (noted_in b) most_note) (same (take 512 b) (block_of (card_in b) (note_in b)))).1
          (le-leb (noted_in b) most_note u.0, rw (unused_then b room u.0 few.0 few.1 small right u.1) (same_refl (block_of (card_in b) (note_in b))))),
    )

-- reading in numbers: 11 with the length needed, 19, 1, 20, or 0
pub read_in_numbers : (b : List ℕ) (r : Result ⊤ Refusal) → r ≡ read_answer b
    → answer_numbers r
    ≡ cond (ltb (length b) 512) (answer 11 512 0 0)
    (cond (not (check_right b)) (answer 19 0 0 0) (cond (not (counts_fit (card_in b))) (answer 1 0 0 0) (cond (not (all_used b)) (answer 20 0 0 0) (answer 0 0 0 0))))
unfolding read_answer
read_in_numbers b r e =
    ap answer_numbers e
    ∙ rung answer_numbers (ltb (length b) 512) refl
    (rung answer_numbers (not (check_right b)) refl (rung answer_numbers (not (counts_fit (card_in b))) refl (rung answer_numbers (not (all_used b)) refl refl)))

-- what the writer leaves in the lent bytes reads back
pub written_read : (card : Card) (note memory : List ℕ) → OfEight card → write_answer card (length note) (length memory) ≡ no_refusal
    → ReadBack card note (lent_after no_refusal card note memory)
written_read card note memory eight e = split (admission card) refl e
  where
    split : (a : Result ⊤ Refusal) → admission card ≡ a → write_checked a (length note) (length memory) ≡ no_refusal → ReadBack card note (block_of card note ++ drop block_length memory)
    split (Err refusal) is q = absurd (apart (cc))
    split (Ok _) is q =
        let twenty = passed_by (ltb most_note (length note)) q (λ r. apart (cc)) in
        read_back_lem card note (drop block_length memory) eight is (ltb-false most_note (length note) twenty.0)

-- writing in numbers: checks 1 to 6 as the admission has them, 20, 11 with the length needed, or 0
pub write_in_numbers : (card : Card) (noted room : ℕ) (r : Result ⊤ Refusal) → r ≡ write_answer card noted room → admission card ≡ no_refusal
    → answer_numbers r ≡ cond (ltb 292 noted) (answer 20 0 0 0) (cond (ltb room 512) (answer 11 512 0 0) (answer 0 0 0 0))
write_in_numbers card noted room r e admitted =
    ap answer_numbers (e ∙ ap (λ (a : Result ⊤ Refusal). write_checked a noted room) admitted)
    ∙ rung answer_numbers (ltb 292 noted) refl (rung answer_numbers (ltb room 512) refl refl)

pub write_refused : (card : Card) (noted room : ℕ) (r : Result ⊤ Refusal) (refusal : Refusal) → r ≡ write_answer card noted room → admission card ≡ Err refusal
    → answer_numbers r ≡ refusal_numbers refusal
write_refused card noted room r refusal e not = ap answer_numbers (e ∙ ap (λ (a : Result ⊤ Refusal). write_checked a noted room) not)

-- a refused read gives a card of zeros and an empty note, and a refused writing leaves the lent bytes as they were
pub refused_empty : (block : List ℕ) (refusal : Refusal) → read_answer block ≡ Err refusal → ((page_of block).card ≡ no_card) × (note_read (read_answer block) block ≡ [])
refused_empty block refusal e = (ap (λ (r : Result ⊤ Refusal). card_read r block) e, ap (λ (r : Result ⊤ Refusal). note_read r block) e)

pub refused_untouched : (card : Card) (note memory : List ℕ) (r : Result ⊤ Refusal) (refusal : Refusal) → r ≡ Err refusal → lent_after r card note memory ≡ memory
refused_untouched card note memory r refusal e = ap (λ (r : Result ⊤ Refusal). lent_after r card note memory) e

-- pinning the numbers pins the answer
answer_back : (p : Result ⊤ Refusal) → read_back (λ (n : Numbers). no_refusal) Err (answer_numbers p) ≡ p
answer_back (Ok _) = refl
answer_back (Err r) = refused_back (λ (n : Numbers). no_refusal) Err r

pub answer_one_to_one : (p q : Result ⊤ Refusal) → answer_numbers p ≡ answer_numbers q → p ≡ q
answer_one_to_one = pinned (λ (n : Numbers). no_refusal) Err answer_numbers answer_back

-- two notes that the promise allows are equal, in their bytes and in their place
pub note_settled : (block : List ℕ) (start : ℕ × ℕ) (p q : List ℕ) (a b : ℕ × ℕ)
    → p ≡ note_read (read_answer block) block → NoteBegins (read_answer block) start a
    → q ≡ note_read (read_answer block) block → NoteBegins (read_answer block) start b
    → (p ≡ q) × (a.0 ≡ b.0) × (a.1 ≡ b.1)
note_settled block start p q a b e s f t = (e ∙ sym f, s.0 ∙ sym t.0, s.1 ∙ sym t.1)

-- so are two pages, and two outcomes of a writing with what they leave in the lent bytes
pub page_settled : (block : List ℕ) (p q : Page) → p ≡ page_of block → q ≡ page_of block → p ≡ q
page_settled block p q e f = e ∙ sym f

pub write_settled : (card : Card) (note memory : List ℕ) (p q : Result ⊤ Refusal) (m n : List ℕ)
    → (p ≡ write_answer card (length note) (length memory)) × (m ≡ lent_after p card note memory)
    → (q ≡ write_answer card (length note) (length memory)) × (n ≡ lent_after q card note memory)
    → (p ≡ q) × (m ≡ n)
write_settled card note memory p q m n e f =
    let alike : p ≡ q = e.0 ∙ sym f.0 in
    (alike, e.1 ∙ ap (λ (r : Result ⊤ Refusal). lent_after r card note memory) alike ∙ sym f.1)
