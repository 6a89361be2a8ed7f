-- The tests of unused bytes, joined: each says so of its bytes, and together they say that a block is that of what it holds.
use Prim.Native.Nat.{ℕ, ◌+◌, ◌*◌, ◌≤◌, ◌<◌}
use mathlib.Core.Path.{◌≡◌, refl, sym, ap, subst, ◌∙◌}
use mathlib.Core.Bool.{Bool, true, false, ◌&&◌, and-eq-true_iff}
use mathlib.Core.List.{List}
use mathlib.Core.Logic.{◌⊎◌, inl, inr, ◌↔◌}
use native.Mathlib.Omega.{arith}
use borrow.Author.Tests.{le-leb, eqb-true, eq-eqb}
use lib.Dec.{leb, eqb}
use lib.ListN.{length, get_or, take}
use Rattle.laws.proofs.Order.{le_or_lt}
use Rattle.card.specs.Lists.{same}
use Rattle.card.proofs.Lists.{same_true, same_refl}
use Rattle.book.specs.Bytes.{field}
use Rattle.book.specs.Block.{most_note, block_of}
use Rattle.book.specs.Book.{card_in, noted_in, note_in, check_right, all_used}
use Rattle.book.proofs.Unused.{Bytes, UnusedZero, unused_then, then_unused}
use Rattle.book_card.proofs.Laws.{field_one}
use Rattle.book_unused.specs.Unused.{Zeros, End, SlotsEnd}

-- a test and another
pub both : {a b : Bool} {P Q : Type 0} → ((a ≡ true) ↔ P) → ((b ≡ true) ↔ Q) → ((a && b) ≡ true) ↔ (P × Q)
both {a} {b} p q = (
  λ t. let s = (and-eq-true_iff a b).0 t in (p.0 s.0, q.0 s.1),
  λ h. (and-eq-true_iff a b).1 (p.1 h.0, q.1 h.1),
)

pub is_zero : (n : ℕ) → (eqb n 0 ≡ true) ↔ (n ≡ 0)
is_zero n = (eqb-true n 0, eq-eqb n 0)

-- all tests, as they are joined
abbrev pub Tested : List ℕ → ℕ → ℕ → ℕ → Type 0
Tested b s r n =
    (((((get_or b 5 0 ≡ 0) × SlotsEnd b 8 1 s) × SlotsEnd b 104 0 r) × Zeros b (8 + 12 * s) 104) × Zeros b (104 + 12 * r) 152) × Zeros b (216 + n) 508

tested_unused : (b : List ℕ) → Tested b (get_or b 0 0) (get_or b 1 0) (noted_in b) → UnusedZero b
tested_unused b t = record {
  fifth = t.0.0.0.0.0;
  mark = λ k h. let place : 8 + 12 * k + 9 ≡ 17 + 12 * k = omega arith in subst (λ (x : ℕ). get_or b x 0 ≤ 1) place (t.0.0.0.0.1 k h).0;
  shard = λ k i h low high. two (8 + 12 * k + 9) 1 (t.0.0.0.0.1 k h) i (omega arith) (omega arith);
  replica = λ k i h low high. three (104 + 12 * k + 9) (t.0.0.0.1 k h) i (omega arith) (omega arith);
  shard_past = t.0.0.1;
  replica_past = t.0.1;
  past_note = t.1;
}
  where
    two : (at most : ℕ) → End b most at → (i : ℕ) → at + 1 ≤ i → i < at + 3 → get_or b i 0 ≡ 0
    two at most e i low high = split (le_or_lt (at + 2) i)
      where
        split : (at + 2 ≤ i) ⊎ (i < at + 2) → get_or b i 0 ≡ 0
        split (inl late) = let same : i ≡ at + 2 = omega arith in ap (λ (x : ℕ). get_or b x 0) same ∙ e.2
        split (inr early) = let same : i ≡ at + 1 = omega arith in ap (λ (x : ℕ). get_or b x 0) same ∙ e.1

    three : (at : ℕ) → End b 0 at → (i : ℕ) → at ≤ i → i < at + 3 → get_or b i 0 ≡ 0
    three at e i low high = split (le_or_lt (at + 1) i)
      where
        split : (at + 1 ≤ i) ⊎ (i < at + 1) → get_or b i 0 ≡ 0
        split (inl late) = two at 0 e i late high
        split (inr early) = let same : i ≡ at = omega arith in let none = e.0 in ap (λ (x : ℕ). get_or b x 0) same ∙ omega arith

unused_tested : (b : List ℕ) → UnusedZero b → Tested b (get_or b 0 0) (get_or b 1 0) (noted_in b)
unused_tested b u = (
  (
    (
      (
        (
          u.fifth,
          λ k h.
              let place : 17 + 12 * k ≡ 8 + 12 * k + 9 = omega arith in (
                subst (λ (x : ℕ). get_or b x 0 ≤ 1) place (u.mark k h),
                u.shard k (8 + 12 * k + 9 + 1) h (omega arith) (omega arith),
                u.shard k (8 + 12 * k + 9 + 2) h (omega arith) (omega arith),
              ),
        ),
        λ k h.
            let first = u.replica k (104 + 12 * k + 9) h (omega arith) (omega arith) in (
              omega arith,
              u.replica k (104 + 12 * k + 9 + 1) h (omega arith) (omega arith),
              u.replica k (104 + 12 * k + 9 + 2) h (omega arith) (omega arith),
            ),
      ),
      u.shard_past,
    ),
    u.replica_past,
  ),
  u.past_note,
)

-- two tests that hold together are one
alike : (r t : Bool) → (r ≡ true → t ≡ true) → (t ≡ true → r ≡ true) → r ≡ t
alike true t to from = sym (to refl)
alike false true to from = from refl
alike false false to from = refl

module _ (b : List ℕ) (shards replicas noted : ℕ) (small : Bytes b) (room : 512 ≤ length b) (right : check_right b ≡ true) (few : field 1 0 b ≤ 8) (copies : field 1 1 b ≤ 4)
  where
    counted : {t : Bool} → shards ≡ field 1 0 b → replicas ≡ field 1 1 b → noted ≡ noted_in b → ((t ≡ true) ↔ Tested b shards replicas noted)
        → (t ≡ true) ↔ Tested b (get_or b 0 0) (get_or b 1 0) (noted_in b)
    counted {t} first second length-is tested =
        subst (λ (x : ℕ). (t ≡ true) ↔ Tested b x (get_or b 1 0) (noted_in b)) (first ∙ field_one 0 b (omega arith))
        (subst (λ (x : ℕ). (t ≡ true) ↔ Tested b shards x (noted_in b)) (second ∙ field_one 1 b (omega arith))
        (subst (λ (x : ℕ). (t ≡ true) ↔ Tested b shards replicas x) length-is tested))

    -- the joined tests say whether a block is that of what it holds
    pub used_is : shards ≡ field 1 0 b → replicas ≡ field 1 1 b → noted ≡ noted_in b → noted_in b ≤ most_note → (t : Bool)
        → ((t ≡ true) ↔ Tested b shards replicas noted) → t ≡ all_used b
    used_is first second length-is short t tested =
        let says = counted first second length-is tested in
        let parts = and-eq-true_iff (leb (noted_in b) most_note) (same (take 512 b) (block_of (card_in b) (note_in b))) in
        alike t (all_used b)
        (λ holds.
        parts.1
        (le-leb (noted_in b) most_note short, rw (unused_then b room short few copies small right (tested_unused b (says.0 holds))) (same_refl (block_of (card_in b) (note_in b)))))
        (λ holds. says.1 (unused_tested b (then_unused b room short few copies (same_true (take 512 b) (block_of (card_in b) (note_in b)) (parts.0 holds).1))))
