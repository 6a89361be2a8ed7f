-- Refusal 17 of the verdict and of the owner, straight from their promises: given exactly when checks 1 to 6 are passed and this is the pair,
-- case by case of the judgement; it touches nothing.
use Rattle.std.specs.Prelude.{Err, Result, Ok}
use mathlib.Core.Path.{◌≡◌, ap, ◌∙◌}
use mathlib.Core.Logic.{◌↔◌}
use mathlib.Core.List.{List}
use Prim.Native.Nat.{ℕ}
use native.Mathlib.Omega.{arith}
use lib.ListN.{length}
use Rattle.answers.specs.Refusals.{no_refusal}
use Rattle.judgement.specs.declared.Approved.{Approved}
use Rattle.laws.proofs.Rungs.{apart}
use Rattle.answers.specs.declared.Refusal.{Refusal}
use Rattle.answers.specs.declared.Refusal.TheVariants.{Idle}
use Rattle.card.specs.Admission.{admission}
use Rattle.card.specs.declared.Card.{Card}
use Rattle.idle.specs.Idle.{IdlePair}
use Rattle.idle.proofs.Theorems.{idle_exactly}
use Rattle.judgement.specs.Judgement.{Judgement, NotAdmitted, NoRoom, OutsideAt, Clashing, Passed, ComesTo}
use Rattle.judgement.specs.Verdict.{verdict_of, VerdictPromise, OwnerJudgement, NoCell, ByVerdict, OwnerComesTo, read_entry, owner_of, OwnerPromise, verdict_numbers, owner_numbers}
use Rattle.judgement.proofs.Unique.{not_both}
use Rattle.judgement.proofs.Leaves.{verdict_leaves, owner_leaves}

-- an owner is refused as its verdict is
read_refused : (v : Result Approved Refusal) (entry : ℕ) (r : Refusal) → (read_entry v entry ≡ Err r) ↔ (v ≡ Err r)
read_refused (Ok approval) entry r =
    (λ e. absurd (apart (cc)), λ e. absurd (apart (cc)))
read_refused (Err s) entry r = (λ e. let same : s ≡ r = cc in ap Err same, λ e. let same : s ≡ r = cc in ap Err same)

module _ (card : Card) (before after : List ℕ) (a b : ℕ) where
  -- checks 1 to 6 are passed and this is the pair
  abbrev pub PairFound : Type 0
  PairFound = (admission card ≡ no_refusal) × IdlePair card.replica a b

  judged_idle : (j : Judgement) → ComesTo card (length before) j → (verdict_of card j ≡ Err (Idle a b)) ↔ PairFound
  judged_idle j h = (to j h, from j h)
    where
      number : (j : Judgement) → verdict_of card j ≡ Err (Idle a b) → (verdict_numbers (verdict_of card j)).number ≡ 17
      number j e = ap (λ (v : Result Approved Refusal). (verdict_numbers v).number) e

      to : (j : Judgement) → ComesTo card (length before) j → verdict_of card j ≡ Err (Idle a b) → PairFound
      to (NotAdmitted r) h e = let same : r ≡ Idle a b = cc in (idle_exactly card a b).0 (h ∙ ap Err same)
      to NoRoom h e = absurd (omega (arith, number NoRoom e))
      to (OutsideAt flat axis) h e = absurd (omega (arith, number (OutsideAt flat axis) e))
      to (Clashing x y cell) h e = absurd (omega (arith, number (Clashing x y cell) e))
      to (Passed owners n) h e = absurd (omega (arith, number (Passed owners n) e))

      from : (j : Judgement) → ComesTo card (length before) j → PairFound → verdict_of card j ≡ Err (Idle a b)
      from (NotAdmitted r) h p = let full = (idle_exactly card a b).1 p in let same : r ≡ Idle a b = cc in ap Err same
      from NoRoom h p = absurd (not_both card ((idle_exactly card a b).1 p) h.0)
      from (OutsideAt flat axis) h p = absurd (not_both card ((idle_exactly card a b).1 p) h.0.admitted)
      from (Clashing x y cell) h p = absurd (not_both card ((idle_exactly card a b).1 p) h.0.admitted)
      from (Passed owners n) h p = absurd (not_both card ((idle_exactly card a b).1 p) h.0.admitted)

  pub verdict_idle : (v : Result Approved Refusal) → VerdictPromise card before after v
      → ((v ≡ Err (Idle a b)) ↔ PairFound) × (v ≡ Err (Idle a b) → after ≡ before)
  verdict_idle v p = (
    rw p.answers (judged_idle p.judgement p.comes),
    λ e.
        let is = ap (λ (w : Result Approved Refusal). (verdict_numbers w).number) e in
        (verdict_leaves card before after v p).untouched (omega arith) (λ n. omega arith) (λ n. omega arith),
  )

  owner_judged_idle : (coordinates : List ℕ) (j : OwnerJudgement) → OwnerComesTo card coordinates (length before) j
      → (owner_of card coordinates j before ≡ Err (Idle a b)) ↔ PairFound
  owner_judged_idle coordinates (NoCell axis) h =
      (λ e. absurd (apart (cc)), λ p. absurd (not_both card ((idle_exactly card a b).1 p) h.0))
  owner_judged_idle coordinates (ByVerdict j) h =
      let read = read_refused (verdict_of card j) _ (Idle a b) in
      let judged = judged_idle j h.1 in
      (λ e. judged.0 (read.0 e), λ p. read.1 (judged.1 p))

  pub owner_idle : (coordinates : List ℕ) (o : Result ℕ Refusal) → OwnerPromise card coordinates before after o
      → ((o ≡ Err (Idle a b)) ↔ PairFound) × (o ≡ Err (Idle a b) → after ≡ before)
  owner_idle coordinates o p = (
    rw p.answers (owner_judged_idle coordinates p.judgement p.comes),
    λ e.
        let is = ap (λ (w : Result ℕ Refusal). (owner_numbers w).number) e in
        (owner_leaves card coordinates before after o p).untouched (omega arith) (λ n. omega arith) (λ n. omega arith),
  )
