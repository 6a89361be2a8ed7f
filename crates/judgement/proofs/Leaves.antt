-- What the verdict and the owner leave in the lent table, entry by entry, from the judgement: a front of the cells, then what stood there.
use Rattle.std.specs.Prelude.{Result, Ok, Err}
use mathlib.Core.Path.{◌≡◌, refl, sym, ap, ◌∙◌}
use mathlib.Core.Bool.{false, true≢false}
use mathlib.Core.Logic.{◌⊎◌, ⊎_elim}
use mathlib.Core.List.{List, ◌++◌}
use Prim.Native.Nat.{ℕ, ◌+◌, ◌-◌, ◌≤◌, ◌<◌}
use native.Mathlib.Omega.{arith}
use lib.ListN.{length, get_or, drop, replicate, length-replicate, get_or-replicate, get_or-append}
use lib.Seq.{length_front, length-take-le, get_or-append-add, get_or-drop}
use Rattle.judgement.specs.declared.Approved.{Approved}
use Rattle.laws.proofs.Rungs.{apart}
use Rattle.answers.specs.Refusals.{refusal_numbers}
use Rattle.answers.specs.declared.Refusal.{Refusal}
use Rattle.answers.specs.declared.Refusal.TheVariants.{CellOutside}
use Rattle.card.specs.Card.{cells}
use Rattle.card.specs.declared.Card.{Card}
use Rattle.card.proofs.Theorems.{of_table}
use Rattle.rules.specs.RowMajor.{position}
use Rattle.rules.proofs.RowMajor.{FirstPast, first_past_lem}
use Rattle.rules.proofs.Spots.{position_past, outside_past}
use Rattle.idle.proofs.Theorems.{full_number}
use Rattle.judgement.specs.Judgement.{Judgement, NotAdmitted, NoRoom, OutsideAt, Clashing, Passed, ComesTo}
use Rattle.judgement.specs.Verdict.{verdict_of, cleared, table_after, VerdictPromise, OwnerJudgement, NoCell, ByVerdict, OwnerComesTo, read_entry, owner_table_after, owner_of, OwnerPromise, verdict_numbers, owner_numbers}

-- what an answer of this number leaves in the lent table
pub record Leaves (card : Card) (before after : List ℕ) (number : ℕ) : Type 0 where
  -- the table is as long as it was, and entries past the cells stay as they were
  pub long : length after ≡ length before
  pub past : (c : ℕ) → cells card ≤ c → get_or after c 0 ≡ get_or before c 0
  -- 7 and 8 leave the cells all 0
  pub emptied : (number ≡ 7) ⊎ (number ≡ 8) → (c : ℕ) → c < cells card → get_or after c 0 ≡ 0
  -- any other refusal touches nothing
  pub untouched : 0 < number → (number ≡ 7 → ⊥) → (number ≡ 8 → ⊥) → after ≡ before

module _ (card : Card) where
  module _ (before : List ℕ) where
    -- a refusal other than 7 and 8
    leaves_all : (number : ℕ) → (number ≡ 7 → ⊥) → (number ≡ 8 → ⊥) → Leaves card before before number
    leaves_all number not-7 not-8 =
        record {
          long = refl;
          past = λ c h. refl;
          emptied = λ h. absurd (⊎_elim not-7 not-8 h);
          untouched = λ h u v. refl;
        }

    -- a front of the cells
    module _ (front : List ℕ) (size : length front ≡ cells card) (room : cells card ≤ length before) where
      pub front_long : length (front ++ drop (cells card) before) ≡ length before
      front_long = length_front before front (cells card) (size ∙ sym (length-take-le (cells card) before room))

      pub front_past : (c : ℕ) → cells card ≤ c → get_or (front ++ drop (cells card) before) c 0 ≡ get_or before c 0
      front_past c h =
          let k : ℕ = c - cells card in
          let place : length front + k ≡ c = omega arith in
          ap (λ (i : ℕ). get_or (front ++ drop (cells card) before) i 0) (sym place)
          ∙ get_or-append-add front (drop (cells card) before) k 0
          ∙ get_or-drop (cells card) before k 0
          ∙ ap (λ (i : ℕ). get_or before i 0) (omega arith)

    -- cleared, for 7 or 8
    leaves_empty : (number : ℕ) → cells card ≤ length before → ((number ≡ 7 → ⊥) → (number ≡ 8 → ⊥) → ⊥) → Leaves card before (cleared card before) number
    leaves_empty number room is =
        let size = length-replicate {A = ℕ} (cells card) 0 in
        record {
          long = front_long (replicate (cells card) 0) size room;
          past = front_past (replicate (cells card) 0) size room;
          emptied = λ h c k.
              get_or-append (replicate (cells card) 0) (drop (cells card) before) 0 c (omega arith) ∙ get_or-replicate (cells card) c 0 0 k;
          untouched = λ h u v. absurd (is u v);
        }

    judgement_leaves : (j : Judgement) → ComesTo card (length before) j
        → Leaves card before (table_after card j before) (verdict_numbers (verdict_of card j)).number
    judgement_leaves (NotAdmitted r) h =
        let early : of_table (refusal_numbers r).number ≡ false = rw h at (full_number card) in
        leaves_all (refusal_numbers r).number (λ e. true≢false (rw e at early)) (λ e. true≢false (rw e at early))
    judgement_leaves NoRoom h = leaves_all 11 (λ e. omega arith) (λ e. omega arith)
    judgement_leaves (OutsideAt flat axis) h = leaves_empty 7 h.0.enough (λ u v. u refl)
    judgement_leaves (Clashing x y cell) h = leaves_empty 8 h.0.enough (λ u v. v refl)
    judgement_leaves (Passed owners n) h =
        record {
          long = front_long owners h.2.size h.0.enough;
          past = front_past owners h.2.size h.0.enough;
          emptied = λ e. absurd (⊎_elim (λ (z : 0 ≡ 7). omega arith) (λ (z : 0 ≡ 8). omega arith) e);
          untouched = λ e. absurd (omega arith);
        }

same_number : (v : Result Approved Refusal) (entry : ℕ) → (owner_numbers (read_entry v entry)).number ≡ (verdict_numbers v).number
same_number (Ok approval) entry = refl
same_number (Err r) entry = refl

-- of every outcome of the verdict
pub verdict_leaves : (card : Card) (before after : List ℕ) (v : Result Approved Refusal) → VerdictPromise card before after v
    → Leaves card before after (verdict_numbers v).number
verdict_leaves card before after v p = rw (p.answers, p.leaves) (judgement_leaves card before p.judgement p.comes)

-- and of the owner of a cell
pub owner_leaves : (card : Card) (coordinates before after : List ℕ) (owner : Result ℕ Refusal) → OwnerPromise card coordinates before after owner
    → Leaves card before after (owner_numbers owner).number
owner_leaves card coordinates before after owner p = rw (p.answers, p.leaves) (go p.judgement p.comes)
  where
    go : (j : OwnerJudgement) → OwnerComesTo card coordinates (length before) j
        → Leaves card before (owner_table_after card j before) (owner_numbers (owner_of card coordinates j before)).number
    go (NoCell axis) h = leaves_all card before 12 (λ e. omega arith) (λ e. omega arith)
    go (ByVerdict j) h = rw (same_number (verdict_of card j) _) (judgement_leaves card before j h.1)

-- refusal 12 of the owner names the smallest axis on which the asked coordinates lie outside the space
pub owner_outside : (card : Card) (coordinates before after : List ℕ) (axis : ℕ) → length coordinates ≡ length card.lengths
    → OwnerPromise card coordinates before after (Err (CellOutside axis)) → FirstPast card.lengths coordinates axis
owner_outside card coordinates before after axis same p = go p.judgement p.comes p.answers
  where
    named : (j : Judgement) (entry : ℕ) → ComesTo card (length before) j → Err (CellOutside axis) ≡ read_entry (verdict_of card j) entry → ⊥
    named (NotAdmitted r) entry h e =
        let same-refusal : CellOutside axis ≡ r = cc in
        true≢false (rw (h, sym same-refusal) at (full_number card))
    named NoRoom entry h e = apart (cc)
    named (OutsideAt flat a) entry h e = apart (cc)
    named (Clashing x y cell) entry h e = apart (cc)
    named (Passed owners occupied) entry h e = apart (cc)

    go : (j : OwnerJudgement) → OwnerComesTo card coordinates (length before) j → Err (CellOutside axis) ≡ owner_of card coordinates j before
        → FirstPast card.lengths coordinates axis
    go (NoCell a) h e =
        let found : a ≡ axis = cc in
        let past = position_past card.lengths coordinates a (outside_past (position card.lengths coordinates) a h.1) in
        rw (sym found, sym past.1) (first_past_lem card.lengths coordinates same past.0)
    go (ByVerdict j) h e = absurd (named j _ h.1 e)
