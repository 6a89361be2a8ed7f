-- The verdict's promise, case by case: first in a table of exactly the cells, then in the caller's table, whose entries past the cells stay.
use Rattle.std.specs.Prelude.{Err, Ok, Result}
use mathlib.Core.Path.{◌≡◌, refl, sym, ap, ap₂, ◌∙◌, subst}
use mathlib.Core.List.{List, ◌++◌, append-nil}
use Prim.Native.Nat.{ℕ, ◌-◌, ◌≤◌, ◌<◌}
use native.Mathlib.Omega.{arith}
use lib.ListN.{length, take, drop, replicate, drop_of_length-le, take-append-drop}
use lib.Seq.{length-take-le}
use Rattle.answers.specs.Refusals.{no_refusal}
use Rattle.judgement.specs.declared.Approved.{Approved}
use Rattle.laws.proofs.Rungs.{apart}
use Rattle.answers.specs.declared.Flat.{Flat}
use Rattle.answers.specs.declared.Refusal.{Refusal}
use Rattle.answers.specs.declared.Refusal.TheVariants.{CopyOutside, TooShort}
use Rattle.card.specs.Card.{elements, cells}
use Rattle.card.specs.declared.Card.{Card}
use Rattle.idle.specs.Admission.{full_admission}
use Rattle.claims.specs.Claims.{FirstClash, OwnedTable as Owned}
use Rattle.claims.specs.Rows.{entry_met, cell_met}
use Rattle.owners.specs.Owners.{clash_of}
use Rattle.judgement.specs.Judgement.{placed, AllInside, FirstOutside, Judgement, NotAdmitted, NoRoom, OutsideAt, Clashing, Passed, Judged, ComesTo}
use Rattle.judgement.specs.Verdict.{table_after, VerdictPromise, approved_with}

-- nothing is past a table of exactly the cells
none_past : (n : ℕ) (table : List ℕ) → length table ≡ n → (t : List ℕ) → t ≡ t ++ drop n table
none_past n table e t = sym (ap (λ (l : List ℕ). t ++ l) (drop_of_length-le table {i = n} (omega arith)) ∙ append-nil t)

-- an admitted card and a table of exactly its cells
module _ (card : Card) (before : List ℕ) (admitted : full_admission card ≡ no_refusal) (exact : length before ≡ cells card) where
  judged : Judged card (length before)
  judged = record { admitted = admitted; enough = omega arith }

  nothing_past : (t : List ℕ) → t ≡ t ++ drop (cells card) before
  nothing_past = none_past (cells card) before exact

  pub outside_promise : {after : List ℕ} (flat : Flat) (axis : ℕ) → FirstOutside card flat.0 axis → after ≡ replicate (cells card) 0
      → VerdictPromise card before after (Err (CopyOutside flat axis))
  outside_promise {after} flat axis first e = record {
    judgement = OutsideAt flat.0 axis;
    comes = (judged, first);
    answers = refl;
    leaves = e ∙ nothing_past (replicate (cells card) 0);
  }

  module _ (inside : AllInside card) where
    pub clash_promise : {after : List ℕ} (table row : List ℕ) (flat : Flat)
        → FirstClash (placed card) (elements card) (entry_met table row - 1) flat.0 (cell_met table (entry_met table row) row - 1)
        → {refusal : Refusal} → refusal ≡ clash_of table row flat → after ≡ replicate (cells card) 0
        → VerdictPromise card before after (Err refusal)
    clash_promise {after} table row flat first {refusal} r e = record {
      judgement = Clashing (entry_met table row - 1) flat.0 (cell_met table (entry_met table row) row - 1);
      comes = (judged, inside, first);
      answers = ap Err r;
      leaves = e ∙ nothing_past (replicate (cells card) 0);
    }

    pub approved_promise : {after : List ℕ} {n count m : ℕ} → Owned (placed card) (elements card) (cells card) after count → n ≡ elements card → m ≡ cells card
        → VerdictPromise card before after (approved_with n count m)
    approved_promise {after} {n} {count} {m} owned e d = record {
      judgement = Passed after count;
      comes = (judged, inside, owned);
      answers = ap₂ (λ (n m : ℕ). approved_with n count m) e d;
      leaves = nothing_past after;
    }

-- of exactly the cells it does not matter what they were
module _ (card : Card) (before other : List ℕ) (admitted : full_admission card ≡ no_refusal) (exact : length before ≡ cells card)
    (alike : length other ≡ cells card) where
  past : (t : List ℕ) → t ++ drop (cells card) other ≡ t ++ drop (cells card) before
  past t = sym (none_past (cells card) other alike t) ∙ none_past (cells card) before exact t

  same_after : (j : Judgement) → ComesTo card (length other) j → table_after card j other ≡ table_after card j before
  same_after (NotAdmitted refusal) h = absurd (apart (cc))
  same_after NoRoom h = absurd (omega (arith, h.1))
  same_after (OutsideAt flat axis) h = past (replicate (cells card) 0)
  same_after (Clashing x y cell) h = past (replicate (cells card) 0)
  same_after (Passed owners occupied) h = past owners

  pub cells_anew : {after : List ℕ} {verdict : Result Approved Refusal} → VerdictPromise card other after verdict → VerdictPromise card before after verdict
  cells_anew p = record {
    judgement = p.judgement;
    comes = subst (λ (room : ℕ). ComesTo card room p.judgement) (alike ∙ sym exact) p.comes;
    answers = p.answers;
    leaves = p.leaves ∙ same_after p.judgement p.comes;
  }

-- the caller's table: a refusal before the cells are judged leaves it
module _ (card : Card) (before : List ℕ) where
  pub not_admitted : {refusal : Refusal} → full_admission card ≡ Err refusal → VerdictPromise card before before (Err refusal)
  not_admitted {refusal} e = record { judgement = NotAdmitted refusal; comes = e; answers = refl; leaves = refl }

  pub too_short : {n : ℕ} → full_admission card ≡ no_refusal → n ≡ cells card → length before < n → VerdictPromise card before before (Err (TooShort n))
  too_short {n} admitted e h = record {
    judgement = NoRoom;
    comes = (admitted, omega arith);
    answers = ap (λ (n : ℕ). Err (TooShort n)) e;
    leaves = refl;
  }

  -- in a table with room for n cells, the cells are judged and the rest stays
  module _ {n : ℕ} (e : n ≡ cells card) (enough : n ≤ length before) where
    part_size : length (take n before) ≡ cells card
    part_size = length-take-le n before enough ∙ e

    judged_part : Judged card (length (take n before)) → Judged card (length before)
    judged_part j = record { admitted = j.admitted; enough = omega arith }

    same_judgement : (j : Judgement) → ComesTo card (length (take n before)) j → ComesTo card (length before) j
    same_judgement (NotAdmitted refusal) h = h
    same_judgement NoRoom h = absurd (omega (arith, part_size, h.1))
    same_judgement (OutsideAt flat axis) h = (judged_part h.0, h.1)
    same_judgement (Clashing x y cell) h = (judged_part h.0, h.1, h.2)
    same_judgement (Passed owners occupied) h = (judged_part h.0, h.1, h.2)

    rest : (t : List ℕ) → (t ++ drop (cells card) (take n before)) ++ drop n before ≡ t ++ drop (cells card) before
    rest t =
        ap₂ (λ (l : List ℕ) (k : ℕ). l ++ drop k before) (sym (none_past (cells card) (take n before) part_size t)) e

    rest_stays : (j : Judgement) → table_after card j (take n before) ++ drop n before ≡ table_after card j before
    rest_stays (NotAdmitted refusal) = take-append-drop n before
    rest_stays NoRoom = take-append-drop n before
    rest_stays (OutsideAt flat axis) = rest (replicate (cells card) 0)
    rest_stays (Clashing x y cell) = rest (replicate (cells card) 0)
    rest_stays (Passed owners occupied) = rest owners

    pub whole_table : {after : List ℕ} {verdict : Result Approved Refusal} → VerdictPromise card (take n before) after verdict
        → VerdictPromise card before (after ++ drop n before) verdict
    whole_table p = record {
      judgement = p.judgement;
      comes = same_judgement p.judgement p.comes;
      answers = p.answers;
      leaves = ap (λ (t : List ℕ). t ++ drop n before) p.leaves ∙ rest_stays p.judgement;
    }
