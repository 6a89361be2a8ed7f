-- The owner's promise, case by case: from the verdict's promise, with one entry read.
use Rattle.std.specs.Prelude.{Result, Err, Ok}
use mathlib.Core.Path.{◌≡◌, refl, sym, ap, ap₂, ◌∙◌, subst}
use mathlib.Core.List.{List}
use Prim.Native.Nat.{ℕ, ◌≤◌, ◌<◌}
use native.Mathlib.Omega.{arith}
use lib.ListN.{length, get_or}
use Rattle.answers.specs.Refusals.{no_refusal}
use Rattle.judgement.specs.declared.Approved.{Approved}
use Rattle.laws.proofs.Rungs.{apart}
use Rattle.answers.specs.declared.Cell.{Cell}
use Rattle.answers.specs.declared.Refusal.{Refusal}
use Rattle.answers.specs.declared.Refusal.TheVariants.{CellOutside}
use Rattle.card.specs.Card.{cells}
use Rattle.card.specs.declared.Card.{Card}
use Rattle.card.proofs.Admitted.{sized}
use Rattle.rules.specs.Copies.{cell_of}
use Rattle.rules.specs.declared.Spot.{Spot}
use Rattle.rules.specs.declared.Spot.TheVariants.{Inside, Outside}
use Rattle.rules.proofs.Spots.{cell_small}
use Rattle.idle.specs.Admission.{full_admission}
use Rattle.idle.proofs.Theorems.{checks_passed}
use Rattle.judgement.specs.Judgement.{LiesInside, Judgement, NotAdmitted, NoRoom, OutsideAt, Clashing, Passed, ComesTo}
use Rattle.judgement.specs.Verdict.{verdict_of, table_after, VerdictPromise, asked_spot, NoCell, ByVerdict, read_entry, OwnerPromise, approved_with}
use Rattle.verdict.specs.Clauses.{ReadAt}

-- an approved verdict had room for the cells
pub approved_room : {card : Card} {before after : List ℕ} {verdict : Result Approved Refusal} {n count m : ℕ} → VerdictPromise card before after verdict
    → verdict ≡ approved_with n count m → cells card ≤ length before
approved_room {card} {before} {after} {verdict} {n} {count} {m} p e = split p.judgement p.comes (sym e ∙ p.answers)
  where
    split : (j : Judgement) → ComesTo card (length before) j → approved_with n count m ≡ verdict_of card j → cells card ≤ length before
    split (NotAdmitted refusal) h d = absurd (apart (cc))
    split NoRoom h d = absurd (apart (cc))
    split (OutsideAt flat axis) h d = absurd (apart (cc))
    split (Clashing x y cell) h d = absurd (apart (cc))
    split (Passed owners occupied) h d = h.0.enough

-- the entry is read of the table after the verdict
pub entry_read : {card : Card} {before after : List ℕ} {verdict same : Result Approved Refusal} (cell : ℕ) → VerdictPromise card before after verdict → verdict ≡ same
    → ReadAt card cell before after (read_entry same (get_or after cell 0))
entry_read cell p e = record {
  judgement = p.judgement;
  comes = p.comes;
  answers = ap₂ (λ (v : Result Approved Refusal) (t : List ℕ). read_entry v (get_or t cell 0)) (sym e ∙ p.answers) p.leaves;
  leaves = p.leaves;
}

module _ (card : Card) (coordinates before : List ℕ) where
  pub owner_refused : {refusal : Refusal} → full_admission card ≡ Err refusal → OwnerPromise card coordinates before before (Err refusal)
  owner_refused {refusal} e = record {
    judgement = ByVerdict (NotAdmitted refusal);
    comes = (λ a. absurd (apart (cc)), e);
    answers = refl;
    leaves = refl;
  }

  module _ (admitted : full_admission card ≡ no_refusal) where
    pub no_cell_promise : {axis : ℕ} → asked_spot card coordinates ≡ Outside axis → OwnerPromise card coordinates before before (Err (CellOutside axis))
    no_cell_promise {axis} e = record { judgement = NoCell axis; comes = (admitted, e); answers = refl; leaves = refl }

    module _ {cell : Cell} (e : asked_spot card coordinates ≡ Inside cell) where
      -- the cell is one of the cells
      pub asked_below : cell.0 < cells card
      asked_below =
          let n = sized card (checks_passed card admitted) in
          subst (λ (p : Spot). cell_of p < cells card) e (cell_small card.lengths coordinates (cells card) n.some_cells (omega arith))

      pub owner_read : {after : List ℕ} {owner : Result ℕ Refusal} → ReadAt card cell.0 before after owner → OwnerPromise card coordinates before after owner
      owner_read r = record {
        judgement = ByVerdict r.judgement;
        comes = (λ a. subst LiesInside (sym e) tt, r.comes);
        answers =
            r.answers
            ∙ ap (λ (p : Spot). read_entry (verdict_of card r.judgement) (get_or (table_after card r.judgement before) (cell_of p) 0)) (sym e);
        leaves = r.leaves;
      }
