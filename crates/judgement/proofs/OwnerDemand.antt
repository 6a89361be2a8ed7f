-- Demand 3 in the words of the owner question: by its verdict, whose entry of the asked cell is the answer.
use Rattle.std.specs.Prelude.{Result, Ok, Err}
use mathlib.Core.Path.{◌≡◌, ap, subst}
use mathlib.Core.Logic.{◌↔◌}
use mathlib.Core.List.{List}
use Prim.Native.Nat.{ℕ, ◌+◌, ◌≤◌, ◌<◌}
use native.Mathlib.Nat.{le_refl}
use native.Mathlib.Omega.{arith}
use lib.ListN.{length, get_or}
use Rattle.answers.specs.Refusals.{no_refusal}
use Rattle.judgement.specs.declared.Approved.{Approved}
use Rattle.answers.specs.declared.Refusal.{Refusal}
use Rattle.answers.specs.declared.Cell.{Cell}
use Rattle.card.specs.Card.{elements, cells}
use Rattle.card.specs.Admission.{admission}
use Rattle.card.specs.declared.Card.{Card}
use Rattle.card.proofs.Admitted.{sized}
use Rattle.rules.specs.Copies.{cell_of}
use Rattle.rules.specs.declared.Spot.{Spot}
use Rattle.rules.specs.declared.Spot.TheVariants.{Inside}
use Rattle.rules.proofs.Spots.{cell_small}
use Rattle.idle.specs.Idle.{NoIdlePair}
use Rattle.judgement.specs.Judgement.{AllInside}
use Rattle.judgement.specs.Verdict.{asked_spot, read_entry, OwnerPromise}
use Rattle.judgement.specs.Plain.{OneClassACell, HasCopyIn, SmallestIn}
use Rattle.judgement.proofs.Theorems.{IsApproval, Demand3, demand_3, owner_by_verdict}

-- demand 3 of an answer to who owns a cell
pub record OwnerDemand3 (card : Card) (cell : ℕ) (owner : Result ℕ Refusal) : Type 0 where
  -- an entry is answered exactly when every copy of every element lies in the stated space and no two elements that are not one share
  -- a cell
  pub answered : ((entry : ℕ) × (owner ≡ Ok entry)) ↔ (AllInside card × OneClassACell card)
  -- it is f + 1 exactly when f is the smallest of the one class placed in the cell
  pub placed : AllInside card → OneClassACell card → (f : ℕ) → (owner ≡ Ok (f + 1)) ↔ SmallestIn card f cell
  -- and 0 exactly when none is
  pub nobody : AllInside card → OneClassACell card → (owner ≡ Ok 0) ↔ ((f : ℕ) → f < elements card → HasCopyIn card f cell → ⊥)

module _ (card : Card) (after : List ℕ) (cell : ℕ) (below : cell < cells card) where
  by_verdict : (v : Result Approved Refusal) → Demand3 card after v → OwnerDemand3 card cell (read_entry v (get_or after cell 0))
  by_verdict (Err r) d =
      record {
        answered = (λ e. let z : ◌≡◌ {A = ℕ} 0 1 = cc e.1 in absurd (omega arith), λ so. absurd (d.approved.1 so));
        placed = λ inside one. absurd (d.approved.1 (inside, one));
        nobody = λ inside one. absurd (d.approved.1 (inside, one));
      }
  by_verdict (Ok approval) d =
      let entry = get_or after cell 0 in
      let reads : (k : ℕ) → ◌≡◌ {A = Result ℕ Refusal} (Ok entry) (Ok k) → entry ≡ k = λ k e. cc e in
      record {
        answered = (λ e. d.approved.0 tt, λ so. (entry, cc));
        placed = λ inside one f. (λ e. (d.owner tt cell f below).0 (reads (f + 1) e), λ h. ap Ok ((d.owner tt cell f below).1 h));
        nobody = λ inside one. (λ e. (d.nobody tt cell below).0 (reads 0 e), λ h. ap Ok ((d.nobody tt cell below).1 h));
      }

-- under demand 3's conditions, for coordinates that name a cell
pub demand_3_owner : (card : Card) (coordinates before after : List ℕ) (owner : Result ℕ Refusal) (cell : Cell) → admission card ≡ no_refusal
    → NoIdlePair card.replica → cells card ≤ length before → asked_spot card coordinates ≡ Inside cell
    → OwnerPromise card coordinates before after owner → OwnerDemand3 card cell.0 owner
demand_3_owner card coordinates before after owner cell admitted no_pair long asked p =
    let v = owner_by_verdict card coordinates before after owner cell asked p in
    let small = cell_small card.lengths coordinates (cells card) (sized card admitted).some_cells (le_refl (cells card)) in
    rw v.2
    (by_verdict card after cell.0 (subst (λ (s : Spot). cell_of s < cells card) asked small) v.0
    (demand_3 card before after v.0 admitted no_pair long v.1))
