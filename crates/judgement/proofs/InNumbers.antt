-- The verdict and the owner in document 01's numbers: how things stand with a card names the one judgement that its promise allows.
use Rattle.std.specs.Prelude.{Result, Err, Ok}
use mathlib.Core.Path.{◌≡◌, refl, ap, ◌∙◌}
use mathlib.Core.Logic.{◌⊎◌, inl, inr}
use mathlib.Core.List.{List}
use Prim.Native.Nat.{ℕ, ◌≤◌, ◌<◌}
use lib.ListN.{length, get_or, take}
use Rattle.judgement.specs.declared.Approved.{Approved}
use Rattle.answers.specs.Refusals.{answer, refusal_numbers, no_refusal}
use Rattle.answers.specs.declared.Cell.{Cell}
use Rattle.answers.specs.declared.Numbers.{Numbers}
use Rattle.answers.specs.declared.Refusal.{Refusal}
use Rattle.card.specs.Card.{elements, cells}
use Rattle.card.specs.declared.Card.{Card}
use Rattle.rules.specs.declared.Spot.TheVariants.{Inside, Outside}
use Rattle.idle.specs.Admission.{full_admission}
use Rattle.idle.proofs.Theorems.{admitted_exactly, AfterAdmission, after_admission_lem, checks_passed}
use Rattle.claims.specs.Claims.{occupied}
use Rattle.claims.proofs.Theorems.{owners_none_share}
use Rattle.judgement.specs.Judgement.{placed, AllInside, FirstOutside, Judgement, NotAdmitted, NoRoom, OutsideAt, Clashing, Passed, ComesTo}
use Rattle.judgement.specs.Verdict.{verdict_of, VerdictPromise, asked_spot, OwnerJudgement, NoCell, ByVerdict, OwnerComesTo, read_entry, owner_of, OwnerPromise, verdict_numbers, owner_numbers, approved_with}
use Rattle.judgement.specs.Plain.{OneClassACell, FirstShared}
use Rattle.judgement.specs.Run.{judge}
use Rattle.judgement.proofs.Unique.{not_both, judgement_unique, owner_judgement_unique}
use Rattle.judgement.proofs.Run.{judge_comes}
use Rattle.judgement.proofs.Theorems.{one_class_exactly, first_shared_lem, clash_exactly, demand_3, owner_by_verdict}

-- the numbers of a question that judges a card in a table of so many entries, after 1 to 6 and 17
pub record InNumbers (card : Card) (room : ℕ) (n approved : Numbers) : Type 0 where
  -- 11 with the cells needed
  pub short : room < cells card → AfterAdmission card n (answer 11 (cells card) 0 0)
  -- 7 with the smallest flat of which a copy lies outside, and the smallest axis for it
  pub outside : cells card ≤ room → (flat axis : ℕ) → FirstOutside card flat axis → AfterAdmission card n (answer 7 flat axis 0)
  -- 8 with x, y and the cell
  pub shared : cells card ≤ room → AllInside card → (x y cell : ℕ) → FirstShared card x y cell
      → AfterAdmission card n (answer 8 x y cell)
  -- and 0
  pub passed : cells card ≤ room → AllInside card → OneClassACell card → AfterAdmission card n approved

-- these are all the ways in which an admitted card stands
abbrev pub Stands : Card → ℕ → Type 0
Stands card room =
    (room < cells card)
    ⊎ ((cells card ≤ room)
    × (((flat : ℕ) × (axis : ℕ) × FirstOutside card flat axis)
    ⊎ (AllInside card × (((x : ℕ) × (y : ℕ) × (cell : ℕ) × FirstShared card x y cell) ⊎ OneClassACell card))))

pub one_is_so : (card : Card) (room : ℕ) → full_admission card ≡ no_refusal → Stands card room
one_is_so card room e = go (judge card room) (judge_comes card room)
  where
    go : (j : Judgement) → ComesTo card room j → Stands card room
    go (NotAdmitted r) h = absurd (not_both card h e)
    go NoRoom h = inl h.1
    go (OutsideAt flat axis) h = inr (h.0.enough, inl (flat, axis, h.1))
    go (Clashing x y cell) h = inr (h.0.enough, inr (h.1, inl (x, y, cell, first_shared_lem card (checks_passed card e) x y cell h.1 h.2)))
    go (Passed owners n) h =
        inr (h.0.enough, inr (h.1, inr ((one_class_exactly card (checks_passed card e) h.1).1 (owners_none_share (placed card) (elements card) owners h.2.owners))))

module _ (card : Card) (before after : List ℕ) (v : Result Approved Refusal) (p : VerdictPromise card before after v) (numbers : Result Approved Refusal → Numbers)
    (refused : (r : Refusal) → numbers (Err r) ≡ refusal_numbers r) where
  is : (j : Judgement) → ComesTo card (length before) j → numbers v ≡ numbers (verdict_of card j)
  is j h = ap numbers (p.answers ∙ ap (verdict_of card) (judgement_unique card (length before) p.judgement j p.comes h))

  pub table_in_numbers : InNumbers card (length before) (numbers v)
      (numbers (approved_with (elements card) (occupied (take (cells card) after)) (cells card)))
  table_in_numbers =
      let by : (m : Numbers) → (full_admission card ≡ no_refusal → numbers v ≡ m) → AfterAdmission card (numbers v) m =
      λ m. after_admission_lem card (numbers v) m (λ r e. is (NotAdmitted r) e ∙ refused r) in
      record {
        short = λ few. by _ (λ e. is NoRoom (e, few) ∙ refused _);
        outside = λ room flat axis first. by _ (λ e. is (OutsideAt flat axis) (record { admitted = e; enough = room }, first) ∙ refused _);
        shared = λ room inside x y cell first.
            by _ (λ e. is (Clashing x y cell) (record { admitted = e; enough = room }, inside, clash_exactly card (checks_passed card e) x y cell inside first) ∙ refused _);
        passed = λ room inside one.
            by _ (λ e.
            let free = (admitted_exactly card).0 e in
            let demand = demand_3 card before after v free.0 free.1 room p in
            ap numbers (demand.counts (demand.approved.1 (inside, one))));
      }

-- at 0 elements, occupied cells, cells
pub verdict_in_numbers : (card : Card) (before after : List ℕ) (v : Result Approved Refusal) → VerdictPromise card before after v
    → InNumbers card (length before) (verdict_numbers v) (answer 0 (elements card) (occupied (take (cells card) after)) (cells card))
verdict_in_numbers card before after v p = table_in_numbers card before after v p verdict_numbers (λ r. refl)

-- of coordinates that name a cell, at 0 its entry; and 12 with the smallest axis where they name none
pub owner_in_numbers : (card : Card) (coordinates before after : List ℕ) (o : Result ℕ Refusal) → OwnerPromise card coordinates before after o
    → ((cell : Cell) → asked_spot card coordinates ≡ Inside cell
    → InNumbers card (length before) (owner_numbers o) (answer 0 (get_or after cell.0 0) 0 0))
    × ((axis : ℕ) → asked_spot card coordinates ≡ Outside axis → AfterAdmission card (owner_numbers o) (answer 12 axis 0 0))
owner_in_numbers card coordinates before after o p = (
  λ cell asked.
      let v = owner_by_verdict card coordinates before after o cell asked p in
      rw v.2 (table_in_numbers card before after v.0 v.1 (λ (w : Result Approved Refusal). owner_numbers (read_entry w (get_or after cell.0 0))) (λ r. refl)),
  λ axis asked.
      after_admission_lem card (owner_numbers o) (answer 12 axis 0 0)
      (λ r e. is_owner (ByVerdict (NotAdmitted r)) (λ h. absurd (not_both card e h), e)) (λ e. is_owner (NoCell axis) (e, asked)),
)
  where
    is_owner : (j : OwnerJudgement) → OwnerComesTo card coordinates (length before) j → owner_numbers o ≡ owner_numbers (owner_of card coordinates j before)
    is_owner j h =
        ap owner_numbers
        (p.answers
        ∙ ap (λ (k : OwnerJudgement). owner_of card coordinates k before)
        (owner_judgement_unique card coordinates (length before) p.judgement j p.comes h))
