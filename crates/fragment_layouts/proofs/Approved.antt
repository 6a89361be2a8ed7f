-- The verdict on a kind's card is an approval whose owners are the fragment's rule: that every cell is occupied is computed by the run, once over the
-- kinds, and whose a cell is follows from where what a register holds is placed.
use Rattle.std.specs.Prelude.{Result, ⊤, Err, Ok}
use mathlib.Core.Path.{◌≡◌, refl, sym, ap, ◌∙◌, subst}
use mathlib.Core.Bool.{Bool, true, false, ◌&&◌, and-eq-true_iff}
use mathlib.Core.List.{List}
use Prim.Native.Nat.{ℕ, zero, suc, ◌+◌, ◌≤◌, ◌<◌}
use native.Mathlib.Nat.{le_refl}
use native.Mathlib.Omega.{arith}
use borrow.Author.Tests.{eqb-true, le-leb}
use lib.Dec.{eqb}
use lib.ListN.{length, get_or, take, replicate}
use Rattle.judgement.specs.declared.Approved.{Approved}
use Rattle.answers.specs.declared.Refusal.{Refusal}
use Rattle.laws.proofs.Below.{below, below_at}
use Rattle.laws.proofs.Rungs.{apart}
use Rattle.swizzle.specs.Swizzle.{swizzled}
use Rattle.fragment.specs.Kinds.{registers, place}
use Rattle.fragment.specs.Fragment.{is_slot}
use Rattle.card.specs.Card.{elements, cells}
use Rattle.card.specs.Admission.{admission}
use Rattle.card.specs.declared.Card.{Card}
use Rattle.rules.specs.RowMajor.{position}
use Rattle.rules.specs.Rules.{coordinates, spot}
use Rattle.rules.specs.Reuse.{leader, Unmarked}
use Rattle.rules.proofs.Spots.{cell_below}
use Rattle.idle.specs.Run.{pair_of}
use Rattle.idle.specs.Admission.{full_admission}
use Rattle.idle.proofs.Theorems.{admitted_exactly}
use Rattle.placement_judged.proofs.Theorems.{flatten_below}
use Rattle.judgement.specs.Judgement.{Judgement, NotAdmitted, NoRoom, OutsideAt, Clashing, Passed}
use Rattle.judgement.specs.Verdict.{verdict_of, VerdictPromise, approved_with}
use Rattle.judgement.specs.Run.{judge_after, judge}
use Rattle.judgement.proofs.Run.{verdict_is_run}
use Rattle.judgement.proofs.Theorems.{IsApproval, demand_3_unmarked}
use Rattle.fragment_layouts.specs.Layouts.{kind_shard, kind_card, shape_of, coordinates_of, element_of, slot_cell}
use Rattle.fragment_layouts.proofs.Placed.{kind_facts, slot_facts}

-- more room than the cells changes no judgement
more_room : (card : Card) (room : ℕ) (a : Result ⊤ Refusal) → cells card ≤ room → judge_after card room a ≡ judge_after card (cells card) a
more_room card room (Ok _) h = rw (le-leb (cells card) room h, le-leb (cells card) (cells card) (le_refl (cells card)))
more_room card room (Err refusal) h = refl

-- so many cells are occupied
abbrev occupies : ℕ → Judgement → Bool
occupies n (NotAdmitted refusal) = false
occupies n NoRoom = false
occupies n (OutsideAt flat axis) = false
occupies n (Clashing x y cell) = false
occupies n (Passed owners count) = eqb count n

approved_then : (card : Card) (n : ℕ) (j : Judgement) → occupies n j ≡ true → verdict_of card j ≡ approved_with (elements card) n (cells card)
approved_then card n (NotAdmitted refusal) e = absurd (apart (cc))
approved_then card n NoRoom e = absurd (apart (cc))
approved_then card n (OutsideAt flat axis) e = absurd (apart (cc))
approved_then card n (Clashing x y cell) e = absurd (apart (cc))
approved_then card n (Passed owners count) e = ap (λ (k : ℕ). approved_with (elements card) k (cells card)) (eqb-true count n e)

-- the test of a kind: as many elements as cells, and the run occupies every cell
abbrev kind_approved : ℕ → Bool
kind_approved kind =
    eqb (elements (kind_card kind)) (cells (kind_card kind))
    && occupies (cells (kind_card kind)) (judge (kind_card kind) (cells (kind_card kind)))

kinds_approved : below kind_approved 9 ≡ true
unfolding registers kind_shard swizzled admission pair_of full_admission position coordinates spot leader
kinds_approved = refl

-- a kind's card has no marks
unmarked : (kind : ℕ) → Unmarked (kind_card kind)
unmarked kind k h = none (length (kind_shard kind)) 8 k
  where
    none : (n m k : ℕ) → get_or (take n (replicate m false)) k false ≡ false
    none zero m k = refl
    none (suc n) zero k = refl
    none (suc n) (suc m) zero = refl
    none (suc n) (suc m) (suc k) = none n m k

pub record OwnersByRule (kind : ℕ) (after : List ℕ) (verdict : Result Approved Refusal) : Type 0 where
  -- as many elements as cells, and every cell is occupied
  pub approved : verdict ≡ approved_with (cells (kind_card kind)) (cells (kind_card kind)) (cells (kind_card kind))
  -- the owner of a register's cell is what the register holds
  pub owners : (lane i : ℕ) → is_slot kind lane i ≡ true → get_or after (slot_cell kind lane i) 0 ≡ element_of kind (place kind lane i) + 1

-- whatever the promise of the verdict on a kind's card allows is this approval
pub fragment_approved : (kind : ℕ) → kind < 9 → (before after : List ℕ) (verdict : Result Approved Refusal) → cells (kind_card kind) ≤ length before
    → VerdictPromise (kind_card kind) before after verdict → OwnersByRule kind after verdict
fragment_approved kind known before after verdict room promise = record { approved = approved; owners = owners }
  where
    card : Card
    card = kind_card kind

    passed : (eqb (elements card) (cells card) ≡ true) × (occupies (cells card) (judge card (cells card)) ≡ true)
    passed = (and-eq-true_iff (eqb (elements card) (cells card)) _).0 (below_at kind_approved 9 kinds_approved kind known)

    approved : verdict ≡ approved_with (cells card) (cells card) (cells card)
    approved =
        (verdict_is_run card before after verdict promise).0
        ∙ ap (verdict_of card) (more_room card (length before) (full_admission card) room)
        ∙ approved_then card (cells card) (judge card (cells card)) passed.1
        ∙ ap (λ (n : ℕ). approved_with n (cells card) (cells card)) (eqb-true (elements card) (cells card) passed.0)

    owners : (lane i : ℕ) → is_slot kind lane i ≡ true → get_or after (slot_cell kind lane i) 0 ≡ element_of kind (place kind lane i) + 1
    owners lane i e =
        let k = kind_facts kind known in
        let s = slot_facts kind lane i e in
        let f = element_of kind (place kind lane i) in
        let free = (admitted_exactly card).0 k.admitted in
        let demand = demand_3_unmarked card before after verdict (unmarked kind) free.0 free.1 room promise in
        (demand.owner (subst IsApproval (sym approved) tt) (slot_cell kind lane i) f
        (cell_below card f 0 (record { 0 = slot_cell kind lane i }) s.there)
        ).1 (
          flatten_below (shape_of kind) (coordinates_of (place kind lane i)) (elements card) k.shaped s.fits,
          record { combination = 0; below = omega arith; there = s.there },
        )
