-- The runs come to judgements that the definitions allow: the search by induction on the elements that are left, the claims by their own law.
use Rattle.std.specs.Prelude.{Ok, Result, ⊤, Err}
use mathlib.Core.Path.{◌≡◌, refl, sym, ap, ◌∙◌, subst}
use mathlib.Core.Bool.{Bool, true, false}
use mathlib.Core.Logic.{◌⊎◌, ⊎_elim}
use mathlib.Core.List.{List}
use Prim.Native.Nat.{ℕ, zero, suc, ◌+◌, ◌≤◌, ◌<◌}
use native.Mathlib.Nat.{eq-or-lt_of_le, le_refl, zero-add}
use native.Mathlib.Decide.{ℕ_discrete}
use native.Mathlib.Omega.{arith}
use lib.Dec.{leb}
use lib.ListN.{length}
use borrow.Author.Tests.{leb-true, leb-false, eq-eqb, ne_eqb}
use Rattle.answers.specs.Refusals.{no_refusal}
use Rattle.judgement.specs.declared.Approved.{Approved}
use Rattle.answers.specs.declared.Refusal.{Refusal}
use Rattle.laws.proofs.Order.{le_or_lt}
use Rattle.card.specs.Card.{elements, copies, cells}
use Rattle.card.specs.declared.Card.{Card}
use Rattle.rules.specs.Rules.{spot}
use Rattle.rules.specs.Reuse.{leader}
use Rattle.rules.specs.Copies.{cell_of}
use Rattle.rules.specs.declared.Spot.{Spot}
use Rattle.rules.specs.declared.Spot.TheVariants.{Inside, Outside}
use Rattle.rules.proofs.Spots.{cell_below}
use Rattle.idle.specs.Admission.{full_admission}
use Rattle.claims.specs.Outcome.{Inside as Within, Outcome, Owned, Clash, ClaimsComeTo as Comes}
use Rattle.claims.specs.Run.{run}
use Rattle.claims.proofs.Rows.{smaller_is}
use Rattle.claims.proofs.Run.{run_comes}
use Rattle.judgement.specs.Judgement.{placed, LiesInside, AllInside, FirstOutside, Judgement, Judged, ComesTo}
use Rattle.judgement.specs.Verdict.{verdict_of, table_after, VerdictPromise, asked_spot, OwnerJudgement, OwnerComesTo, owner_table_after, owner_of, OwnerPromise}
use Rattle.judgement.specs.Run.{axis_entry, axis_met, claimed, judge_from, judge_with, judge_after, judge, owner_at, owner_after, owner_run}
use Rattle.judgement.proofs.Unique.{not_both, judgement_unique, owner_judgement_unique}

-- a spot inside has its cell
pub lies_inside : (s : Spot) → LiesInside s → s ≡ Inside (record { 0 = cell_of s })
lies_inside (Inside cell) h = refl
lies_inside (Outside axis) h = absurd h

-- a spot lies inside where it has no axis
entry_inside : (s : Spot) → (0 < axis_entry s → ⊥) → LiesInside s
entry_inside (Inside cell) h = tt
entry_inside (Outside axis) h = absurd (h (omega arith))

-- no element has more copies of its own than there are combinations
pub few_copies : (card : Card) (f : ℕ) → (placed card).copies f ≤ copies card
few_copies card f =
    elim (ℕ_discrete (leader card f) f) [
      | yes e ↦ rw (eq-eqb (leader card f) f e) (le_refl (copies card))
      | no n ↦ rw (ne_eqb (leader card f) f n) (omega arith)
    ]

-- and one that has some leads
pub some_leads : (card : Card) (f : ℕ) → 0 < (placed card).copies f → leader card f ≡ f
some_leads card f own =
    elim (ℕ_discrete (leader card f) f) [
      | yes e ↦ e
      | no n ↦ absurd (omega (arith, rw (ne_eqb (leader card f) f n) at own))
    ]

-- where every copy lies inside, the cells of all copies are cells of the space
pub all_within : (card : Card) → AllInside card → Within (placed card) (elements card) (cells card)
all_within card inside f r h k =
    cell_below card f r (record { 0 = cell_of (spot card f r) }) (lies_inside (spot card f r) (inside f r h (omega (arith, few_copies card f))))

-- the smallest axis met is some copy's, and none of a copy is smaller
record Met (at : ℕ → Spot) (n m : ℕ) : Type 0 where
  pub least : (r : ℕ) → r < n → 0 < axis_entry (at r) → (0 < m) × (m ≤ axis_entry (at r))
  pub found : 0 < m → (r : ℕ) × (r < n) × (axis_entry (at r) ≡ m)

met : (at : ℕ → Spot) (n : ℕ) → Met at n (axis_met at n)
met at zero = record { least = λ r h. absurd (omega arith); found = λ h. absurd (omega arith) }
met at (suc n) =
    let w = met at n in
    let s = smaller_is (axis_met at n) (axis_entry (at n)) in
    record {
      least = λ r h some.
          ⊎_elim (λ (e : r ≡ n). let same = ap (λ (x : ℕ). axis_entry (at x)) e in let b = s.second (omega arith) in (b.0, omega arith))
          (λ (k : r < n). let a = w.least r k some in let b = s.first a.0 in (b.0, omega arith))
          (eq-or-lt_of_le (omega arith));
      found = λ h.
          ⊎_elim
          (λ (e : axis_met at (suc n) ≡ axis_met at n). let a = w.found (omega arith) in (a.0, omega arith, a.2 ∙ sym e))
          (λ (e : axis_met at (suc n) ≡ axis_entry (at n)). (n, omega arith, sym e))
          s.one;
    }

entry_outside : (s : Spot) (axis : ℕ) → axis_entry s ≡ suc axis → s ≡ Outside axis
entry_outside (Inside cell) axis e = absurd (omega arith)
entry_outside (Outside other) axis e = ap Outside (omega arith)

module _ (card : Card) where
  -- the search has passed n elements
  abbrev Searched : ℕ → Type 0
  Searched n = (f r : ℕ) → f < n → r < copies card → LiesInside (spot card f r)

  -- it passes one more where the element meets no axis
  searched_more : (flat : ℕ) → Searched flat → axis_met (spot card flat) (copies card) ≡ 0 → Searched (flat + 1)
  searched_more flat passed e f r h k =
      ⊎_elim
      (λ (same : f ≡ flat).
      rw same (entry_inside (spot card flat r) (λ some. omega (arith, (met (spot card flat) (copies card)).least r k some))))
      (λ (less : f < flat). passed f r less k)
      (eq-or-lt_of_le (omega arith))

  -- and where it meets one, this is the first element outside
  first_outside_lem : (flat axis : ℕ) → flat < elements card → Searched flat → axis_met (spot card flat) (copies card) ≡ suc axis
      → FirstOutside card flat axis
  first_outside_lem flat axis h passed e =
      let w = met (spot card flat) (copies card) in
      let found = w.found (omega arith) in
      record {
        element = h;
        combination = found.0;
        copy = found.1;
        outside = entry_outside (spot card flat found.0) axis (found.2 ∙ e);
        smallest_axis = λ r other k o.
            let same = ap axis_entry o in
            omega (arith, w.least r k (omega arith));
        smallest_flat = λ f r other below k o.
            ⊎_elim (λ (m : flat ≤ f). m) (λ (m : f < flat). absurd (subst LiesInside o (passed f r m k))) (le_or_lt flat f);
      }

  module _ (room : ℕ) (judged : Judged card room) where
    -- what the claims come to, the card comes to
    claimed_comes : AllInside card → (a : Outcome) → Comes (placed card) (elements card) (cells card) a → ComesTo card room (claimed a)
    claimed_comes inside (Owned table count) h = (judged, inside, h)
    claimed_comes inside (Clash x y cell) h = (judged, inside, h)

    step : (left flat : ℕ) → flat < elements card → Searched flat → (Searched (flat + 1) → ComesTo card room (judge_from card left (flat + 1)))
        → (entry : ℕ) → axis_met (spot card flat) (copies card) ≡ entry → ComesTo card room (judge_from card (suc left) flat)
    step left flat h passed next zero e = rw (e, judge_from) (next (searched_more flat passed e))
    step left flat h passed next (suc axis) e = rw (e, judge_from) (judged, first_outside_lem flat axis h passed e)

    judge_from_lem : (left flat : ℕ) → flat + left ≡ elements card → Searched flat → ComesTo card room (judge_from card left flat)
    judge_from_lem zero flat e passed =
        let inside : AllInside card = λ f r h. passed f r (omega arith) in
        claimed_comes inside (run (placed card) (elements card) (cells card))
        (run_comes (placed card) (elements card) (cells card) (all_within card inside))
    judge_from_lem (suc left) flat e passed =
        step left flat (omega arith) passed (judge_from_lem left (flat + 1) (omega arith)) _ refl

  -- the run comes to the judgement
  pub judge_comes : (room : ℕ) → ComesTo card room (judge card room)
  judge_comes room = after (full_admission card) refl
    where
      with_room : (b : Bool) → leb (cells card) room ≡ b → full_admission card ≡ no_refusal → ComesTo card room (judge_with card b)
      with_room true t e =
          judge_from_lem room (record { admitted = e; enough = leb-true (cells card) room t }) (elements card) 0 (zero-add (elements card))
          (λ f r h. absurd (omega arith))
      with_room false t e = (e, leb-false (cells card) room t)

      after : (a : Result ⊤ Refusal) → full_admission card ≡ a → ComesTo card room (judge_after card room a)
      after (Ok _) e = with_room (leb (cells card) room) refl e
      after (Err refusal) e = e

  -- a judgement that a card comes to is the one of the run, so a load that the run computes is a load of the promise
  pub judgement_is_run : (room : ℕ) (j : Judgement) → ComesTo card room j → j ≡ judge card room
  judgement_is_run room j h = judgement_unique card room j (judge card room) h (judge_comes room)

  pub verdict_is_run : (before after : List ℕ) (v : Result Approved Refusal) → VerdictPromise card before after v
      → (v ≡ verdict_of card (judge card (length before))) × (after ≡ table_after card (judge card (length before)) before)
  verdict_is_run before after v h =
      let same = judgement_is_run (length before) h.judgement h.comes in (
        h.answers ∙ ap (verdict_of card) same,
        h.leaves ∙ ap (λ (j : Judgement). table_after card j before) same,
      )

  -- and so is asking for the owner of a cell
  pub owner_run_comes : (coordinates : List ℕ) (room : ℕ) → OwnerComesTo card coordinates room (owner_run card coordinates room)
  owner_run_comes coordinates room = after (full_admission card) refl
    where
      at_spot : (s : Spot) → asked_spot card coordinates ≡ s → full_admission card ≡ no_refusal → OwnerComesTo card coordinates room (owner_at card room s)
      at_spot (Inside cell) q e = (λ h. rw q tt, judge_comes room)
      at_spot (Outside axis) q e = (e, q)

      after : (a : Result ⊤ Refusal) → full_admission card ≡ a → OwnerComesTo card coordinates room (owner_after card coordinates room a)
      after (Ok _) e = at_spot (asked_spot card coordinates) refl e
      after (Err refusal) e = (λ h. absurd (not_both card e h), e)

  pub owner_is_run : (coordinates before after : List ℕ) (owner : Result ℕ Refusal) → OwnerPromise card coordinates before after owner
      → (owner ≡ owner_of card coordinates (owner_run card coordinates (length before)) before)
      × (after ≡ owner_table_after card (owner_run card coordinates (length before)) before)
  owner_is_run coordinates before after owner h =
      let same = owner_judgement_unique card coordinates (length before) h.judgement (owner_run card coordinates (length before)) h.comes
      (owner_run_comes coordinates (length before)) in (
        h.answers ∙ ap (λ (j : OwnerJudgement). owner_of card coordinates j before) same,
        h.leaves ∙ ap (λ (j : OwnerJudgement). owner_table_after card j before) same,
      )
