-- Of an approved card the verdict's table and the lent memory of a placement say the same, straight from the two promises: both speak of the spots of
-- an element's copies.
use Rattle.std.specs.Prelude.{Result, Ok}
use mathlib.Core.Path.{◌≡◌, refl, sym, ap, ◌∙◌}
use mathlib.Core.Bool.{true}
use mathlib.Core.Logic.{◌↔◌}
use mathlib.Core.List.{List}
use Prim.Native.Nat.{ℕ, ◌+◌, ◌≤◌, ◌<◌}
use native.Mathlib.Decide.{dec_le}
use native.Mathlib.Omega.{arith}
use borrow.Author.Tests.{le-leb, le-ltb}
use lib.ListN.{length, get_or}
use Rattle.answers.specs.declared.Refusal.{Refusal}
use Rattle.judgement.specs.declared.Approved.{Approved}
use Rattle.card.specs.Card.{elements, copies, cells}
use Rattle.card.specs.declared.Card.{Card}
use Rattle.rules.specs.Rules.{axes, spot}
use Rattle.rules.specs.Copies.{cell_of, past_axis, outside_axis}
use Rattle.rules.specs.Reuse.{leader}
use Rattle.rules.specs.declared.Spot.{Spot}
use Rattle.rules.specs.declared.Spot.TheVariants.{Inside, Outside}
use Rattle.rules.proofs.Filling.{outside_found}
use Rattle.idle.proofs.Theorems.{admitted_exactly}
use Rattle.placement_judged.specs.Placement.{shape_admitted, coordinates_fit, flatten, placement_answer, Placing}
use Rattle.placement_judged.specs.declared.Tuple.{Tuple}
use Rattle.placement_judged.proofs.Theorems.{flatten_below, placement_copies}
use Rattle.judgement.specs.Judgement.{LiesInside, Judged}
use Rattle.judgement.specs.Verdict.{VerdictPromise}
use Rattle.judgement.proofs.Theorems.{IsApproval, Demand3, demand_3, owner_leads, approved_passed}

-- cell c is one of the first n entries of the lent memory
pub record AmongFirst (n : ℕ) (memory : List ℕ) (c : ℕ) : Type 0 where
  pub place : ℕ
  pub below : place < n
  pub there : get_or memory place 0 ≡ c

-- a spot inside is past no axis
past_none : (s : Spot) → LiesInside s → past_axis s ≡ length axes
past_none (Inside cell) h = refl
past_none (Outside axis) h = absurd h

module _ (card : Card) (table owners : List ℕ) (verdict : Result Approved Refusal) (promise : VerdictPromise card table owners verdict) (approved : IsApproval verdict) where
  judged : Judged card (length table)
  judged = (approved_passed card table owners verdict promise approved).2.0

  demand : Demand3 card owners verdict
  demand =
      let free = (admitted_exactly card).0 judged.admitted in demand_3 card table owners verdict free.0 free.1 judged.enough promise

  -- a cell's entry is the leader of f plus 1 exactly when the cell is among those that the placement of f has written
  pub owner_and_placing : (shape coordinates : Tuple) (before after : List ℕ) (n : ℕ) → length card.lengths ≡ 8
      → Placing card shape coordinates before after (Ok n) → (c : ℕ) → c < cells card
      → (get_or owners c 0 ≡ leader card (flatten shape coordinates) + 1) ↔ AmongFirst n after c
  owner_and_placing shape coordinates before after n eight placing c small =
      let flat = flatten shape coordinates in
      let copied = placement_copies card shape coordinates before after n eight placing in
      let free = (admitted_exactly card).0 judged.admitted in
      let owner = owner_leads card table owners verdict free.0 free.1 judged.enough promise approved c flat small copied.element in (
        λ e.
            let has = owner.0 e in
            let r = has.combination in
            let below : r < n = omega (arith, copied.one_each, has.below) in
            let same : Inside (record { 0 = get_or after r 0 }) ≡ Inside (record { 0 = c }) = sym (copied.cell_there r below) ∙ has.there in
            record { place = r; below = below; there = ap cell_of same },
        λ among.
            owner.1 (record {
              combination = among.place;
              below = omega (arith, copied.one_each, among.below);
              there = copied.cell_there among.place among.below ∙ ap (λ (k : ℕ). Inside (record { 0 = k })) among.there;
            }),
      )

  -- and placement answers for each of its elements
  pub approved_places : (shape coordinates : Tuple) (before after : List ℕ) (p : Result ℕ Refusal) → shape_admitted shape (elements card) ≡ true
      → coordinates_fit shape coordinates ≡ true → copies card ≤ length before → Placing card shape coordinates before after p → p ≡ Ok (copies card)
  unfolding placement_answer outside_axis
  approved_places shape coordinates before after p shaped fits long placing =
      let flat = flatten shape coordinates in
      let inside = (demand.approved.0 approved).0 flat in
      let small = flatten_below shape coordinates (elements card) shaped fits in
      let none : length axes ≤ outside_axis card flat =
      elim (dec_le (length axes) (outside_axis card flat)) [
        | yes h ↦ h
        | no h ↦
            let found = outside_found (spot card flat) (copies card) (omega arith) in
            absurd (omega (arith, found.2, past_none (spot card flat found.0) (inside found.0 small found.1)))
      ] in
      placing.answer_is
      ∙ rw (judged.admitted, shaped, fits, le-leb (copies card) (length before) long, le-ltb (outside_axis card flat) (length axes) none)
