-- Each number of the verdict and of the owner by itself, for every card and all arguments: 1 to 6, 17, 12, 11, 7, 8 and 0, each exactly when it is given and with
-- its details; what the card comes to names one of them, and no two are alike.
use Rattle.std.specs.Prelude.{Result, Err}
use mathlib.Core.Path.{◌≡◌, refl, sym, ap, ◌∙◌, subst}
use mathlib.Core.Logic.{◌⊎◌, inl, inr, ◌↔◌, ⊎_elim}
use mathlib.Core.List.{List}
use Prim.Native.Nat.{ℕ, ◌≤◌, ◌<◌}
use native.Mathlib.Omega.{arith}
use lib.ListN.{length, get_or, take}
use Rattle.judgement.specs.declared.Approved.{Approved}
use Rattle.answers.specs.Refusals.{answer, refusal_numbers}
use Rattle.answers.specs.declared.Numbers.{Numbers}
use Rattle.answers.specs.declared.Refusal.{Refusal}
use Rattle.card.specs.Card.{elements, cells}
use Rattle.card.specs.declared.Card.{Card}
use Rattle.card.proofs.Admitted.{checked}
use Rattle.card.proofs.Theorems.{after_six}
use Rattle.card.proofs.Within.{WithinLimits, within_limits_exactly}
use Rattle.rules.specs.RowMajor.{row_major, position}
use Rattle.rules.specs.Rules.{spot_at}
use Rattle.rules.specs.declared.Position.{Position}
use Rattle.rules.specs.declared.Position.TheVariants.{At, Past}
use Rattle.rules.specs.declared.Spot.TheVariants.{Outside}
use Rattle.rules.proofs.RowMajor.{FirstPast}
use Rattle.rules.proofs.Positions.{EachBelow, at_exactly, past_exactly}
use Rattle.idle.specs.Admission.{full_admission}
use Rattle.idle.proofs.Theorems.{AfterAdmission, checks_passed}
use Rattle.idle.proofs.EachNumber.{Late, Free, OfAdmission, free_exactly, of_admission}
use Rattle.claims.specs.Claims.{occupied}
use Rattle.claims.proofs.Theorems.{owners_none_share}
use Rattle.judgement.specs.Judgement.{placed, AllInside, FirstOutside, Judgement, NotAdmitted, NoRoom, OutsideAt, Clashing, Passed, ComesTo}
use Rattle.judgement.specs.Verdict.{verdict_of, VerdictPromise, asked_spot, OwnerJudgement, NoCell, ByVerdict, OwnerComesTo, read_entry, owner_of, OwnerPromise, verdict_numbers, owner_numbers, approved_with}
use Rattle.judgement.specs.Plain.{OneClassACell, FirstShared, VerdictSays, OwnerSays}
use Rattle.judgement.proofs.Unique.{not_both, judgement_unique}
use Rattle.judgement.proofs.Theorems.{one_class_exactly, first_shared_lem, demand_3, owner_by_verdict}
use Rattle.judgement.proofs.InNumbers.{table_in_numbers, owner_in_numbers}
use Rattle.judgement.proofs.Plain.{verdict_exactly, owner_exactly}

-- the numbers of a question that judges a card in a table of so many entries, once it is ready for it
pub record InTable (ready : Type 0) (card : Card) (room : ℕ) (n approved : Numbers) : Type 0 where
  -- 11 with the cells needed
  pub short : (n ≡ answer 11 (cells card) 0 0) ↔ (ready × (room < cells card))
  pub short_details : n.number ≡ 11 → n ≡ answer 11 (cells card) 0 0
  -- 7 with the smallest flat of which a copy lies outside, and the smallest axis for it
  pub outside : (flat axis : ℕ) → (n ≡ answer 7 flat axis 0) ↔ (ready × (cells card ≤ room) × FirstOutside card flat axis)
  pub outside_details : n.number ≡ 7 → n.c ≡ 0
  -- 8 with x, y and the cell
  pub shared : (x y cell : ℕ) → (n ≡ answer 8 x y cell) ↔ (ready × (cells card ≤ room) × AllInside card × FirstShared card x y cell)
  -- and 0
  pub passed : (n ≡ approved) ↔ (ready × (cells card ≤ room) × AllInside card × OneClassACell card)
  pub passed_details : n.number ≡ 0 → n ≡ approved
  -- once ready there is no other
  pub only : ready → (n.number ≡ 11) ⊎ (n.number ≡ 7) ⊎ (n.number ≡ 8) ⊎ (n.number ≡ 0)

-- a card within the limits gets what comes after 1 to 6
within_six : (card : Card) (m : Numbers) → WithinLimits card → after_six card m ≡ m
within_six card m w =
    let k = checked card ((within_limits_exactly card).1 w) in rw (k.counts, k.numbers, k.axes, k.space, k.few, k.swizzle)

at_free : (card : Card) (n m : Numbers) → AfterAdmission card n m → Free card → n ≡ m
at_free card n m a f = a.free f.1 ∙ within_six card m f.0

-- 0, and a number from 7 on that is not 17, is none of 1 to 6 and 17
late : (n : Numbers) (k : ℕ) → (k ≡ 0) ⊎ (6 < k) → (k ≡ 17 → ⊥) → n.number ≡ k → Late n
late n k other not-17 e = (λ j low high h. ⊎_elim (λ (z : k ≡ 0). omega arith) (λ (z : 6 < k). omega arith) other, λ h. not-17 (sym e ∙ h))

-- what the details name is told by them
same_outside : (card : Card) {f a flat axis : ℕ} → FirstOutside card f a → answer 7 f a 0 ≡ answer 7 flat axis 0 → FirstOutside card flat axis
same_outside card {f} {a} {flat} {axis} first e =
    let same_flat : f ≡ flat = ap (λ (m : Numbers). m.a) e in
    let same_axis : a ≡ axis = ap (λ (m : Numbers). m.b) e in
    rw (sym same_flat, sym same_axis) first

same_shared : (card : Card) {u v w x y cell : ℕ} → FirstShared card u v w → answer 8 u v w ≡ answer 8 x y cell → FirstShared card x y cell
same_shared card {u} {v} {w} {x} {y} {cell} first e =
    let same_x : u ≡ x = ap (λ (m : Numbers). m.a) e in
    let same_y : v ≡ y = ap (λ (m : Numbers). m.b) e in
    let same_cell : w ≡ cell = ap (λ (m : Numbers). m.c) e in
    rw (sym same_x, sym same_y, sym same_cell) first

module _ (card : Card) (before after : List ℕ) (v : Result Approved Refusal) (p : VerdictPromise card before after v) (numbers : Result Approved Refusal → Numbers)
    (refused : (r : Refusal) → numbers (Err r) ≡ refusal_numbers r) (zero_number : (e o c : ℕ) → (numbers (approved_with e o c)).number ≡ 0) where
  abbrev n : Numbers
  n = numbers v

  abbrev room : ℕ
  room = length before

  abbrev approved : Numbers
  approved = numbers (approved_with (elements card) (occupied (take (cells card) after)) (cells card))

  -- what a card comes to, with its number
  judged : (goal : Type 0) → ((r : Refusal) → full_admission card ≡ Err r → n ≡ refusal_numbers r → goal)
      → (Free card → room < cells card → n ≡ answer 11 (cells card) 0 0 → goal)
      → ((flat axis : ℕ) → Free card → cells card ≤ room → FirstOutside card flat axis → n ≡ answer 7 flat axis 0 → goal)
      → ((x y cell : ℕ) → Free card → cells card ≤ room → AllInside card → FirstShared card x y cell → n ≡ answer 8 x y cell → goal)
      → (Free card → cells card ≤ room → AllInside card → OneClassACell card → n ≡ approved → goal) → goal
  judged goal not_admitted short outside shared passed = go p.judgement p.comes (ap numbers p.answers)
    where
      go : (j : Judgement) → ComesTo card room j → n ≡ numbers (verdict_of card j) → goal
      go (NotAdmitted r) h e = not_admitted r h (e ∙ refused r)
      go NoRoom h e = short ((free_exactly card).0 h.0) h.1 (e ∙ refused _)
      go (OutsideAt flat axis) h e = outside flat axis ((free_exactly card).0 h.0.admitted) h.0.enough h.1 (e ∙ refused _)
      go (Clashing x y cell) h e =
          shared x y cell ((free_exactly card).0 h.0.admitted) h.0.enough h.1
          (first_shared_lem card (checks_passed card h.0.admitted) x y cell h.1 h.2) (e ∙ refused _)
      go (Passed owners k) h e =
          let free = (free_exactly card).0 h.0.admitted in
          let admitted = checks_passed card h.0.admitted in
          let one = (one_class_exactly card admitted h.1).1 (owners_none_share (placed card) (elements card) owners h.2.owners) in
          let demand = demand_3 card before after v admitted free.1 h.0.enough p in
          passed free h.0.enough h.1 one (ap numbers (demand.counts (demand.approved.1 (h.1, one))))

  number : {m : Numbers} → n ≡ m → n.number ≡ m.number
  number e = ap (λ (m : Numbers). m.number) e

  begins : OfAdmission card n
  begins =
      of_admission card n
      (λ r e.
      judged (n ≡ refusal_numbers r) (λ s h is. let same : s ≡ r = cc in is ∙ ap refusal_numbers same)
      (λ f few is. absurd (not_both card e ((free_exactly card).1 f))) (λ flat axis f long first is. absurd (not_both card e ((free_exactly card).1 f)))
      (λ x y cell f long inside first is. absurd (not_both card e ((free_exactly card).1 f)))
      (λ f long inside one is. absurd (not_both card e ((free_exactly card).1 f))))
      (λ e.
      judged (Late n) (λ r h is. absurd (not_both card h e)) (λ f few is. late n 11 (inr (omega arith)) (λ h. omega arith) (number is))
      (λ flat axis f long first is. late n 7 (inr (omega arith)) (λ h. omega arith) (number is))
      (λ x y cell f long inside first is. late n 8 (inr (omega arith)) (λ h. omega arith) (number is))
      (λ f long inside one is. late n 0 (inl refl) (λ h. omega arith) (number is ∙ zero_number _ _ _)))

  unrefused : (r : Refusal) → full_admission card ≡ Err r → Late n → ⊥
  unrefused r h l = not_both card h ((free_exactly card).1 (begins.passed.0 l))

  -- the four numbers of the table, each told by its number alone
  is_short : n.number ≡ 11 → Free card × (room < cells card) × (n ≡ answer 11 (cells card) 0 0)
  is_short e =
      judged (Free card × (room < cells card) × (n ≡ answer 11 (cells card) 0 0))
      (λ r h is. absurd (unrefused r h (late n 11 (inr (omega arith)) (λ z. omega arith) e))) (λ f few is. (f, few, is))
      (λ flat axis f long first is. absurd (omega (arith, number is))) (λ x y cell f long inside first is. absurd (omega (arith, number is)))
      (λ f long inside one is. absurd (omega (arith, number is, zero_number (elements card) (occupied (take (cells card) after)) (cells card))))

  is_outside : n.number ≡ 7
      → (flat : ℕ) × (axis : ℕ) × Free card × (cells card ≤ room) × FirstOutside card flat axis × (n ≡ answer 7 flat axis 0)
  is_outside e =
      judged ((flat : ℕ) × (axis : ℕ) × Free card × (cells card ≤ room) × FirstOutside card flat axis × (n ≡ answer 7 flat axis 0))
      (λ r h is. absurd (unrefused r h (late n 7 (inr (omega arith)) (λ z. omega arith) e))) (λ f few is. absurd (omega (arith, number is)))
      (λ flat axis f long first is. (flat, axis, f, long, first, is)) (λ x y cell f long inside first is. absurd (omega (arith, number is)))
      (λ f long inside one is. absurd (omega (arith, number is, zero_number (elements card) (occupied (take (cells card) after)) (cells card))))

  is_shared : n.number ≡ 8
      → (x : ℕ) × (y : ℕ) × (cell : ℕ) × Free card × (cells card ≤ room) × AllInside card × FirstShared card x y cell × (n ≡ answer 8 x y cell)
  is_shared e =
      judged
      ((x : ℕ) × (y : ℕ) × (cell : ℕ) × Free card × (cells card ≤ room) × AllInside card × FirstShared card x y cell × (n ≡ answer 8 x y cell))
      (λ r h is. absurd (unrefused r h (late n 8 (inr (omega arith)) (λ z. omega arith) e))) (λ f few is. absurd (omega (arith, number is)))
      (λ flat axis f long first is. absurd (omega (arith, number is))) (λ x y cell f long inside first is. (x, y, cell, f, long, inside, first, is))
      (λ f long inside one is. absurd (omega (arith, number is, zero_number (elements card) (occupied (take (cells card) after)) (cells card))))

  is_passed : n.number ≡ 0 → Free card × (cells card ≤ room) × AllInside card × OneClassACell card × (n ≡ approved)
  is_passed e =
      judged (Free card × (cells card ≤ room) × AllInside card × OneClassACell card × (n ≡ approved))
      (λ r h is. absurd (unrefused r h (late n 0 (inl refl) (λ z. omega arith) e))) (λ f few is. absurd (omega (arith, number is)))
      (λ flat axis f long first is. absurd (omega (arith, number is))) (λ x y cell f long inside first is. absurd (omega (arith, number is)))
      (λ f long inside one is. (f, long, inside, one, is))

  in_table : InTable (Free card) card room n approved
  in_table =
      let table = table_in_numbers card before after v p numbers refused in
      record {
        short = (
          λ e. let so = is_short (number e) in (so.0, so.1),
          λ so. at_free card n (answer 11 (cells card) 0 0) (table.short so.1) so.0,
        );
        short_details = λ e. (is_short e).2;
        outside = λ flat axis. (
          λ e.
              let so = is_outside (number e) in (so.2, so.3, same_outside card so.4 (sym so.5 ∙ e)),
          λ so. at_free card n (answer 7 flat axis 0) (table.outside so.1 flat axis so.2) so.0,
        );
        outside_details = λ e. ap (λ (m : Numbers). m.c) (is_outside e).5;
        shared = λ x y cell. (
          λ e.
              let so = is_shared (number e) in (so.3, so.4, so.5, same_shared card so.6 (sym so.7 ∙ e)),
          λ so. at_free card n (answer 8 x y cell) (table.shared so.1 so.2 x y cell so.3) so.0,
        );
        passed = (
          λ e. let so = is_passed (number e ∙ zero_number (elements card) (occupied (take (cells card) after)) (cells card)) in (so.0, so.1, so.2, so.3),
          λ so. at_free card n approved (table.passed so.1 so.2 so.3) so.0,
        );
        passed_details = λ e. (is_passed e).4;
        only = λ ready.
            judged ((n.number ≡ 11) ⊎ (n.number ≡ 7) ⊎ (n.number ≡ 8) ⊎ (n.number ≡ 0))
            (λ r h is. absurd (not_both card h ((free_exactly card).1 ready))) (λ f few is. inl (number is))
            (λ flat axis f long first is. inr (inl (number is))) (λ x y cell f long inside first is. inr (inr (inl (number is))))
            (λ f long inside one is. inr (inr (inr (number is ∙ zero_number (elements card) (occupied (take (cells card) after)) (cells card)))));
      }

-- the verdict: 1 to 6 and 17, and of a card that is free of them 11, 7, 8 and 0 with elements, occupied cells and cells
pub verdict_each_number : (card : Card) (before after : List ℕ) (v : Result Approved Refusal) → VerdictSays card before after v
    → OfAdmission card (verdict_numbers v)
    × InTable (Free card) card (length before) (verdict_numbers v) (answer 0 (elements card) (occupied (take (cells card) after)) (cells card))
verdict_each_number card before after v says =
    let p = (verdict_exactly card before after v).0 says in (
      begins card before after v p verdict_numbers (λ r. refl) (λ e o c. refl),
      in_table card before after v p verdict_numbers (λ r. refl) (λ e o c. refl),
    )

-- coordinates, one for each axis, name a cell, or one of them is the first that is not below its length
pub asked_one : (lengths coordinates : List ℕ) → length coordinates ≡ length lengths
    → EachBelow lengths coordinates ⊎ ((axis : ℕ) × FirstPast lengths coordinates axis)
asked_one lengths coordinates same = split (position lengths coordinates) refl
  where
    split : (p : Position) → position lengths coordinates ≡ p → EachBelow lengths coordinates ⊎ ((axis : ℕ) × FirstPast lengths coordinates axis)
    split (At cell) e = inl ((at_exactly lengths coordinates same cell).0 e).0
    split (Past axis) e = inr (axis, (past_exactly lengths coordinates same axis).0 e)

-- the owner: 1 to 6 and 17, then 12 with the smallest axis on which the asked coordinates are outside, and of a card and coordinates that are free of them
-- 11, 7, 8 and 0 with the entry
pub record OwnerEachNumber (card : Card) (coordinates : List ℕ) (room : ℕ) (after : List ℕ) (n : Numbers) : Type 0 where
  pub admission : OfAdmission card n
  pub no_cell : (axis : ℕ) → (n ≡ answer 12 axis 0 0) ↔ (Free card × FirstPast card.lengths coordinates axis)
  pub no_cell_details : n.number ≡ 12 → n ≡ answer 12 n.a 0 0
  pub table : InTable (Free card × EachBelow card.lengths coordinates) card room n (answer 0 (get_or after (row_major card.lengths coordinates) 0) 0 0)

-- where the question is ready exactly when another thing is so
table_ready : {A B : Type 0} {card : Card} {room : ℕ} {n approved : Numbers} → (A → B) → (B → A) → InTable A card room n approved
    → InTable B card room n approved
table_ready to from t = record {
  short = (λ e. let so = t.short.0 e in (to so.0, so.1), λ so. t.short.1 (from so.0, so.1));
  short_details = t.short_details;
  outside = λ flat axis. (
    λ e. let so = (t.outside flat axis).0 e in (to so.0, so.1, so.2),
    λ so. (t.outside flat axis).1 (from so.0, so.1, so.2),
  );
  outside_details = t.outside_details;
  shared = λ x y cell. (
    λ e. let so = (t.shared x y cell).0 e in (to so.0, so.1, so.2, so.3),
    λ so. (t.shared x y cell).1 (from so.0, so.1, so.2, so.3),
  );
  passed = (λ e. let so = t.passed.0 e in (to so.0, so.1, so.2, so.3), λ so. t.passed.1 (from so.0, so.1, so.2, so.3));
  passed_details = t.passed_details;
  only = λ ready. t.only (from ready);
}

-- where it is never ready, and gives 12
table_never : {ready : Type 0} (card : Card) (room : ℕ) (n : Numbers) (entry : ℕ) → (ready → ⊥) → (Late n → n.number ≡ 12)
    → InTable ready card room n (answer 0 entry 0 0)
table_never {ready} card room n entry not-ready twelve = record {
  short = (λ e. absurd (at11 (number e)), λ so. absurd (not-ready so.0));
  short_details = λ e. absurd (at11 e);
  outside = λ flat axis. (λ e. absurd (at7 (number e)), λ so. absurd (not-ready so.0));
  outside_details = λ e. absurd (at7 e);
  shared = λ x y cell. (λ e. absurd (at8 (number e)), λ so. absurd (not-ready so.0));
  passed = (λ e. absurd (at0 (number e)), λ so. absurd (not-ready so.0));
  passed_details = λ e. absurd (at0 e);
  only = λ ready. absurd (not-ready ready);
}
  where
    number : {m : Numbers} → n ≡ m → n.number ≡ m.number
    number e = ap (λ (m : Numbers). m.number) e

    at11 : n.number ≡ 11 → ⊥
    at11 e = omega (arith, twelve (late n 11 (inr (omega arith)) (λ z. omega arith) e))

    at7 : n.number ≡ 7 → ⊥
    at7 e = omega (arith, twelve (late n 7 (inr (omega arith)) (λ z. omega arith) e))

    at8 : n.number ≡ 8 → ⊥
    at8 e = omega (arith, twelve (late n 8 (inr (omega arith)) (λ z. omega arith) e))

    at0 : n.number ≡ 0 → ⊥
    at0 e = omega (arith, twelve (late n 0 (inl refl) (λ z. omega arith) e))

-- 12 is no number of the verdict
not_12 : (card : Card) (room : ℕ) (n approved : Numbers) → OfAdmission card n → InTable (Free card) card room n approved → n.number ≡ 12 → ⊥
not_12 card room n approved six rows e =
    ⊎_elim (λ (h : n.number ≡ 11). omega arith)
    (⊎_elim (λ (h : n.number ≡ 7). omega arith) (⊎_elim (λ (h : n.number ≡ 8). omega arith) (λ (h : n.number ≡ 0). omega arith)))
    (rows.only (six.passed.0 (late n 12 (inr (omega arith)) (λ z. omega arith) e)))

module _ (card : Card) (coordinates before after : List ℕ) (o : Result ℕ Refusal) (promise : OwnerPromise card coordinates before after o)
    (same : length coordinates ≡ length card.lengths) where
  -- of coordinates that name a cell: the verdict's numbers, at 0 with its entry
  inside_numbers : EachBelow card.lengths coordinates → OwnerEachNumber card coordinates (length before) after (owner_numbers o)
  inside_numbers below =
      let cell : ℕ = row_major card.lengths coordinates in
      let asked = ap spot_at ((at_exactly card.lengths coordinates same cell).1 (below, refl)) in
      let v = owner_by_verdict card coordinates before after o (record { 0 = cell }) asked promise in
      let numbers : Result Approved Refusal → Numbers = λ (w : Result Approved Refusal). owner_numbers (read_entry w (get_or after cell 0)) in
      let six = begins card before after v.0 v.1 numbers (λ r. refl) (λ e n c. refl) in
      let rows = in_table card before after v.0 v.1 numbers (λ r. refl) (λ e n c. refl) in
      rw v.2 (record {
        admission = six;
        no_cell = λ axis. (
          λ e. absurd (not_12 card (length before) (numbers v.0) (answer 0 (get_or after cell 0) 0 0) six rows (ap (λ (m : Numbers). m.number) e)),
          λ so. absurd (omega (arith, so.1.past, below axis so.1.a_place)),
        );
        no_cell_details = λ e. absurd (not_12 card (length before) (numbers v.0) (answer 0 (get_or after cell 0) 0 0) six rows e);
        table = table_ready (λ f. (f, below)) (λ so. so.0) rows;
      })

  -- of coordinates outside the space: after 1 to 6 and 17 the number 12
  module _ (axis : ℕ) (past : FirstPast card.lengths coordinates axis) where
    asked_outside : asked_spot card coordinates ≡ Outside axis
    asked_outside = ap spot_at ((past_exactly card.lengths coordinates same axis).1 past)

    twelve : Free card → owner_numbers o ≡ answer 12 axis 0 0
    twelve f =
        at_free card (owner_numbers o) (answer 12 axis 0 0) ((owner_in_numbers card coordinates before after o promise).1 axis asked_outside) f

    refusals : (r : Refusal) → full_admission card ≡ Err r → owner_numbers o ≡ refusal_numbers r
    refusals r e = go promise.judgement promise.comes promise.answers
      where
        go : (j : OwnerJudgement) → OwnerComesTo card coordinates (length before) j → o ≡ owner_of card coordinates j before → owner_numbers o ≡ refusal_numbers r
        go (NoCell a) h is = absurd (not_both card e h.0)
        go (ByVerdict j) h is =
            let same_judgement = judgement_unique card (length before) j (NotAdmitted r) h.1 e in
            ap owner_numbers is
            ∙ ap (λ (k : Judgement). owner_numbers (owner_of card coordinates (ByVerdict k) before)) same_judgement

    outside_numbers : OwnerEachNumber card coordinates (length before) after (owner_numbers o)
    outside_numbers =
        let number : (m : Numbers) → owner_numbers o ≡ m → (owner_numbers o).number ≡ m.number = λ m e. ap (λ (k : Numbers). k.number) e in
        let late-12 : Free card → Late (owner_numbers o) =
        λ f. late (owner_numbers o) 12 (inr (omega arith)) (λ z. omega arith) (number (answer 12 axis 0 0) (twelve f)) in
        let six = of_admission card (owner_numbers o) refusals (λ e. late-12 ((free_exactly card).0 e)) in
        let free-at-12 : (owner_numbers o).number ≡ 12 → Free card =
        λ e. six.passed.0 (late (owner_numbers o) 12 (inr (omega arith)) (λ z. omega arith) e) in
        record {
          admission = six;
          no_cell = λ other. (
            λ e.
                let f = free-at-12 (number (answer 12 other 0 0) e) in
                (f, subst (FirstPast card.lengths coordinates) (ap (λ (m : Numbers). m.a) (sym (twelve f) ∙ e)) past),
            λ so.
                let same_place : Past axis ≡ Past other =
                sym ((past_exactly card.lengths coordinates same axis).1 past) ∙ (past_exactly card.lengths coordinates same other).1 so.1 in
                let same_axis : axis ≡ other = cc in
                twelve so.0 ∙ ap (λ (a : ℕ). answer 12 a 0 0) same_axis,
          );
          no_cell_details = λ e. let is = twelve (free-at-12 e) in is ∙ ap (λ (a : ℕ). answer 12 a 0 0) (sym (ap (λ (m : Numbers). m.a) is));
          table =
              table_never card (length before) (owner_numbers o) (get_or after (row_major card.lengths coordinates) 0)
              (λ ready. omega (arith, past.past, ready.1 axis past.a_place))
              (λ l. number (answer 12 axis 0 0) (twelve (six.passed.0 l)));
        }

-- the owner of a cell, for every card and all coordinates
pub owner_each_number : (card : Card) (coordinates before after : List ℕ) (o : Result ℕ Refusal) → length coordinates ≡ length card.lengths
    → OwnerSays card coordinates before after o → OwnerEachNumber card coordinates (length before) after (owner_numbers o)
owner_each_number card coordinates before after o same says =
    let p = (owner_exactly card coordinates before after o).0 says in
    ⊎_elim (λ (below : EachBelow card.lengths coordinates). inside_numbers card coordinates before after o p same below)
    (λ (found : (axis : ℕ) × FirstPast card.lengths coordinates axis). outside_numbers card coordinates before after o p same found.0 found.1)
    (asked_one card.lengths coordinates same)
