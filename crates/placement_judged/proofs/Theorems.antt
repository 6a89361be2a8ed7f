-- What the placement of one element means, in plain for-alls.
use Rattle.std.specs.Prelude.{Result, Err, Ok, ⊤}
use mathlib.Core.Path.{◌≡◌, refl, sym, ap, ◌∙◌}
use mathlib.Core.Bool.{Bool, true, false, cond, not, and-eq-true_iff, true≢false}
use mathlib.Core.Logic.{◌↔◌}
use mathlib.Core.List.{List, ◌++◌}
use Prim.Native.Nat.{ℕ, ◌≤◌, ◌<◌}
use native.Mathlib.Omega.{arith}
use borrow.Author.Tests.{ltb-false, eqb-true}
use lib.Dec.{leb, eqb, ltb}
use lib.ListN.{length, get_or, drop, get_or-append}
use lib.Seq.{drop_at}
use Rattle.laws.proofs.Rungs.{apart}
use Rattle.answers.specs.Refusals.{answer, no_refusal}
use Rattle.answers.specs.declared.Numbers.{Numbers}
use Rattle.answers.specs.declared.Refusal.{Refusal}
use Rattle.answers.specs.declared.Refusal.TheVariants.{Shape, Coordinate, TooShort, Idle}
use Rattle.answers.proofs.OneToOne.{refusal_not_zero, read_back, refused_back, pinned, rung, either}
use Rattle.card.specs.Lists.{within, product}
use Rattle.card.specs.Card.{elements, copies}
use Rattle.card.specs.Admission.{admission}
use Rattle.card.specs.declared.Card.{Card}
use Rattle.card.proofs.Theorems.{AlikeCards}
use Rattle.rules.specs.RowMajor.{inside}
use Rattle.rules.specs.Rules.{axes, spot}
use Rattle.rules.specs.Copies.{cell_of, copy_cells, outside_axis}
use Rattle.rules.specs.declared.Spot.TheVariants.{Inside}
use Rattle.rules.proofs.Spots.{spot_inside}
use Rattle.rules.proofs.Filling.{cells_length, cells_at, outside_least}
use Rattle.rules.proofs.Theorems.{OneToOne, one_to_one, same_spot}
use Rattle.idle.specs.Idle.{IdlePair}
use Rattle.idle.specs.Admission.{full_admission}
use Rattle.idle.proofs.Theorems.{checks_from_run, run_from_checks, idle_exactly, AfterAdmission, after_admission_lem, past_the_count_idle}
use Rattle.placement_judged.specs.Placement.{entries, most_dimensions, shape_admitted, coordinates_fit, flatten, element_answer, after_admission, placement_answer, written, placement_memory, placement_numbers, PlacementSays, Placing}
use Rattle.placement_judged.specs.declared.Tuple.{Tuple}

-- rule 1: flattening names each flat index below the product of a shape by one coordinate tuple inside it
pub flatten_one_to_one : (shape : Tuple) → OneToOne (entries shape)
flatten_one_to_one shape = one_to_one (entries shape)

-- coordinates that fit an admitted shape name an element
pub flatten_below : (shape coordinates : Tuple) (n : ℕ) → shape_admitted shape n ≡ true → coordinates_fit shape coordinates ≡ true
    → flatten shape coordinates < n
flatten_below shape coordinates n admitted fits =
    let all = eqb-true (product (entries shape)) n ((and-eq-true_iff (within 1 most_dimensions shape.count) _).0 admitted).1 in
    let within = ((and-eq-true_iff (eqb coordinates.count shape.count) (inside (entries shape) (entries coordinates))).0 fits).1 in
    omega (arith, all, (flatten_one_to_one shape).below (entries coordinates) within)

-- what is promised by the pair is what is promised by the run
pub placement_exactly : (card : Card) (shape coordinates : Tuple) (before after : List ℕ) (p : Result ℕ Refusal)
    → PlacementSays card shape coordinates before after p ↔ Placing card shape coordinates before after p
unfolding placement_answer placement_memory
placement_exactly card shape coordinates before after p = (
  λ k. by_run (run_from_checks card k) (full_admission card) refl,
  λ placing.
      checks_from_run card (λ refusal e. (placing.answer_is ∙ rw e refl, placing.memory_is ∙ rw e refl))
      (λ e. (placing.answer_is ∙ rw e refl, placing.memory_is ∙ rw (sym placing.answer_is) refl)),
)
  where
    by_run : ((refusal : Refusal) → full_admission card ≡ Err refusal → (p ≡ Err refusal) × (after ≡ before))
        × (full_admission card ≡ no_refusal → (p ≡ element_answer card shape coordinates (length before)) × (after ≡ written p (copy_cells card (flatten shape coordinates)) before))
        → (a : Result ⊤ Refusal) → full_admission card ≡ a → Placing card shape coordinates before after p
    by_run k (Ok _) e = let so = k.1 e in record { answer_is = so.0 ∙ rw e refl; memory_is = so.1 ∙ rw (so.0, e) refl }
    by_run k (Err refusal) e = let so = k.0 refusal e in record { answer_is = so.0 ∙ rw e refl; memory_is = so.1 ∙ rw e refl }

-- two outcomes that the promise of a placement allows are equal, in the answer and in every entry of the lent memory
pub placement_settled : (card : Card) (shape coordinates : Tuple) (before m n : List ℕ) (p q : Result ℕ Refusal)
    → PlacementSays card shape coordinates before m p → PlacementSays card shape coordinates before n q → (p ≡ q) × (m ≡ n)
placement_settled card shape coordinates before m n p q h k =
    let a = (placement_exactly card shape coordinates before m p).0 h in
    let b = (placement_exactly card shape coordinates before n q).0 k in
    (a.answer_is ∙ sym b.answer_is, a.memory_is ∙ sym b.memory_is)

-- pinning the numbers pins the answer
placement_back : (p : Result ℕ Refusal) → read_back (λ n. Ok n.a) Err (placement_numbers p) ≡ p
placement_back (Ok n) = refl
placement_back (Err r) = refused_back (λ n. Ok n.a) Err r

pub placement_one_to_one : (p q : Result ℕ Refusal) → placement_numbers p ≡ placement_numbers q → p ≡ q
placement_one_to_one = pinned (λ n. Ok n.a) Err placement_numbers placement_back

-- a rung of the ladder that gave no refusal was passed
past_admission : (a : Result ⊤ Refusal) (p : Result ℕ Refusal) (n : ℕ) → Ok n ≡ after_admission a p → Ok n ≡ p
past_admission (Ok _) p n e = e
past_admission (Err r) p n e = absurd (apart (cc))

past_rung : (b : Bool) (r : Refusal) (p : Result ℕ Refusal) (n : ℕ) → Ok n ≡ cond (not b) (Err r) p → (b ≡ true) × (Ok n ≡ p)
past_rung true r p n e = (refl, e)
past_rung false r p n e = absurd (apart (cc))

past_last : (b : Bool) (r : Refusal) (k n : ℕ) → Ok n ≡ cond b (Err r) (Ok k) → (b ≡ false) × (n ≡ k)
past_last true r k n e = absurd (apart (cc))
past_last false r k n e = (refl, cc)

-- the answer has copies only of an element, and only where all of them lie inside
all_inside : (card : Card) (shape coordinates : Tuple) (room n : ℕ) → Ok n ≡ placement_answer card shape coordinates room
    → (length axes ≤ outside_axis card (flatten shape coordinates)) × (n ≡ copies card) × (flatten shape coordinates < elements card)
unfolding placement_answer
all_inside card shape coordinates room n e =
    let flat = flatten shape coordinates in
    let e1 = past_admission (full_admission card) _ n e in
    let e2 = past_rung (shape_admitted shape (elements card)) Shape _ n e1 in
    let e3 = past_rung (coordinates_fit shape coordinates) Coordinate _ n e2.1 in
    let e4 = past_rung (leb (copies card) room) (TooShort (copies card)) _ n e3.1 in
    let e5 = past_last (ltb (outside_axis card flat) (length axes)) _ (copies card) n e4.1 in
    (ltb-false (outside_axis card flat) (length axes) e5.0, e5.1, flatten_below shape coordinates (elements card) e2.0 e3.0)

pub record Copied (card : Card) (flat : ℕ) (before after : List ℕ) (n : ℕ) : Type 0 where
  pub element : flat < elements card
  pub one_each : n ≡ copies card
  -- the entry of a combination is its cell by rules 1 to 5, inside the space
  pub cell_there : (combination : ℕ) → combination < n → spot card flat combination ≡ Inside (record { 0 = get_or after combination 0 })
  -- entries past the last copy stay as they were
  pub rest : drop n after ≡ drop n before

-- every copy of a placement is what rules 1 to 5 say
pub placement_copies : (card : Card) (shape coordinates : Tuple) (before after : List ℕ) (n : ℕ) → length card.lengths ≡ 8
    → Placing card shape coordinates before after (Ok n) → Copied card (flatten shape coordinates) before after n
unfolding placement_memory copy_cells outside_axis
placement_copies card shape coordinates before after n eight p =
    let flat = flatten shape coordinates in
    let cells = copy_cells card flat in
    let all = all_inside card shape coordinates (length before) n p.answer_is in
    let long : length cells ≡ n = cells_length (spot card flat) (copies card) ∙ sym all.1 in
    let filled : after ≡ cells ++ drop n before =
    p.memory_is ∙ ap (λ (q : Result ℕ Refusal). written q cells before) (sym p.answer_is) in
    record {
      element = all.2;
      one_each = all.1;
      cell_there = λ r h.
          let small : r < copies card = omega (arith, all.1) in
          let entry : get_or after r 0 ≡ cell_of (spot card flat r) =
          ap (λ (l : List ℕ). get_or l r 0) filled ∙ get_or-append cells (drop n before) 0 r (omega (arith, long)) ∙ cells_at (spot card flat) (copies card) r small in
          spot_inside card flat r eight (omega (arith, all.0, outside_least (spot card flat) (copies card) r small))
          ∙ ap (λ (c : ℕ). Inside (record { 0 = c })) (sym entry);
      rest = ap (drop n) filled ∙ drop_at cells (drop n before) n long;
    }

-- the element's own checks in document 01's numbers: 9, 10, 11 with the copies, 7 with the element and its smallest axis, or 0 with the copies
abbrev pub element_numbers : Card → Tuple → Tuple → ℕ → Numbers
element_numbers card shape coordinates room =
    cond (not (shape_admitted shape (elements card))) (answer 9 0 0 0)
    (cond (not (coordinates_fit shape coordinates)) (answer 10 0 0 0)
    (cond (not (leb (copies card) room)) (answer 11 (copies card) 0 0)
    (cond (ltb (outside_axis card (flatten shape coordinates)) (length axes))
    (answer 7 (flatten shape coordinates) (outside_axis card (flatten shape coordinates)) 0)
    (answer 0 (copies card) 0 0))))

element_numbers_lem : (card : Card) (shape coordinates : Tuple) (room : ℕ)
    → placement_numbers (element_answer card shape coordinates room) ≡ element_numbers card shape coordinates room
element_numbers_lem card shape coordinates room =
    rung placement_numbers (not (shape_admitted shape (elements card))) refl
    (rung placement_numbers (not (coordinates_fit shape coordinates)) refl
    (rung placement_numbers (not (leb (copies card) room)) refl
    (rung placement_numbers (ltb (outside_axis card (flatten shape coordinates)) (length axes)) refl refl)))

-- a placement in document 01's numbers: 1 to 6, 17 with the pair, and then these; and the lent memory, the cells of the copies and what
-- stood past them at 0, else untouched
pub placement_in_numbers : (card : Card) (shape coordinates : Tuple) (before after : List ℕ) (p : Result ℕ Refusal)
    → Placing card shape coordinates before after p
    → AfterAdmission card (placement_numbers p) (element_numbers card shape coordinates (length before))
    × (after
    ≡ cond (eqb (placement_numbers p).number 0) (copy_cells card (flatten shape coordinates) ++ drop (placement_numbers p).a before) before)
unfolding placement_answer placement_memory
placement_in_numbers card shape coordinates before after p placing = (
  after_admission_lem card (placement_numbers p) _ (λ r e. by (Err r) e)
      (λ e. by no_refusal e ∙ element_numbers_lem card shape coordinates (length before)),
  placing.memory_is ∙ rw (sym placing.answer_is) (memory p),
)
  where
    by : (a : Result ⊤ Refusal) → full_admission card ≡ a → placement_numbers p ≡ placement_numbers (after_admission a (element_answer card shape coordinates (length before)))
    by a e = rw (placing.answer_is, e)

    cells : List ℕ
    cells = copy_cells card (flatten shape coordinates)

    memory : (p : Result ℕ Refusal)
        → written p cells before ≡ cond (eqb (placement_numbers p).number 0) (cells ++ drop (placement_numbers p).a before) before
    memory (Ok n) = refl
    memory (Err r) = rw (refusal_not_zero r)

-- none of them is 17
element_not_idle : (card : Card) (shape coordinates : Tuple) (room : ℕ) → eqb (element_numbers card shape coordinates room).number 17 ≡ false
element_not_idle card shape coordinates room =
    let other : Numbers → Type 0 = λ n. eqb n.number 17 ≡ false in
    either other (not (shape_admitted shape (elements card))) refl
    (either other (not (coordinates_fit shape coordinates)) refl
    (either other (not (leb (copies card) room)) refl
    (either other (ltb (outside_axis card (flatten shape coordinates)) (length axes)) refl refl)))

-- 17 is given exactly when checks 1 to 6 are passed and this is the pair, and touches nothing
pub placement_idle : (card : Card) (shape coordinates : Tuple) (before after : List ℕ) (p : Result ℕ Refusal) → Placing card shape coordinates before after p
    → (a b : ℕ)
    → ((p ≡ Err (Idle a b)) ↔ ((admission card ≡ no_refusal) × IdlePair card.replica a b)) × (p ≡ Err (Idle a b) → after ≡ before)
unfolding placement_answer placement_memory
placement_idle card shape coordinates before after p placing a b = (
  (
    λ e. (idle_exactly card a b).0 (given (full_admission card) (sym e ∙ placing.answer_is)),
    λ h. placing.answer_is ∙ rw ((idle_exactly card a b).1 h),
  ),
  λ e. placing.memory_is ∙ rw (sym placing.answer_is, e),
)
  where
    given : (x : Result ⊤ Refusal) → Err (Idle a b) ≡ after_admission x (element_answer card shape coordinates (length before)) → x ≡ Err (Idle a b)
    given (Ok _) e = absurd (true≢false (rw (sym (element_numbers_lem card shape coordinates (length before)), sym e) at (element_not_idle card shape coordinates (length before))))
    given (Err r) e = let same : Idle a b ≡ r = cc in ap Err (sym same)

-- iters past a count play no part in the placement of an element
module _ (a b : Card) (k : AlikeCards a b) (shape xs : Tuple) where
  same_answer : (room : ℕ) → placement_answer a shape xs room ≡ placement_answer b shape xs room
  unfolding placement_answer outside_axis
  same_answer room = rw (past_the_count_idle a b k, k.shard.iters, k.replica.iters, same_spot a b k)

  same_memory : (before : List ℕ) → placement_memory a shape xs before ≡ placement_memory b shape xs before
  unfolding placement_memory copy_cells
  same_memory before = rw (same_answer (length before), k.replica.iters, same_spot a b k)

  pub past_the_count_placement : (before after : List ℕ) (placement : Result ℕ Refusal) → Placing a shape xs before after placement
      → Placing b shape xs before after placement
  past_the_count_placement before after placement p =
      record { answer_is = p.answer_is ∙ same_answer (length before); memory_is = p.memory_is ∙ same_memory before }
