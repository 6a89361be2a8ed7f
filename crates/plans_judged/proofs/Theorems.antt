-- What is promised is settled: two outcomes of the same question are equal. And the planner's plans are accepted.
use Rattle.std.specs.Prelude.{Result, ⊤, Err, Ok}
use mathlib.Core.Path.{◌≡◌, refl, sym, ap, ap₂, ◌∙◌, subst}
use mathlib.Core.Bool.{Bool, true, false, cond, not, ◌&&◌, ◌||◌, and-eq-true_iff}
use mathlib.Core.Logic.{◌↔◌, ◌⊎◌, ⊎_elim}
use mathlib.Core.List.{List, [], ◌∷◌, ◌++◌}
use Prim.Native.Nat.{ℕ, zero, suc, ◌+◌, ◌*◌, ◌≤◌, ◌<◌}
use native.Mathlib.Omega.{arith}
use native.Mathlib.Numerals.{add-one}
use lib.Dec.{eqb, ltb, leb}
use lib.ListN.{length, get_or, take, drop, length-take}
use lib.Seq.{take_at}
use borrow.Author.Tests.{eq-eqb, ne_eqb, eqb-true, ltb-false, le-ltb}
use Rattle.answers.specs.Refusals.{no_refusal}
use Rattle.answers.specs.declared.Refusal.{Refusal}
use Rattle.answers.proofs.OneToOne.{read_back, refused_back, pinned}
use Rattle.answers.specs.declared.Refusal.TheVariants.{Limits, Shape, TooShort, Overlap}
use Rattle.laws.proofs.Rungs.{apart, passed_by}
use Rattle.card.specs.Card.{elements, copies, cells, marks_of}
use Rattle.card.specs.Lists.{product, same}
use Rattle.card.specs.Admission.{space_fits}
use Rattle.card.specs.declared.Card.{Card}
use Rattle.card.proofs.Lists.{same_true}
use Rattle.card.proofs.Admitted.{sized}
use Rattle.rules.specs.Reuse.{leader, Unmarked}
use Rattle.rules.proofs.Reuse.{leads_itself}
use Rattle.idle.proofs.Theorems.{checks_passed}
use Rattle.claims.specs.Claims.{Owners, occupied, OwnedTable as Owned}
use Rattle.judgement.specs.Judgement.{placed, Judgement, NotAdmitted, NoRoom, OutsideAt, Clashing, Passed, ComesTo}
use Rattle.judgement.specs.Verdict.{verdict_of, approved_with}
use Rattle.judgement.proofs.Unique.{judgement_unique}
use Rattle.plans.specs.Plans.{Carries, carried, first_outside, first_wrong, first_shared, planned, Complete, Matched}
use Rattle.plans.proofs.Plans.{plan_length, NamesCells}
use Rattle.plans.proofs.Theorems.{owners_complete, plan_accepted, apart_exactly, right_exactly, inside_exactly}
use Rattle.plans_judged.specs.Pair.{one_space, any_mark, marked, Opening, Untouched, Emptied, Ready, after_both, opening}
use Rattle.plans_judged.specs.Endings.{CellsHeld, emptying, Ending, Kept, Left, answer_of, first_after, second_after, ending_of, PairPromise, checked_by, plan_checked, CheckPromise, written_by, plan_written, memory_after, PlanPromise, checked_numbers, planning_numbers}

module _ (one two : Card) (first second : List ℕ) where
  -- the opening is unique
  abbrev started : Judgement → Judgement → Opening
  started j k = opening one two (length first) (length second) j k

  -- what a question on two cards promises is settled: how it ends, and with it the answer and both tables
  module _ {A : Type 0} (refused : Refusal → A) (ready : List ℕ → List ℕ → CellsHeld A) where
    pub ending_settled : (f s f' s' : List ℕ) (a a' : A) (p : PairPromise one two refused ready first second f s a)
        → (q : PairPromise one two refused ready first second f' s' a') → p.ending ≡ q.ending
    ending_settled f s f' s' a a' p q =
        p.follows
        ∙ ap (ending_of (cells one) refused ready)
        (ap₂ started (judgement_unique one (length first) p.judgement q.judgement p.comes q.comes)
        (judgement_unique two (length second) p.other q.other p.comes_other q.comes_other))
        ∙ sym q.follows

    pub pair_settled : (f s f' s' : List ℕ) (a a' : A) → PairPromise one two refused ready first second f s a
        → PairPromise one two refused ready first second f' s' a' → (a ≡ a') × (f ≡ f') × (s ≡ s')
    pair_settled f s f' s' a a' p q =
        let same : p.ending ≡ q.ending = ending_settled f s f' s' a a' p q in (
          p.answers ∙ ap answer_of same ∙ sym q.answers,
          p.leaves ∙ ap (λ (e : Ending A). first_after (cells one) e first) same ∙ sym q.leaves,
          p.leaves_other ∙ ap (λ (e : Ending A). second_after (cells one) e second) same ∙ sym q.leaves_other,
        )

  -- of a plan that is checked: the answer and both tables
  pub check_settled : (plan f s f' s' : List ℕ) (a a' : Result ⊤ Refusal) → CheckPromise one two plan first second f s a
      → CheckPromise one two plan first second f' s' a' → (a ≡ a') × (f ≡ f') × (s ≡ s')
  check_settled plan = pair_settled Err (plan_checked (cells one) plan)

  -- and of one that is written: the answer, the plan's memory, and both tables
  pub plan_settled : (memory m f s m' f' s' : List ℕ) (a a' : Result ℕ Refusal) → PlanPromise one two memory first second m f s a
      → PlanPromise one two memory first second m' f' s' a' → (a ≡ a') × (m ≡ m') × (f ≡ f') × (s ≡ s')
  plan_settled memory m f s m' f' s' a a' p q =
      let ready = plan_written (cells one) (length memory) in
      let rest = pair_settled Err ready f s f' s' a a' p.pair q.pair in
      let same = ending_settled Err ready f s f' s' a a' p.pair q.pair in
      (rest.0, p.writes ∙ ap (λ (e : Ending (Result ℕ Refusal)). memory_after e memory) same ∙ sym q.writes, rest.1, rest.2)

-- where no mark is found, there is none
no_mark : (marks : List Bool) → any_mark marks ≡ false → (k : ℕ) → k < length marks → get_or marks k false ≡ false
no_mark [] e k h = refl
no_mark (true ∷ marks) e k h = absurd (apart cc)
no_mark (false ∷ marks) e zero h = refl
no_mark (false ∷ marks) e (suc k) h = no_mark marks e k (omega arith)

pub unmarked : (card : Card) → marked card ≡ false → Unmarked card
unmarked card e = no_mark (marks_of card) e

-- an approved card without reuse marks leaves an owner table of its elements
pub card_table : (card : Card) (room : ℕ) (owners : List ℕ) (count : ℕ) → ComesTo card room (Passed owners count) → marked card ≡ false
    → Complete (elements card) owners
card_table card room owners count h e =
    owners_complete (placed card) (elements card) owners h.2.owners (λ f l.
    rw (eq-eqb (leader card f) f (leads_itself card (unmarked card e) f l)) (sized card (checks_passed card h.0.admitted)).some_copies)

-- of two marks neither
pub neither : (a b : Bool) → (a || b) ≡ false → (a ≡ false) × (b ≡ false)
neither true b e = absurd (apart cc)
neither false b e = (refl, e)

or_true : (a : Bool) → (a || true) ≡ true
or_true true = refl
or_true false = refl

-- a negated test that fails
pub doubly : (b : Bool) → not b ≡ false → b ≡ true
doubly true e = refl
doubly false e = absurd (apart cc)

-- both cards are approved, with these owners, and match
pub record Both (one two : Card) (j k : Judgement) (first second : List ℕ) : Type 0 where
  pub count : ℕ
  pub count_other : ℕ
  pub passed : j ≡ Passed first count
  pub passed_other : k ≡ Passed second count_other
  pub no_mark_one : marked one ≡ false
  pub no_mark_two : marked two ≡ false
  pub even : elements one ≡ elements two

module _ (one two : Card) (first second : List ℕ) where
  pub both_opened : (j k : Judgement) → after_both one two j k ≡ Ready first second → Both one two j k first second
  both_opened (NotAdmitted refusal) k e = absurd (apart cc)
  both_opened NoRoom k e = absurd (apart cc)
  both_opened (OutsideAt flat axis) k e = absurd (apart cc)
  both_opened (Clashing x y cell) k e = absurd (apart cc)
  both_opened (Passed f n) (NotAdmitted refusal) e = absurd (apart cc)
  both_opened (Passed f n) NoRoom e = absurd (apart cc)
  both_opened (Passed f n) (OutsideAt flat axis) e = absurd (apart cc)
  both_opened (Passed f n) (Clashing x y cell) e = absurd (apart cc)
  both_opened (Passed f n) (Passed s m) e =
      let unmarked-both = passed_by (marked one || marked two) e (λ q. apart cc) in
      let as_many = passed_by (not (eqb (elements one) (elements two))) unmarked-both.1 (λ q. apart cc) in
      let same_first : f ≡ first = cc as_many.1 in
      let same_second : s ≡ second = cc as_many.1 in
      let marks = neither (marked one) (marked two) unmarked-both.0 in
      record {
        count = n;
        count_other = m;
        passed = ap (λ (l : List ℕ). Passed l n) same_first;
        passed_other = ap (λ (l : List ℕ). Passed l m) same_second;
        no_mark_one = marks.0;
        no_mark_two = marks.1;
        even = eqb-true (elements one) (elements two) (doubly (eqb (elements one) (elements two)) as_many.0);
      }

  -- and in one space, with room
  pub opened : (room other : ℕ) (j k : Judgement) → opening one two room other j k ≡ Ready first second
      → (one_space one.lengths two.lengths ≡ true) × (cells one ≤ room) × (cells one ≤ other) × Both one two j k first second
  opened room other j k e =
      let space = passed_by (not (one_space one.lengths two.lengths)) e (λ q. apart cc) in
      let long = passed_by (ltb room (cells one) || ltb other (cells one)) space.1 (λ q. apart cc) in
      let tables = neither (ltb room (cells one)) (ltb other (cells one)) long.0 in (
        doubly (one_space one.lengths two.lengths) space.0,
        ltb-false room (cells one) tables.0,
        ltb-false other (cells one) tables.1,
        both_opened j k long.1,
      )

-- the order of the checks, in one space and with room: the first card's refusal, the second card's, marks, elements
module _ (one two : Card) (room other : ℕ) (space : one_space one.lengths two.lengths ≡ true) (long : cells one ≤ room) (long_other : cells one ≤ other) where
  past_room : (j k : Judgement) → opening one two room other j k ≡ after_both one two j k
  past_room j k = rw (space, le-ltb room (cells one) long, le-ltb other (cells one) long_other) refl

  pub first_judged_first : (j k : Judgement) (r : Refusal) → verdict_of one j ≡ Err r → opening one two room other j k ≡ Emptied r
  first_judged_first j k r e = past_room j k ∙ rw e refl

  module _ (j k : Judgement) {e o c : ℕ} (approved : verdict_of one j ≡ approved_with e o c) where
    pub then_the_second : (r : Refusal) → verdict_of two k ≡ Err r → opening one two room other j k ≡ Emptied r
    then_the_second r e = past_room j k ∙ rw (approved, e) refl

    module _ {e' o' c' : ℕ} (approved-other : verdict_of two k ≡ approved_with e' o' c') where
      pub then_marks : (marked one ≡ true) ⊎ (marked two ≡ true) → opening one two room other j k ≡ Emptied Limits
      then_marks h = past_room j k ∙ rw (approved, approved-other, some h) refl
        where
          some : (marked one ≡ true) ⊎ (marked two ≡ true) → (marked one || marked two) ≡ true
          some h = ⊎_elim (λ (e : marked one ≡ true). rw e refl) (λ (e : marked two ≡ true). rw e (or_true (marked one))) h

      pub then_elements : marked one ≡ false → marked two ≡ false → (elements one ≡ elements two → ⊥) → opening one two room other j k ≡ Emptied Shape
      then_elements m n differ = past_room j k ∙ rw (approved, approved-other, m, n, ne_eqb (elements one) (elements two) differ) refl

-- 23 comes before 11: a plan between tables that share a cell is refused with it, whatever the memory
pub overlap_before_room : (c room : ℕ) (first second : List ℕ) (k : ℕ) → first_shared first second ≡ k + 1
    → (plan_written c room first second).answer ≡ Err (Overlap (record { 0 = k }))
overlap_before_room c room first second k e = rw (e ∙ add-one k) refl

-- an approved card comes to the same in any table with room
passed_anew : (card : Card) (room other : ℕ) (owners : List ℕ) (count : ℕ) → ComesTo card room (Passed owners count) → cells card ≤ other
    → ComesTo card other (Passed owners count)
passed_anew card room other owners count h long = (record { admitted = h.0.admitted; enough = long }, h.1, h.2)

-- where a plan is written, both cards are ready, no cell is shared, and the memory begins with the planner's plan
pub record Wrote (memory : List ℕ) (o : Opening) (e : Ending (Result ℕ Refusal)) (n : ℕ) : Type 0 where
  pub first : List ℕ
  pub second : List ℕ
  pub ready : o ≡ Ready first second
  pub apart_cells : first_shared first second ≡ 0
  pub numbers : n ≡ 2 * occupied second
  pub ends : e ≡ Left (record { answer = Ok (2 * occupied second); first = first; second = second })
  pub memory_is : memory_after e memory ≡ planned first second ++ drop n memory

abbrev in_room : ℕ → List ℕ → List ℕ → Bool → CellsHeld (Result ℕ Refusal)
in_room c f s short =
    cond short (emptying c (Err (TooShort (2 * occupied s)))) (record { answer = Ok (2 * occupied s); first = f; second = s })

wrote_after : (c room n : ℕ) (memory f s : List ℕ) (m : ℕ) → first_shared f s ≡ m → Ok n ≡ (written_by c room f s m).answer
    → Wrote memory (Ready f s) (Left (written_by c room f s m)) n
wrote_after c room n memory f s (suc cell) shared e = absurd (apart cc)
wrote_after c room n memory f s zero shared e = split (ltb room (2 * occupied s)) e
  where
    split : (b : Bool) → Ok n ≡ (in_room c f s b).answer → Wrote memory (Ready f s) (Left (in_room c f s b)) n
    split true e = absurd (apart cc)
    split false e =
        let same : n ≡ 2 * occupied s = cc in
        record {
          first = f;
          second = s;
          ready = refl;
          apart_cells = shared;
          numbers = same;
          ends = refl;
          memory_is = ap (λ (k : ℕ). planned f s ++ drop k memory) (sym same);
        }

pub wrote : (c room n : ℕ) (memory : List ℕ) (o : Opening) → Ok n ≡ answer_of (ending_of c Err (plan_written c room) o)
    → Wrote memory o (ending_of c Err (plan_written c room) o) n
wrote c room n memory (Untouched refusal) e = absurd (apart cc)
wrote c room n memory (Emptied refusal) e = absurd (apart cc)
wrote c room n memory (Ready f s) e = wrote_after c room n memory f s (first_shared f s) refl e

-- two cards that a plan may be between
module _ (one two : Card) (room other : ℕ) (j k : Judgement) (first second : List ℕ) (h : ComesTo one room j) (g : ComesTo two other k)
    (ready : opening one two room other j k ≡ Ready first second) where
  pub parts : (one_space one.lengths two.lengths ≡ true) × (cells one ≤ room) × (cells one ≤ other) × Both one two j k first second
  parts = opened one two first second room other j k ready

  pub comes_one : ComesTo one room (Passed first parts.3.count)
  comes_one = subst (ComesTo one room) parts.3.passed h

  pub comes_two : ComesTo two other (Passed second parts.3.count_other)
  comes_two = subst (ComesTo two other) parts.3.passed_other g

  pub same_cells : cells one ≡ cells two
  same_cells =
      ap product
      (same_true one.lengths two.lengths
      ((and-eq-true_iff (same one.lengths two.lengths) (space_fits one.lengths)).0 parts.0).0)

  pub first_long : length first ≡ cells one
  first_long = comes_one.2.size

  pub second_long : length second ≡ cells one
  second_long = comes_two.2.size ∙ sym same_cells

  -- leave owner tables of the same elements
  pub owner_one : Complete (elements one) first
  owner_one = card_table one room first parts.3.count comes_one parts.3.no_mark_one

  pub owner_two : Complete (elements one) second
  owner_two =
      subst (λ (n : ℕ). Complete n second) (sym parts.3.even)
      (card_table two other second parts.3.count_other comes_two parts.3.no_mark_two)

  pub matched : Matched first second
  matched = record { elements = elements one; one = owner_one; two = owner_two }

  -- and are ready in any two tables with room
  pub ready_anew : (room' other' : ℕ) (j' k' : Judgement) → ComesTo one room' j' → ComesTo two other' k' → cells one ≤ room' → cells one ≤ other'
      → opening one two room' other' j' k' ≡ Ready first second
  ready_anew room' other' j' k' h' g' long long_other =
      let b = parts.3 in
      let is-j : j' ≡ Passed first b.count =
      judgement_unique one room' j' (Passed first b.count) h' (passed_anew one room room' first b.count comes_one long) in
      let is-k : k' ≡ Passed second b.count_other =
      judgement_unique two other' k' (Passed second b.count_other) g'
      (passed_anew two other other' second b.count_other comes_two (omega (arith, same_cells))) in
      rw (
        is-j,
        is-k,
        parts.0,
        le-ltb room' (cells one) long,
        le-ltb other' (cells one) long_other,
        b.no_mark_one,
        b.no_mark_two,
        eq-eqb (elements one) (elements two) b.even,
      )
      refl

-- the planner's plans are accepted: what is written for two cards, in any memory, is accepted between the same two cards, in any two tables with room
pub plans_are_accepted : (one two : Card) (memory first second m f s : List ℕ) (n : ℕ) → PlanPromise one two memory first second m f s (Ok n)
    → (first' second' f' s' : List ℕ) (a : Result ⊤ Refusal) → cells one ≤ length first' → cells one ≤ length second'
    → CheckPromise one two (take n m) first' second' f' s' a → a ≡ no_refusal
plans_are_accepted one two memory first second m f s n written first' second' f' s' a long long_other q =
    let p = written.pair in
    let o : Opening = opening one two (length first) (length second) p.judgement p.other in
    let w = wrote (cells one) (length memory) n memory o (p.answers ∙ ap answer_of p.follows) in
    let owners : List ℕ = w.first in
    let others : List ℕ = w.second in
    let again : opening one two (length first') (length second') q.judgement q.other ≡ Ready owners others =
    ready_anew one two (length first) (length second) p.judgement p.other owners others p.comes p.comes_other w.ready (length first')
    (length second') q.judgement q.other q.comes q.comes_other long long_other in
    let as_long : length (planned owners others) ≡ n = plan_length owners others 0 ∙ sym w.numbers in
    let plan-is : take n m ≡ planned owners others =
    ap (take n) (written.writes ∙ ap (λ (e : Ending (Result ℕ Refusal)). memory_after e memory) p.follows ∙ w.memory_is)
    ∙ take_at (planned owners others) (drop n memory) n as_long in
    let one_table = owner_one one two (length first) (length second) p.judgement p.other owners others p.comes p.comes_other w.ready in
    let two-table = owner_two one two (length first) (length second) p.judgement p.other owners others p.comes p.comes_other w.ready in
    let is-long = first_long one two (length first) (length second) p.judgement p.other owners others p.comes p.comes_other w.ready in
    let is-long-other = second_long one two (length first) (length second) p.judgement p.other owners others p.comes p.comes_other w.ready in
    let good : Carries owners others (planned owners others) =
    plan_accepted (elements one) owners others one_table two-table (is-long ∙ sym is-long-other) ((apart_exactly owners others).0 w.apart_cells) in
    let inside : first_outside (cells one) (planned owners others) ≡ 0 = rw is-long-other at good.inside in
    q.answers
    ∙ ap answer_of q.follows
    ∙ ap₂ (λ (plan : List ℕ) (o : Opening). answer_of (ending_of (cells one) Err (plan_checked (cells one) plan) o)) plan-is again
    ∙ rw (inside, good.right) refl

-- what accepting means: both cards are ready, every number of the plan is a cell, two a copy, and after the copies every occupied cell of the second
-- holds its owner
pub record Good (cells : ℕ) (plan : List ℕ) (o : Opening) : Type 0 where
  pub first : List ℕ
  pub second : List ℕ
  pub ready : o ≡ Ready first second
  pub inside : NamesCells cells plan
  pub right : (c : ℕ) → 0 < get_or second c 0 → get_or (carried plan first) c 0 ≡ get_or second c 0

-- what checking a plan answers, once the two cards are opened
abbrev check_answer : ℕ → List ℕ → Opening → Result ⊤ Refusal
check_answer c plan o = answer_of (ending_of c Err (plan_checked c plan) o)

accepted_good : (c : ℕ) (plan : List ℕ) (o : Opening) → no_refusal ≡ check_answer c plan o → Good c plan o
accepted_good c plan (Untouched refusal) e = absurd (apart cc)
accepted_good c plan (Emptied refusal) e = absurd (apart cc)
accepted_good c plan (Ready f s) e = split (first_outside c plan) (first_wrong (carried plan f) s) refl refl e
  where
    split : (n w : ℕ) → first_outside c plan ≡ n → first_wrong (carried plan f) s ≡ w → no_refusal ≡ (checked_by c (carried plan f) s n w).answer
        → Good c plan (Ready f s)
    split (suc n) w en ew e = absurd (apart cc)
    split zero (suc w) en ew e = absurd (apart cc)
    split zero zero en ew e = record {
      first = f;
      second = s;
      ready = refl;
      inside = (inside_exactly c plan).0 en;
      right = (right_exactly (carried plan f) s).0 ew;
    }

good_accepted : (c : ℕ) (plan : List ℕ) (o : Opening) → Good c plan o → check_answer c plan o ≡ no_refusal
good_accepted c plan o g =
    rw (g.ready, (inside_exactly c plan).1 g.inside, (right_exactly (carried plan g.first) g.second).1 g.right) refl

-- a plan is accepted exactly then
pub accepted_exactly : (one two : Card) (plan first second f s : List ℕ) (a : Result ⊤ Refusal) (p : CheckPromise one two plan first second f s a)
    → (a ≡ no_refusal) ↔ Good (cells one) plan (opening one two (length first) (length second) p.judgement p.other)
accepted_exactly one two plan first second f s a p =
    let o : Opening = opening one two (length first) (length second) p.judgement p.other in
    let answers : a ≡ check_answer (cells one) plan o = p.answers ∙ ap answer_of p.follows in
    (λ e. accepted_good (cells one) plan o (sym e ∙ answers), λ g. answers ∙ good_accepted (cells one) plan o g)

-- pinning the numbers pins the answer
checked_back : (p : Result ⊤ Refusal) → read_back (λ n. no_refusal) Err (checked_numbers p) ≡ p
checked_back (Ok _) = refl
checked_back (Err r) = refused_back (λ n. no_refusal) Err r

pub checked_one_to_one : (p q : Result ⊤ Refusal) → checked_numbers p ≡ checked_numbers q → p ≡ q
checked_one_to_one = pinned (λ n. no_refusal) Err checked_numbers checked_back

planning_back : (p : Result ℕ Refusal) → read_back (λ n. Ok n.a) Err (planning_numbers p) ≡ p
planning_back (Ok n) = refl
planning_back (Err r) = refused_back (λ n. Ok n.a) Err r

pub planning_one_to_one : (p q : Result ℕ Refusal) → planning_numbers p ≡ planning_numbers q → p ≡ q
planning_one_to_one = pinned (λ n. Ok n.a) Err planning_numbers planning_back
