-- Both questions in document 02's numbers: which numbers each can answer, and what each number leaves in the two tables and in the plan's memory,
-- from how the two cards open.
use Rattle.std.specs.Prelude.{Result, ⊤, Ok, Err}
use mathlib.Core.Path.{◌≡◌, refl, sym, ap, ◌∙◌}
use mathlib.Core.Bool.{Bool, true, false, cond, not, ◌||◌, true≢false, and-eq-true_iff}
use mathlib.Core.Logic.{◌⊎◌, inl, inr, ⊎_elim}
use mathlib.Core.List.{List, [], ◌∷◌, ◌++◌}
use Prim.Native.Nat.{ℕ, zero, suc, ◌+◌, ◌*◌, ◌≤◌, ◌<◌}
use native.Mathlib.Omega.{arith}
use lib.Dec.{eqb, ltb}
use lib.ListN.{length, get_or, take, drop, replicate, length-replicate, get_or-replicate, get_or-append}
use lib.Seq.{take_at}
use borrow.Author.Tests.{ltb-true, ltb-false}
use Rattle.judgement.specs.declared.Approved.{Approved}
use Rattle.answers.specs.Refusals.{answer, refusal_numbers}
use Rattle.answers.specs.declared.Numbers.{Numbers}
use Rattle.answers.specs.declared.Refusal.{Refusal}
use Rattle.answers.specs.declared.Refusal.TheVariants.{Limits, Space, Shape, TooShort, Plan, Overlap}
use Rattle.answers.proofs.OneToOne.{either, refusal_not_zero}
use Rattle.card.specs.Card.{elements, cells}
use Rattle.card.specs.Lists.{same, product}
use Rattle.card.specs.Admission.{counts_fit, numbers_fit, axes_fit, space_fits, few_enough, swizzle_fits, admission, admission_numbers}
use Rattle.card.specs.declared.Card.{Card}
use Rattle.card.proofs.Lists.{same_true}
use Rattle.idle.specs.Admission.{full_admission}
use Rattle.idle.proofs.Theorems.{six_or_idle}
use Rattle.claims.specs.Claims.{occupied}
use Rattle.judgement.specs.Judgement.{Judgement, NotAdmitted, NoRoom, OutsideAt, Clashing, Passed, ComesTo}
use Rattle.judgement.specs.Verdict.{verdict_of, verdict_numbers}
use Rattle.judgement.proofs.Leaves.{front_long, front_past}
use Rattle.plans.specs.Plans.{carried, first_outside, first_wrong, first_shared, planned}
use Rattle.plans.proofs.Plans.{carried_length}
use Rattle.plans_judged.specs.Pair.{one_space, marked, Opening, Untouched, Emptied, Ready, after_verdict, after_both, opening}
use Rattle.plans_judged.specs.Endings.{CellsHeld, emptying, Ending, Kept, Left, answer_of, first_after, second_after, ending_of, PairPromise, checked_by, plan_checked, CheckPromise, written_by, plan_written, with_plan, memory_after, PlanPromise, checked_numbers, planning_numbers}
use Rattle.plans_judged.proofs.Theorems.{neither, doubly, wrote, parts, comes_one, comes_two, first_long, second_long}

-- a number is among some
abbrev pub among : ℕ → List ℕ → Bool
among n [] = false
among n (m ∷ ms) = eqb n m || among n ms

-- the refusals of a verdict on a card whose space fits, in a table with room; those that empty both tables before the plan is looked at
abbrev pub of_verdict : List ℕ
of_verdict = 1 ∷ 2 ∷ 3 ∷ 5 ∷ 6 ∷ 7 ∷ 8 ∷ 17 ∷ []

abbrev pub of_pair : List ℕ
of_pair = 9 ∷ of_verdict

among_more : (a b : Bool) → b ≡ true → (a || b) ≡ true
among_more true b e = refl
among_more false b e = e

-- what is among some is none that is not
not_among : (n m : ℕ) (ms : List ℕ) → among n ms ≡ true → among m ms ≡ false → n ≡ m → ⊥
not_among n m ms e f same = true≢false (sym e ∙ ap (λ (k : ℕ). among k ms) same ∙ f)

-- an admission of a card whose space fits has no 4
abbrev Early : Result ⊤ Refusal → Type 0
Early a = among (admission_numbers a).number (0 ∷ of_verdict) ≡ true

six_early : (card : Card) → space_fits card.lengths ≡ true → Early (admission card)
unfolding admission
six_early card space =
    either Early (not (counts_fit card)) refl
    (either Early (not (numbers_fit card)) refl
    (either Early (not (axes_fit card)) refl
    (rw space (either Early (not (few_enough card)) refl (either Early (not (swizzle_fits card)) refl refl)))))

full_early : (card : Card) → space_fits card.lengths ≡ true → Early (full_admission card)
full_early card space = six_or_idle card Early (six_early card space) (λ a b. refl)

-- so has its verdict, and in a table with room it has no 11
verdict_early : (card : Card) (room : ℕ) (j : Judgement) → space_fits card.lengths ≡ true → cells card ≤ room → ComesTo card room j
    → among (verdict_numbers (verdict_of card j)).number (0 ∷ of_verdict) ≡ true
verdict_early card room (NotAdmitted r) space long h = rw h at (full_early card space)
verdict_early card room NoRoom space long h = absurd (omega (arith, h.1))
verdict_early card room (OutsideAt flat axis) space long h = refl
verdict_early card room (Clashing x y cell) space long h = refl
verdict_early card room (Passed owners n) space long h = refl

-- how two cards open, in tables of so many entries
module _ (one two : Card) (room other : ℕ) where
  abbrev Roomy : Type 0
  Roomy = (cells one ≤ room) × (cells one ≤ other)

  -- refused with nothing touched: 4, or 11 with the cells where a table is shorter; with both tables emptied: none of these
  abbrev Opens : Opening → Type 0
  Opens (Untouched r) = (r ≡ Space) ⊎ ((r ≡ TooShort (cells one)) × ((room < cells one) ⊎ (other < cells one)))
  Opens (Emptied r) = Roomy × (among (refusal_numbers r).number of_pair ≡ true)
  Opens (Ready first second) = Roomy

  after_verdict_lem : (v : Result Approved Refusal) (then : Opening) → Roomy → among (verdict_numbers v).number (0 ∷ of_verdict) ≡ true → Opens then → Opens (after_verdict v then)
  after_verdict_lem (Ok approval) then long early rest = rest
  after_verdict_lem (Err r) then long early rest =
      let refused : among (refusal_numbers r).number of_verdict ≡ true = rw (refusal_not_zero r) at early in
      (long, among_more (eqb (refusal_numbers r).number 9) (among (refusal_numbers r).number of_verdict) refused)

  opens : (j k : Judgement) → ComesTo one room j → ComesTo two other k → Opens (opening one two room other j k)
  opens j k h g = split (one_space one.lengths two.lengths) (ltb room (cells one)) (ltb other (cells one)) refl refl refl
    where
      matching : (a b : Bool) (f s : List ℕ) → Roomy → Opens (cond a (Emptied Limits) (cond b (Emptied Shape) (Ready f s)))
      matching true b f s long = (long, refl)
      matching false true f s long = (long, refl)
      matching false false f s long = long

      split : (a b c : Bool) → one_space one.lengths two.lengths ≡ a → ltb room (cells one) ≡ b → ltb other (cells one) ≡ c
          → Opens (cond (not a) (Untouched Space) (cond (b || c) (Untouched (TooShort (cells one))) (after_both one two j k)))
      split false b c e r o = inl refl
      split true true c e r o = inr (refl, inl (ltb-true room (cells one) r))
      split true false true e r o = inr (refl, inr (ltb-true other (cells one) o))
      split true false false e r o =
          let long : Roomy = (ltb-false room (cells one) r, ltb-false other (cells one) o) in
          let parts = (and-eq-true_iff (same one.lengths two.lengths) (space_fits one.lengths)).0 e in
          let alike : one.lengths ≡ two.lengths = same_true one.lengths two.lengths parts.0 in
          let as_many : cells one ≡ cells two = ap product alike in
          after_verdict_lem (verdict_of one j) _ long (verdict_early one room j parts.1 long.0 h)
          (after_verdict_lem (verdict_of two k) _ long
          (verdict_early two other k (sym (ap space_fits alike) ∙ parts.1) (omega (arith, long.1)) g)
          (matching (marked one || marked two) (not (eqb (elements one) (elements two))) _ _ long))

-- what a question leaves in the two tables, at this number; where it stands so, a refusal does not empty them
pub record TablesAfter (one : Card) (first second f s : List ℕ) (number : ℕ) (stands : Type 0) : Type 0 where
  -- both tables are as long as they were, and entries past the cells stay as they were
  pub long : length f ≡ length first
  pub long_other : length s ≡ length second
  pub past : (c : ℕ) → cells one ≤ c → get_or f c 0 ≡ get_or first c 0
  pub past_other : (c : ℕ) → cells one ≤ c → get_or s c 0 ≡ get_or second c 0
  -- 4 touches nothing, nor does 11 where a table is shorter than the cells
  pub untouched : (number ≡ 4) ⊎ ((length first < cells one) ⊎ (length second < cells one)) → (f ≡ first) × (s ≡ second)
  -- any other refusal leaves the cells of both all 0
  pub emptied : 0 < number → (number ≡ 4 → ⊥) → cells one ≤ length first → cells one ≤ length second → (stands → ⊥) → (c : ℕ) → c < cells one
      → (get_or f c 0 ≡ 0) × (get_or s c 0 ≡ 0)

module _ (one two : Card) (first second : List ℕ) {A : Type 0} (refused : Refusal → A) (ready : List ℕ → List ℕ → CellsHeld A) (numbers : A → Numbers)
    (as-refused : (r : Refusal) → numbers (refused r) ≡ refusal_numbers r) (stands : Numbers → Type 0) (own : ℕ) where
  -- the numbers that the question can answer: those before the plan is looked at, and its own
  abbrev pub Answers : A → Type 0
  Answers a = among (numbers a).number (0 ∷ 4 ∷ 11 ∷ own ∷ of_pair) ≡ true

  -- what is asked of the question itself, where both cards are ready
  record Own (held : CellsHeld A) : Type 0 where
    pub size : length held.first ≡ cells one
    pub size_other : length held.second ≡ cells one
    pub answers : Answers held.answer
    pub not_4 : (numbers held.answer).number ≡ 4 → ⊥
    pub empties : 0 < (numbers held.answer).number → (stands (numbers held.answer) → ⊥)
        → (held.first ≡ replicate (cells one) 0) × (held.second ≡ replicate (cells one) 0)

  abbrev ended : Opening → Ending A
  ended o = ending_of (cells one) refused ready o

  answers_with : (o : Opening) → Opens one two (length first) (length second) o → ((f s : List ℕ) → o ≡ Ready f s → Own (ready f s))
      → Answers (answer_of (ended o))
  answers_with (Untouched r) why each =
      rw (as-refused r) (⊎_elim (λ (e : r ≡ Space). rw e refl)
      (λ (e : (r ≡ TooShort (cells one)) × ((length first < cells one) ⊎ (length second < cells one))). rw e.0 refl)
      why)
  answers_with (Emptied r) (room, is) each =
      let n : ℕ = (refusal_numbers r).number in
      rw (as-refused r)
      (among_more (eqb n 0) _ (among_more (eqb n 4) _ (among_more (eqb n 11) _ (among_more (eqb n own) (among n of_pair) is))))
  answers_with (Ready f s) room each = (each f s refl).answers

  -- a front that is all 0
  zero_front : (front table : List ℕ) → front ≡ replicate (cells one) 0 → (c : ℕ) → c < cells one → get_or (front ++ drop (cells one) table) c 0 ≡ 0
  zero_front front table e c h =
      rw e (get_or-append (replicate (cells one) 0) (drop (cells one) table) 0 c (omega (arith, length-replicate {A = ℕ} (cells one) 0)) ∙ get_or-replicate (cells one) c 0 0 h)

  after : (o : Opening) → Opens one two (length first) (length second) o → ((f s : List ℕ) → o ≡ Ready f s → Own (ready f s))
      → TablesAfter one first second (first_after (cells one) (ended o) first) (second_after (cells one) (ended o) second) (numbers (answer_of (ended o))).number
      (stands (numbers (answer_of (ended o))))
  after (Untouched r) why each = record {
    long = refl;
    long_other = refl;
    past = λ c h. refl;
    past_other = λ c h. refl;
    untouched = λ h. (refl, refl);
    emptied = λ h not_4 room other stand c k.
        absurd (⊎_elim (λ (e : r ≡ Space). not_4 (ap (λ (n : Numbers). n.number) (as-refused r) ∙ ap (λ (q : Refusal). (refusal_numbers q).number) e))
        (λ (e : (r ≡ TooShort (cells one)) × ((length first < cells one) ⊎ (length second < cells one))).
        ⊎_elim (λ (l : length first < cells one). omega arith) (λ (l : length second < cells one). omega arith) e.1)
        why);
  }
  after (Emptied r) (room, is) each =
      let size = length-replicate {A = ℕ} (cells one) 0 in
      let zeros : List ℕ = replicate (cells one) 0 in
      record {
        long = front_long one first zeros size room.0;
        long_other = front_long one second zeros size room.1;
        past = front_past one first zeros size room.0;
        past_other = front_past one second zeros size room.1;
        untouched = λ h.
            absurd (⊎_elim
            (λ (e : (numbers (refused r)).number ≡ 4). not_among (refusal_numbers r).number 4 of_pair is refl (sym (ap (λ (n : Numbers). n.number) (as-refused r)) ∙ e))
            (⊎_elim (λ (l : length first < cells one). omega (arith, room.0)) (λ (l : length second < cells one). omega (arith, room.1)))
            h);
        emptied = λ h not_4 long other stand c k. (zero_front zeros first refl c k, zero_front zeros second refl c k);
      }
  after (Ready f s) room each =
      let w = each f s refl in
      record {
        long = front_long one first (ready f s).first w.size room.0;
        long_other = front_long one second (ready f s).second w.size_other room.1;
        past = front_past one first (ready f s).first w.size room.0;
        past_other = front_past one second (ready f s).second w.size_other room.1;
        untouched = λ h.
            absurd (⊎_elim w.not_4
            (⊎_elim (λ (l : length first < cells one). omega (arith, room.0)) (λ (l : length second < cells one). omega (arith, room.1)))
            h);
        emptied = λ h not_4 long other stand c k.
            let e = w.empties h stand in
            (zero_front (ready f s).first first e.0 c k, zero_front (ready f s).second second e.1 c k);
      }

-- a refusal that is neither number
neither_number : {X : Type 0} (n : ℕ) → (n ≡ 0 → ⊥) → (n ≡ 21 → ⊥) → (n ≡ 0) ⊎ ((n ≡ 21) × X) → ⊥
neither_number {X} n not-0 not-21 h = ⊎_elim not-0 (λ (z : (n ≡ 21) × X). not-21 z.0) h

-- 21 for the first wrong cell: the tables are then as the copies left them
abbrev pub EndsWrong : Numbers → Type 0
EndsWrong n = (n.number ≡ 21) × (n.a ≡ 0)

-- both cards approved, with these owners
pub record BothOwned (one two : Card) (first second owners others : List ℕ) : Type 0 where
  pub count : ℕ
  pub count_other : ℕ
  pub comes : ComesTo one (length first) (Passed owners count)
  pub comes_other : ComesTo two (length second) (Passed others count_other)

module _ (one two : Card) (first second : List ℕ) (j k : Judgement) (h : ComesTo one (length first) j) (g : ComesTo two (length second) k) where
  abbrev start : Opening
  start = opening one two (length first) (length second) j k

  begins : Opens one two (length first) (length second) start
  begins = opens one two (length first) (length second) j k h g

  owned : (f s : List ℕ) → start ≡ Ready f s → BothOwned one two first second f s
  owned f s e =
      let p = parts one two (length first) (length second) j k f s h g e in
      record {
        count = p.3.count;
        count_other = p.3.count_other;
        comes = comes_one one two (length first) (length second) j k f s h g e;
        comes_other = comes_two one two (length first) (length second) j k f s h g e;
      }

  module _ (f s : List ℕ) (e : start ≡ Ready f s) where
    long_one : length f ≡ cells one
    long_one = first_long one two (length first) (length second) j k f s h g e

    long_two : length s ≡ cells one
    long_two = second_long one two (length first) (length second) j k f s h g e

  -- a plan that is checked
  module _ (plan : List ℕ) where
    abbrev OwnCheck : CellsHeld (Result ⊤ Refusal) → Type 0
    OwnCheck held = Own one two first second Err (plan_checked (cells one) plan) checked_numbers (λ r. refl) EndsWrong 21 held

    own_check : (f s : List ℕ) → start ≡ Ready f s → OwnCheck (plan_checked (cells one) plan f s)
    own_check f s e = split (first_outside (cells one) plan) (first_wrong (carried plan f) s)
      where
        kept_long : length (carried plan f) ≡ cells one
        kept_long = carried_length plan f ∙ long_one f s e

        split : (n w : ℕ) → OwnCheck (checked_by (cells one) (carried plan f) s n w)
        split (suc n) w = record {
          size = length-replicate {A = ℕ} (cells one) 0;
          size_other = length-replicate {A = ℕ} (cells one) 0;
          answers = refl;
          not_4 = λ e. omega arith;
          empties = λ h stand. (refl, refl);
        }
        split zero (suc w) = record {
          size = kept_long;
          size_other = long_two f s e;
          answers = refl;
          not_4 = λ e. omega arith;
          empties = λ h stand. absurd (stand (refl, refl));
        }
        split zero zero = record {
          size = kept_long;
          size_other = long_two f s e;
          answers = refl;
          not_4 = λ e. omega arith;
          empties = λ h stand. absurd (omega arith);
        }

  -- a plan that is written
  module _ (memory : List ℕ) where
    abbrev OwnPlan : CellsHeld (Result ℕ Refusal) → Type 0
    OwnPlan held = Own one two first second Err (plan_written (cells one) (length memory)) planning_numbers (λ r. refl) (λ n. ⊥) 23 held

    own_plan : (f s : List ℕ) → start ≡ Ready f s → OwnPlan (plan_written (cells one) (length memory) f s)
    own_plan f s e = split (first_shared f s)
      where
        none : OwnPlan (emptying (cells one) (Err (TooShort (2 * occupied s))))
        none = record {
          size = length-replicate {A = ℕ} (cells one) 0;
          size_other = length-replicate {A = ℕ} (cells one) 0;
          answers = refl;
          not_4 = λ e. omega arith;
          empties = λ h stand. (refl, refl);
        }

        all : OwnPlan (record { answer = Ok (2 * occupied s); first = f; second = s })
        all = record {
          size = long_one f s e;
          size_other = long_two f s e;
          answers = refl;
          not_4 = λ e. omega arith;
          empties = λ h stand. absurd (omega arith);
        }

        split : (n : ℕ) → OwnPlan (written_by (cells one) (length memory) f s n)
        split (suc n) = record {
          size = length-replicate {A = ℕ} (cells one) 0;
          size_other = length-replicate {A = ℕ} (cells one) 0;
          answers = refl;
          not_4 = λ e. omega arith;
          empties = λ h stand. (refl, refl);
        }
        split zero = either OwnPlan (ltb (length memory) (2 * occupied s)) none all

-- a plan that is checked, by how the two cards open
module _ (one two : Card) (first second plan : List ℕ) where
  abbrev checks : Opening → Ending (Result ⊤ Refusal)
  checks o = ending_of (cells one) Err (plan_checked (cells one) plan) o

  -- where the copies were run, both cards were ready
  ran : (o : Opening) → Opens one two (length first) (length second) o
      → ((checked_numbers (answer_of (checks o))).number ≡ 0) ⊎ EndsWrong (checked_numbers (answer_of (checks o)))
      → (l : List ℕ)
      × (r : List ℕ)
      × (o ≡ Ready l r)
      × (first_after (cells one) (checks o) first ≡ carried plan l ++ drop (cells one) first)
      × (second_after (cells one) (checks o) second ≡ r ++ drop (cells one) second)
  ran (Untouched r) why h =
      absurd (⊎_elim (λ (e : r ≡ Space). neither_number 4 (λ z. omega arith) (λ z. omega arith) (rw e at h))
      (λ (e : (r ≡ TooShort (cells one)) × ((length first < cells one) ⊎ (length second < cells one))).
      neither_number 11 (λ z. omega arith) (λ z. omega arith) (rw e.0 at h))
      why)
  ran (Emptied r) (room, is) h =
      let n : ℕ = (refusal_numbers r).number in absurd (neither_number n (not_among n 0 of_pair is refl) (not_among n 21 of_pair is refl) h)
  ran (Ready l r) room h = split (first_outside (cells one) plan) (first_wrong (carried plan l) r) h
    where
      split : (n w : ℕ) →
          let e : Ending (Result ⊤ Refusal) = Left (checked_by (cells one) (carried plan l) r n w) in
          ((checked_numbers (answer_of e)).number ≡ 0) ⊎ EndsWrong (checked_numbers (answer_of e))
          → (x : List ℕ)
          × (y : List ℕ)
          × (Ready l r ≡ Ready x y)
          × (first_after (cells one) e first ≡ carried plan x ++ drop (cells one) first)
          × (second_after (cells one) e second ≡ y ++ drop (cells one) second)
      split (suc n) w h = absurd (⊎_elim (λ (z : 21 ≡ 0). omega arith) (λ (z : (21 ≡ 21) × (suc n ≡ 0)). omega (arith, z.1)) h)
      split zero (suc w) h = (l, r, refl, refl, refl)
      split zero zero h = (l, r, refl, refl, refl)

  -- and of its refusals 11 is that of a table which is shorter than the cells
  too_short : (o : Opening) → Opens one two (length first) (length second) o → (checked_numbers (answer_of (checks o))).number ≡ 11
      → (length first < cells one) ⊎ (length second < cells one)
  too_short (Untouched r) why h =
      ⊎_elim (λ (e : r ≡ Space). let four : ◌≡◌ {A = ℕ} 4 11 = rw e at h in absurd (omega arith))
      (λ (e : (r ≡ TooShort (cells one)) × ((length first < cells one) ⊎ (length second < cells one))). e.1)
      why
  too_short (Emptied r) (room, is) h = absurd (not_among (refusal_numbers r).number 11 of_pair is refl h)
  too_short (Ready l r) room h = split (first_outside (cells one) plan) (first_wrong (carried plan l) r) h
    where
      split : (n w : ℕ) → (checked_numbers (checked_by (cells one) (carried plan l) r n w).answer).number ≡ 11
          → (length first < cells one) ⊎ (length second < cells one)
      split (suc n) w h = absurd (omega arith)
      split zero (suc w) h = absurd (omega arith)
      split zero zero h = absurd (omega arith)

module _ (one two : Card) (plan first second f s : List ℕ) (a : Result ⊤ Refusal) (p : CheckPromise one two plan first second f s a) where
  -- checking a plan answers 0, 1 to 9, 11, 17 or 21
  pub check_answers : among (checked_numbers a).number (0 ∷ 4 ∷ 11 ∷ 21 ∷ of_pair) ≡ true
  check_answers =
      rw (p.answers, p.follows)
      (answers_with one two first second Err (plan_checked (cells one) plan) checked_numbers (λ r. refl) EndsWrong 21 _
      (begins one two first second p.judgement p.other p.comes p.comes_other)
      (own_check one two first second p.judgement p.other p.comes p.comes_other plan))

  -- 11 comes only where one of the two lent tables is shorter than the cells
  pub check_short : (checked_numbers a).number ≡ 11 → (length first < cells one) ⊎ (length second < cells one)
  check_short h =
      too_short one two first second plan (opening one two (length first) (length second) p.judgement p.other)
      (begins one two first second p.judgement p.other p.comes p.comes_other)
      (sym (ap (λ (b : Result ⊤ Refusal). (checked_numbers b).number) (p.answers ∙ ap answer_of p.follows)) ∙ h)

  -- and it leaves this in the two tables
  pub check_leaves : TablesAfter one first second f s (checked_numbers a).number (EndsWrong (checked_numbers a))
  check_leaves =
      rw (p.answers, p.leaves, p.leaves_other, p.follows)
      (after one two first second Err (plan_checked (cells one) plan) checked_numbers (λ r. refl) EndsWrong 21 _
      (begins one two first second p.judgement p.other p.comes p.comes_other)
      (own_check one two first second p.judgement p.other p.comes p.comes_other plan))

  -- at 0, and at 21 for a wrong cell, the first table holds what the copies left of the first card's owners, and the second the second card's
  pub check_holds : ((checked_numbers a).number ≡ 0) ⊎ EndsWrong (checked_numbers a)
      → (owners : List ℕ)
      × (others : List ℕ)
      × BothOwned one two first second owners others
      × (take (cells one) f ≡ carried plan owners)
      × (take (cells one) s ≡ others)
  check_holds h =
      let j = p.judgement in
      let k = p.other in
      let o : Opening = opening one two (length first) (length second) j k in
      let told : a ≡ answer_of (ending_of (cells one) Err (plan_checked (cells one) plan) o) = p.answers ∙ ap answer_of p.follows in
      let r = ran one two first second plan o (begins one two first second j k p.comes p.comes_other) (rw told at h) in
      let is_f : f ≡ carried plan r.0 ++ drop (cells one) first = p.leaves ∙ ap (λ (e : Ending (Result ⊤ Refusal)). first_after (cells one) e first) p.follows ∙ r.3 in
      let is-s : s ≡ r.1 ++ drop (cells one) second = p.leaves_other ∙ ap (λ (e : Ending (Result ⊤ Refusal)). second_after (cells one) e second) p.follows ∙ r.4 in (
        r.0,
        r.1,
        owned one two first second j k p.comes p.comes_other r.0 r.1 r.2,
        ap (take (cells one)) is_f
            ∙ take_at (carried plan r.0) (drop (cells one) first) (cells one)
            (carried_length plan r.0 ∙ long_one one two first second j k p.comes p.comes_other r.0 r.1 r.2),
        ap (take (cells one)) is-s
            ∙ take_at r.1 (drop (cells one) second) (cells one) (long_two one two first second j k p.comes p.comes_other r.0 r.1 r.2),
      )

module _ (one two : Card) (memory first second m f s : List ℕ) (a : Result ℕ Refusal) (p : PlanPromise one two memory first second m f s a) where
  -- writing a plan answers 0, 1 to 9, 11, 17 or 23
  pub plan_answers : among (planning_numbers a).number (0 ∷ 4 ∷ 11 ∷ 23 ∷ of_pair) ≡ true
  plan_answers =
      let q = p.pair in
      rw (q.answers, q.follows)
      (answers_with one two first second Err (plan_written (cells one) (length memory)) planning_numbers (λ r. refl) (λ n. ⊥) 23 _
      (begins one two first second q.judgement q.other q.comes q.comes_other)
      (own_plan one two first second q.judgement q.other q.comes q.comes_other memory))

  -- and leaves this in the two tables
  pub plan_leaves : TablesAfter one first second f s (planning_numbers a).number ⊥
  plan_leaves =
      let q = p.pair in
      rw (q.answers, q.leaves, q.leaves_other, q.follows)
      (after one two first second Err (plan_written (cells one) (length memory)) planning_numbers (λ r. refl) (λ n. ⊥) 23 _
      (begins one two first second q.judgement q.other q.comes q.comes_other)
      (own_plan one two first second q.judgement q.other q.comes q.comes_other memory))

  -- every refusal leaves the plan's memory untouched
  pub plan_untouched : 0 < (planning_numbers a).number → m ≡ memory
  plan_untouched h = p.writes ∙ split p.pair.ending (rw p.pair.answers at h)
    where
      kept : (b : Result ℕ Refusal) (plan : List ℕ) → 0 < (planning_numbers b).number → with_plan b plan memory ≡ memory
      kept (Ok n) plan h = absurd (omega arith)
      kept (Err r) plan h = refl

      split : (e : Ending (Result ℕ Refusal)) → 0 < (planning_numbers (answer_of e)).number → memory_after e memory ≡ memory
      split (Kept b) h = refl
      split (Left held) h = kept held.answer (planned held.first held.second) h

  -- at 0 the tables hold the owners of the two cards, and the memory begins with the planner's plan, of so many numbers; later ones stay
  pub plan_holds : (n : ℕ) → a ≡ Ok n
      → (owners : List ℕ)
      × (others : List ℕ)
      × BothOwned one two first second owners others
      × (take (cells one) f ≡ owners)
      × (take (cells one) s ≡ others)
      × (n ≡ 2 * occupied others)
      × (m ≡ planned owners others ++ drop n memory)
  plan_holds n is =
      let q = p.pair in
      let j = q.judgement in
      let k = q.other in
      let o : Opening = opening one two (length first) (length second) j k in
      let w = wrote (cells one) (length memory) n memory o (sym is ∙ q.answers ∙ ap answer_of q.follows) in
      let l : List ℕ = w.first in
      let r : List ℕ = w.second in
      let ends = q.follows ∙ w.ends in (
        l,
        r,
        owned one two first second j k q.comes q.comes_other l r w.ready,
        ap (take (cells one)) (q.leaves ∙ ap (λ (e : Ending (Result ℕ Refusal)). first_after (cells one) e first) ends)
            ∙ take_at l (drop (cells one) first) (cells one) (long_one one two first second j k q.comes q.comes_other l r w.ready),
        ap (take (cells one)) (q.leaves_other ∙ ap (λ (e : Ending (Result ℕ Refusal)). second_after (cells one) e second) ends)
            ∙ take_at r (drop (cells one) second) (cells one) (long_two one two first second j k q.comes q.comes_other l r w.ready),
        w.numbers,
        p.writes ∙ ap (λ (e : Ending (Result ℕ Refusal)). memory_after e memory) q.follows ∙ w.memory_is,
      )
