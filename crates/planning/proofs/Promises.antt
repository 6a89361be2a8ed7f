-- From tables of exactly the cells to the caller's tables: once two cards are opened, a question that ends in their cells, or that is refused with
-- them, keeps the promise of a question on two cards.
use Rattle.std.specs.Prelude.{Result, Err}
use mathlib.Core.Path.{◌≡◌, refl, sym, ap, ap₂, ◌∙◌}
use mathlib.Core.List.{List, ◌++◌}
use Prim.Native.Nat.{ℕ, ◌≤◌}
use native.Mathlib.Omega.{arith}
use lib.ListN.{length, take, drop, length-append}
use lib.Seq.{take_at, drop_at}
use Rattle.plans_second.specs.Clauses.{matching_with}
use Rattle.plans_second.specs.declared.Matching.{Matching}
use Rattle.laws.proofs.Rungs.{apart}
use Rattle.answers.specs.declared.Refusal.{Refusal}
use Rattle.card.specs.Card.{cells}
use Rattle.card.specs.declared.Card.{Card}
use Rattle.claims.specs.Claims.{occupied}
use Rattle.plans.specs.Plans.{Matched}
use Rattle.plans_judged.specs.Pair.{Opening, Untouched, Emptied, Ready, opening}
use Rattle.plans_judged.specs.Endings.{CellsHeld, Ending, Left, answer_of, first_after, second_after, ending_of, PairPromise, plan_written, memory_in, memory_after, PlanPromise}
use Rattle.plans_judged.proofs.Theorems.{first_long, second_long, matched}
use Rattle.plans_pair.specs.Clauses.{both_ready, OpenPromise}
use Rattle.plans_pair.proofs.Openings.{cells_told, occupied_told}
use Rattle.plans_cells.specs.Clauses.{Ends}

-- what two cards come to, as the pairing that is handed on
abbrev handed_on : ℕ → Opening → Ending (Result Matching Refusal)
handed_on cells o = ending_of cells Err (both_ready cells) o

-- where they match, both are ready
record Readied (cells : ℕ) (o : Opening) (n count : ℕ) : Type 0 where
  pub owners : List ℕ
  pub others : List ℕ
  pub is : o ≡ Ready owners others
  pub whole : n ≡ cells
  pub counted : count ≡ occupied others

readied : (cells : ℕ) (o : Opening) (n count : ℕ) → matching_with n count ≡ answer_of (handed_on cells o) → Readied cells o n count
readied cells (Untouched refusal) n count e = absurd (apart cc)
readied cells (Emptied refusal) n count e = absurd (apart cc)
readied cells (Ready first second) n count e = record { owners = first; others = second; is = refl; whole = ap cells_told e; counted = ap occupied_told e }

-- where they are refused, a question on them is refused alike, and leaves the same
record LeaveAlike {A : Type 0} (cells : ℕ) (one : Ending (Result Matching Refusal)) (two : Ending A) : Type 0 where
  pub first : (table : List ℕ) → first_after cells one table ≡ first_after cells two table
  pub second : (table : List ℕ) → second_after cells one table ≡ second_after cells two table

module _ {A : Type 0} (refused : Refusal → A) (ready : List ℕ → List ℕ → CellsHeld A) where
  turned_down : (cells : ℕ) (o : Opening) (r : Refusal) → Err r ≡ answer_of (handed_on cells o)
      → (refused r ≡ answer_of (ending_of cells refused ready o)) × LeaveAlike cells (handed_on cells o) (ending_of cells refused ready o)
  turned_down cells (Untouched refusal) r e =
      let is : r ≡ refusal = cc in
      (ap refused is, record { first = λ table. refl; second = λ table. refl })
  turned_down cells (Emptied refusal) r e =
      let is : r ≡ refusal = cc in
      (ap refused is, record { first = λ table. refl; second = λ table. refl })
  turned_down cells (Ready l m) r e = absurd (apart cc)

-- and no plan is written
no_plan : (cells room : ℕ) (memory : List ℕ) (o : Opening) (r : Refusal) → Err r ≡ answer_of (handed_on cells o)
    → memory ≡ memory_after (ending_of cells Err (plan_written cells room) o) memory
no_plan cells room memory (Untouched refusal) r e = refl
no_plan cells room memory (Emptied refusal) r e = refl
no_plan cells room memory (Ready l m) r e = absurd (apart cc)

module _ {one two : Card} {first second f s : List ℕ} {p : Result Matching Refusal} (q : OpenPromise one two first second f s p) where
  abbrev start : Opening
  start = opening one two (length first) (length second) q.judgement q.other

  answered : p ≡ answer_of (handed_on (cells one) start)
  answered = q.answers ∙ ap answer_of q.follows

  -- both cards are ready, in tables that begin with their owners
  pub record Begun (n count : ℕ) : Type 0 where
    pub owners : List ℕ
    pub others : List ℕ
    pub is : start ≡ Ready owners others
    pub whole : n ≡ cells one
    pub counted : count ≡ occupied others
    pub owners_long : length owners ≡ cells one
    pub others_long : length others ≡ cells one
    pub match : Matched owners others
    pub holds : f ≡ owners ++ drop (cells one) first
    pub holds_other : s ≡ others ++ drop (cells one) second

  pub begun : {n count : ℕ} → p ≡ matching_with n count → Begun n count
  begun {n} {count} e =
      let r = readied (cells one) start n count (sym e ∙ answered) in
      let ends : q.ending ≡ Left (both_ready (cells one) r.owners r.others) = q.follows ∙ ap (handed_on (cells one)) r.is in
      record {
        owners = r.owners;
        others = r.others;
        is = r.is;
        whole = r.whole;
        counted = r.counted;
        owners_long = first_long one two (length first) (length second) q.judgement q.other r.owners r.others q.comes q.comes_other r.is;
        others_long = second_long one two (length first) (length second) q.judgement q.other r.owners r.others q.comes q.comes_other r.is;
        match = matched one two (length first) (length second) q.judgement q.other r.owners r.others q.comes q.comes_other r.is;
        holds = q.leaves ∙ ap (λ (o : Ending (Result Matching Refusal)). first_after (cells one) o first) ends;
        holds_other = q.leaves_other ∙ ap (λ (o : Ending (Result Matching Refusal)). second_after (cells one) o second) ends;
      }

  module _ {n count : ℕ} (b : Begun n count) where
    pub take_first : take n f ≡ b.owners
    take_first = ap (take n) b.holds ∙ take_at b.owners (drop (cells one) first) n (b.owners_long ∙ sym b.whole)

    pub take_second : take n s ≡ b.others
    take_second = ap (take n) b.holds_other ∙ take_at b.others (drop (cells one) second) n (b.others_long ∙ sym b.whole)

    drop_first : drop n f ≡ drop (cells one) first
    drop_first = ap (drop n) b.holds ∙ drop_at b.owners (drop (cells one) first) n (b.owners_long ∙ sym b.whole)

    drop_second : drop n s ≡ drop (cells one) second
    drop_second = ap (drop n) b.holds_other ∙ drop_at b.others (drop (cells one) second) n (b.others_long ∙ sym b.whole)

    pub long_first : n ≤ length f
    long_first = omega (arith, ap length b.holds, length-append b.owners (drop (cells one) first), b.owners_long, b.whole)

    pub long_second : n ≤ length s
    long_second = omega (arith, ap length b.holds_other, length-append b.others (drop (cells one) second), b.others_long, b.whole)

    -- a question that ends in the cells by the owners of both
    pub out : {A : Type 0} (refused : Refusal → A) (ready : List ℕ → List ℕ → CellsHeld A) (made : ℕ → List ℕ → List ℕ → CellsHeld A) {a : A} {f' s' : List ℕ}
        → ((l r : List ℕ) → made (cells one) l r ≡ ready l r) → Ends (made (length (take n f)) (take n f) (take n s)) a f' s'
        → PairPromise one two refused ready first second (f' ++ drop n f) (s' ++ drop n s) a
    out {A} refused ready made {a} {f'} {s'} by ended =
        let same : made (length (take n f)) (take n f) (take n s) ≡ ready b.owners b.others =
        ap₂ (λ (l r : List ℕ). made (length l) l r) take_first take_second
        ∙ ap (λ (m : ℕ). made m b.owners b.others) b.owners_long
        ∙ by b.owners b.others in
        record {
          judgement = q.judgement;
          other = q.other;
          comes = q.comes;
          comes_other = q.comes_other;
          ending = Left (ready b.owners b.others);
          follows = ap (ending_of (cells one) refused ready) (sym b.is);
          answers = ended.0 ∙ ap (λ (h : CellsHeld A). h.answer) same;
          leaves = ap₂ (λ (l r : List ℕ). l ++ r) (ended.1 ∙ ap (λ (h : CellsHeld A). h.first) same) drop_first;
          leaves_other = ap₂ (λ (l r : List ℕ). l ++ r) (ended.2 ∙ ap (λ (h : CellsHeld A). h.second) same) drop_second;
        }

    -- the same of a plan that is written, with its memory
    pub written_out : (memory : List ℕ) {a : Result ℕ Refusal} {m f' s' : List ℕ}
        → Ends (plan_written (length (take n f)) (length memory) (take n f) (take n s)) a f' s'
        → m ≡ memory_in (plan_written (length (take n f)) (length memory) (take n f) (take n s)) memory
        → PlanPromise one two memory first second m (f' ++ drop n f) (s' ++ drop n s) a
    unfolding out
    written_out memory {a} {m} {f'} {s'} ended em =
        let same : plan_written (length (take n f)) (length memory) (take n f) (take n s) ≡ plan_written (cells one) (length memory) b.owners b.others =
        ap₂ (λ (l r : List ℕ). plan_written (length l) (length memory) l r) take_first take_second
        ∙ ap (λ (k : ℕ). plan_written k (length memory) b.owners b.others) b.owners_long in
        record {
          pair = out Err (plan_written (cells one) (length memory)) (λ (k : ℕ) (l r : List ℕ). plan_written k (length memory) l r) (λ l r. refl) ended;
          writes = em ∙ ap (λ (h : CellsHeld (Result ℕ Refusal)). memory_in h memory) same;
        }

  -- refused before
  pub refused_before : {A : Type 0} (refused : Refusal → A) (ready : List ℕ → List ℕ → CellsHeld A) {r : Refusal} → p ≡ Err r
      → PairPromise one two refused ready first second f s (refused r)
  refused_before {A} refused ready {r} e =
      let d = turned_down refused ready (cells one) start r (sym e ∙ answered) in
      record {
        judgement = q.judgement;
        other = q.other;
        comes = q.comes;
        comes_other = q.comes_other;
        ending = ending_of (cells one) refused ready start;
        follows = refl;
        answers = d.0;
        leaves = q.leaves ∙ ap (λ (o : Ending (Result Matching Refusal)). first_after (cells one) o first) q.follows ∙ d.1.first first;
        leaves_other = q.leaves_other ∙ ap (λ (o : Ending (Result Matching Refusal)). second_after (cells one) o second) q.follows ∙ d.1.second second;
      }

  pub not_planned : (memory : List ℕ) {r : Refusal} → p ≡ Err r → PlanPromise one two memory first second memory f s (Err r)
  unfolding refused_before
  not_planned memory {r} e =
      record {
        pair = refused_before Err (plan_written (cells one) (length memory)) e;
        writes = no_plan (cells one) (length memory) memory start r (sym e ∙ answered);
      }
