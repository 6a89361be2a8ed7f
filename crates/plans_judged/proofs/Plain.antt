-- The promises on two cards by their verdicts allow what those by their judgements allow: only an approved card's owners are looked at.
use Rattle.std.specs.Prelude.{Result, ⊤, Err}
use mathlib.Core.Path.{◌≡◌, refl, sym, ap, ◌∙◌}
use mathlib.Core.Bool.{cond, not, ◌||◌}
use mathlib.Core.Logic.{◌↔◌}
use mathlib.Core.List.{List}
use Prim.Native.Nat.{ℕ}
use lib.Dec.{eqb}
use lib.ListN.{length, take, drop}
use lib.Seq.{take_at}
use Rattle.judgement.specs.declared.Approved.{Approved}
use Rattle.answers.specs.declared.Refusal.{Refusal}
use Rattle.answers.specs.declared.Refusal.TheVariants.{Limits, Shape}
use Rattle.card.specs.Card.{elements, cells}
use Rattle.card.specs.declared.Card.{Card}
use Rattle.judgement.specs.Judgement.{Judgement, NotAdmitted, NoRoom, OutsideAt, Clashing, Passed, ComesTo}
use Rattle.judgement.specs.Verdict.{verdict_of, table_after}
use Rattle.judgement.proofs.Plain.{verdict_exactly}
use Rattle.plans_judged.specs.Pair.{marked, Opening, Emptied, Ready, owners_of, after_verdict, after_verdicts, opening_of, opening}
use Rattle.plans_judged.specs.Endings.{CellsHeld, Ending, ending_of, PairSays, PairPromise, plan_checked, CheckSays, CheckPromise, plan_written, PlanSays, PlanPromise}
use Rattle.plans_judged.proofs.Theorems.{check_settled, plan_settled}

-- the owners of an approved card are the first entries of the table that its verdict leaves
owners_left : (card : Card) (room : ℕ) (j : Judgement) (table : List ℕ) (goes : List ℕ → Opening) → ComesTo card room j
    → after_verdict (verdict_of card j) (goes (owners_of j)) ≡ after_verdict (verdict_of card j) (goes (take (cells card) (table_after card j table)))
owners_left card room (NotAdmitted refusal) table goes h = refl
owners_left card room NoRoom table goes h = refl
owners_left card room (OutsideAt flat axis) table goes h = refl
owners_left card room (Clashing x y cell) table goes h = refl
owners_left card room (Passed owners count) table goes h = ap goes (sym (take_at owners (drop (cells card) table) (cells card) h.2.size))

module _ {A : Type 0} (one two : Card) (refused : Refusal → A) (ready : List ℕ → List ℕ → CellsHeld A) (first second f s : List ℕ) (answer : A) where
  -- two approved cards, with what stands in their tables
  abbrev matched : List ℕ → List ℕ → Opening
  matched a b = cond (marked one || marked two) (Emptied Limits) (cond (not (eqb (elements one) (elements two))) (Emptied Shape) (Ready a b))

  -- how the question ends, by the verdicts and the tables that they leave
  abbrev end : Result Approved Refusal → Result Approved Refusal → List ℕ → List ℕ → Ending A
  end v w t u =
      ending_of (cells one) refused ready
      (opening_of one two (length first) (length second) (after_verdicts one two v w (take (cells one) t) (take (cells two) u)))

  -- it is how it ends by the judgements
  same_end : (j k : Judgement) → ComesTo one (length first) j → ComesTo two (length second) k
      → ending_of (cells one) refused ready (opening one two (length first) (length second) j k)
      ≡ end (verdict_of one j) (verdict_of two k) (table_after one j first) (table_after two k second)
  same_end j k h g =
      let v : (Result Approved Refusal) = verdict_of one j in
      let w : (Result Approved Refusal) = verdict_of two k in
      ap (λ (x : Opening). ending_of (cells one) refused ready (opening_of one two (length first) (length second) x))
      (owners_left one (length first) j first (λ (l : List ℕ). after_verdict w (matched l (owners_of k))) h
      ∙ ap (after_verdict v) (owners_left two (length second) k second (matched (take (cells one) (table_after one j first))) g))

  abbrev by_judgements : PairSays one two refused ready first second f s answer → PairPromise one two refused ready first second f s answer
  by_judgements p =
      let a = (verdict_exactly one first p.table p.verdict).0 p.says in
      let b = (verdict_exactly two second p.table_other p.verdict_other).0 p.says_other in
      let told : end p.verdict p.verdict_other p.table p.table_other
      ≡ end (verdict_of one a.judgement) (verdict_of two b.judgement) (table_after one a.judgement first) (table_after two b.judgement second) =
      λ i. end (a.answers i) (b.answers i) (a.leaves i) (b.leaves i) in
      record {
        judgement = a.judgement;
        other = b.judgement;
        comes = a.comes;
        comes_other = b.comes;
        ending = p.ending;
        follows = p.follows ∙ told ∙ sym (same_end a.judgement b.judgement a.comes b.comes);
        answers = p.answers;
        leaves = p.leaves;
        leaves_other = p.leaves_other;
      }

  abbrev by_verdicts : PairPromise one two refused ready first second f s answer → PairSays one two refused ready first second f s answer
  by_verdicts p = record {
    verdict = verdict_of one p.judgement;
    table = table_after one p.judgement first;
    says = (verdict_exactly one first (table_after one p.judgement first) (verdict_of one p.judgement)).1
        (record { judgement = p.judgement; comes = p.comes; answers = refl; leaves = refl });
    verdict_other = verdict_of two p.other;
    table_other = table_after two p.other second;
    says_other = (verdict_exactly two second (table_after two p.other second) (verdict_of two p.other)).1
        (record { judgement = p.other; comes = p.comes_other; answers = refl; leaves = refl });
    ending = p.ending;
    follows = p.follows ∙ same_end p.judgement p.other p.comes p.comes_other;
    answers = p.answers;
    leaves = p.leaves;
    leaves_other = p.leaves_other;
  }

module _ (one two : Card) (first second : List ℕ) where
  -- checking a plan
  pub check_exactly : (plan f s : List ℕ) (a : Result ⊤ Refusal) → CheckSays one two plan first second f s a ↔ CheckPromise one two plan first second f s a
  check_exactly plan f s a =
      let ready = plan_checked (cells one) plan in (by_judgements one two Err ready first second f s a, by_verdicts one two Err ready first second f s a)

  -- and writing one
  pub plan_exactly : (memory m f s : List ℕ) (a : Result ℕ Refusal) → PlanSays one two memory first second m f s a ↔ PlanPromise one two memory first second m f s a
  plan_exactly memory m f s a =
      let ready = plan_written (cells one) (length memory) in (
        λ p. record { pair = by_judgements one two Err ready first second f s a p.pair; writes = p.writes },
        λ p. record { pair = by_verdicts one two Err ready first second f s a p.pair; writes = p.writes },
      )

  -- two outcomes that these promises allow are equal
  pub check_says_settled : (plan f s f' s' : List ℕ) (a a' : Result ⊤ Refusal) → CheckSays one two plan first second f s a
      → CheckSays one two plan first second f' s' a' → (a ≡ a') × (f ≡ f') × (s ≡ s')
  check_says_settled plan f s f' s' a a' h k =
      check_settled one two first second plan f s f' s' a a' ((check_exactly plan f s a).0 h) ((check_exactly plan f' s' a').0 k)

  pub plan_says_settled : (memory m f s m' f' s' : List ℕ) (a a' : Result ℕ Refusal) → PlanSays one two memory first second m f s a
      → PlanSays one two memory first second m' f' s' a' → (a ≡ a') × (m ≡ m') × (f ≡ f') × (s ≡ s')
  plan_says_settled memory m f s m' f' s' a a' h k =
      plan_settled one two first second memory m f s m' f' s' a a' ((plan_exactly memory m f s a).0 h) ((plan_exactly memory m' f' s' a').0 k)
