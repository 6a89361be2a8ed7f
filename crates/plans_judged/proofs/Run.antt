-- A run of either question is what its promise allows: the judgements that it takes are the ones that the cards come to.
use Rattle.std.specs.Prelude.{Result, ⊤}
use mathlib.Core.Path.{◌≡◌, refl, sym, ap, ◌∙◌}
use mathlib.Core.List.{List}
use Prim.Native.Nat.{ℕ}
use lib.ListN.{length}
use Rattle.answers.specs.declared.Refusal.{Refusal}
use Rattle.card.specs.Card.{cells}
use Rattle.card.specs.declared.Card.{Card}
use Rattle.judgement.specs.Run.{judge}
use Rattle.judgement.proofs.Run.{judge_comes}
use Rattle.plans_judged.specs.Endings.{CellsHeld, Ending, answer_of, first_after, second_after, ending_of, PairPromise, plan_checked, CheckPromise, plan_written, memory_after, PlanPromise}
use Rattle.plans_judged.specs.Run.{open_run, check_run, plan_run}
use Rattle.plans_judged.proofs.Theorems.{check_settled, plan_settled}

module _ (one two : Card) (first second : List ℕ) where
  by_run : {A : Type 0} (refused : Refusal → A) (ready : List ℕ → List ℕ → CellsHeld A) →
      let run = ending_of (cells one) refused ready (open_run one two (length first) (length second)) in
      PairPromise one two refused ready first second (first_after (cells one) run first) (second_after (cells one) run second) (answer_of run)
  by_run refused ready = record {
    judgement = judge one (length first);
    other = judge two (length second);
    comes = judge_comes one (length first);
    comes_other = judge_comes two (length second);
    ending = ending_of (cells one) refused ready (open_run one two (length first) (length second));
    follows = refl;
    answers = refl;
    leaves = refl;
    leaves_other = refl;
  }

  -- what is promised of a checked plan is the run's: the answer and both tables
  pub check_is_run : (plan f s : List ℕ) (a : Result ⊤ Refusal) → CheckPromise one two plan first second f s a →
      let run = check_run one two plan (length first) (length second) in
      (a ≡ answer_of run) × (f ≡ first_after (cells one) run first) × (s ≡ second_after (cells one) run second)
  check_is_run plan f s a p = check_settled one two first second plan f s _ _ a _ p (by_run _ (plan_checked (cells one) plan))

  -- and so is what is promised of a written one, with the plan's memory
  pub plan_is_run : (memory m f s : List ℕ) (a : Result ℕ Refusal) → PlanPromise one two memory first second m f s a →
      let run = plan_run one two (length memory) (length first) (length second) in
      (a ≡ answer_of run) × (m ≡ memory_after run memory) × (f ≡ first_after (cells one) run first) × (s ≡ second_after (cells one) run second)
  unfolding by_run
  plan_is_run memory m f s a p =
      plan_settled one two first second memory m f s _ _ _ a _ p (record { pair = by_run _ (plan_written (cells one) (length memory)); writes = refl })
