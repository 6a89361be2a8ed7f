-- A carrier's plan checked, and a plain plan written: how each question ends, its answer and what it leaves in the two tables and in the plan's memory.
use Rattle.std.specs.Prelude.{◌≡◌, cond, List, ◌++◌, ℕ, zero, suc, ◌*◌, ltb, length, take, drop, replicate, Result, ⊤, Err, Ok}
use Rattle.judgement.specs.declared.Approved.{Approved}
use Rattle.answers.specs.Refusals.{answer, refusal_numbers, numbers_of, just_zero, one_detail, no_refusal}
use Rattle.answers.specs.declared.Numbers.{Numbers}
use Rattle.answers.specs.declared.Refusal.{Refusal}
use Rattle.answers.specs.declared.Refusal.TheVariants.{TooShort, Plan, Overlap}
use Rattle.card.specs.Card.{cells}
use Rattle.card.specs.declared.Card.{Card}
use Rattle.claims.specs.Claims.{occupied}
use Rattle.judgement.specs.Judgement.{Judgement, ComesTo}
use Rattle.judgement.specs.Plain.{VerdictSays}
use Rattle.plans.specs.Plans.{carried, first_outside, first_wrong, first_shared, planned}
use Rattle.plans_judged.specs.Pair.{Opening, Untouched, Emptied, Ready, after_verdicts, opening_of, opening}

-- an answer, and what the cells of the two tables then hold
pub record CellsHeld (A : Type 0) : Type 0 where
  pub answer : A
  pub first : List ℕ
  pub second : List ℕ

-- an answer with the cells of both tables emptied
abbrev pub emptying : {A : Type 0} → ℕ → A → CellsHeld A
emptying size answer = record { answer = answer; first = replicate size 0; second = replicate size 0 }

-- how a question ends: with nothing touched, or with the cells of both tables so
pub data Ending (A : Type 0) : Type 0 where
  Kept : (answer : A) → Ending A
  Left : (held : CellsHeld A) → Ending A

abbrev pub answer_of : {A : Type 0} → Ending A → A
answer_of (Kept answer) = answer
answer_of (Left held) = held.answer

-- the two tables after it: entries past the cells stay
abbrev pub first_after : {A : Type 0} → ℕ → Ending A → List ℕ → List ℕ
first_after size (Kept answer) table = table
first_after size (Left held) table = held.first ++ drop size table

abbrev pub second_after : {A : Type 0} → ℕ → Ending A → List ℕ → List ℕ
second_after size (Kept answer) table = table
second_after size (Left held) table = held.second ++ drop size table

-- a refusal of the two cards is the question's own; where both are ready it goes by their owners
abbrev pub ending_of : {A : Type 0} → ℕ → (Refusal → A) → (List ℕ → List ℕ → CellsHeld A) → Opening → Ending A
ending_of size refused ready (Untouched refusal) = Kept (refused refusal)
ending_of size refused ready (Emptied refusal) = Left (emptying size (refused refusal))
ending_of size refused ready (Ready first second) = Left (ready first second)

-- the promise of a question on two cards: each card's own verdict and the table that it would leave, how the question then ends, and the answer and the
-- tables that follow from it
pub record PairSays {A : Type 0} (one two : Card) (refused : Refusal → A) (ready : List ℕ → List ℕ → CellsHeld A)
    (first second first-after second-after : List ℕ) (answer : A) : Type 0 where
  pub verdict : Result Approved Refusal
  pub table : List ℕ
  pub says : VerdictSays one first table verdict
  pub verdict_other : Result Approved Refusal
  pub table_other : List ℕ
  pub says_other : VerdictSays two second table_other verdict_other
  pub ending : Ending A
  pub follows : ending ≡ ending_of (cells one) refused ready (opening_of one two (length first) (length second) (after_verdicts one two verdict verdict_other (take (cells one) table) (take (cells two) table_other)))
  pub answers : answer ≡ answer_of ending
  pub leaves : first-after ≡ first_after (cells one) ending first
  pub leaves_other : second-after ≡ second_after (cells one) ending second

-- the same by what each card comes to, for the crates above
pub record PairPromise {A : Type 0} (one two : Card) (refused : Refusal → A) (ready : List ℕ → List ℕ → CellsHeld A)
    (first second first-after second-after : List ℕ) (answer : A) : Type 0 where
  pub judgement : Judgement
  pub other : Judgement
  pub comes : ComesTo one (length first) judgement
  pub comes_other : ComesTo two (length second) other
  pub ending : Ending A
  pub follows : ending ≡ ending_of (cells one) refused ready (opening one two (length first) (length second) judgement other)
  pub answers : answer ≡ answer_of ending
  pub leaves : first-after ≡ first_after (cells one) ending first
  pub leaves_other : second-after ≡ second_after (cells one) ending second

-- a plan between two tables of owners: all its copies are judged for being outside before any is run; then the first wrong cell is looked for
abbrev pub checked_by : ℕ → List ℕ → List ℕ → ℕ → ℕ → CellsHeld (Result ⊤ Refusal)
checked_by size held second (suc copy) wrong = emptying size (Err (Plan (suc copy) (record { 0 = 0 })))
checked_by size held second zero (suc cell) =
    record { answer = Err (Plan 0 (record { 0 = cell })); first = held; second = second }
checked_by size held second zero zero = record { answer = no_refusal; first = held; second = second }

abbrev pub plan_checked : ℕ → List ℕ → List ℕ → List ℕ → CellsHeld (Result ⊤ Refusal)
plan_checked size plan first second =
    checked_by size (carried plan first) second (first_outside size plan) (first_wrong (carried plan first) second)

-- the promise of checking a plan
abbrev pub CheckSays : Card → Card → (plan first second first-after second-after : List ℕ) → Result ⊤ Refusal → Type 0
CheckSays one two plan = PairSays one two Err (plan_checked (cells one) plan)

abbrev pub CheckPromise : Card → Card → (plan first second first-after second-after : List ℕ) → Result ⊤ Refusal → Type 0
CheckPromise one two plan = PairPromise one two Err (plan_checked (cells one) plan)

-- a plan written between two tables of owners, in memory of so many numbers: 23, then 11
abbrev pub written_by : ℕ → ℕ → List ℕ → List ℕ → ℕ → CellsHeld (Result ℕ Refusal)
written_by size room first second (suc cell) = emptying size (Err (Overlap (record { 0 = cell })))
written_by size room first second zero =
    cond (ltb room (2 * occupied second)) (emptying size (Err (TooShort (2 * occupied second))))
    (record { answer = Ok (2 * occupied second); first = first; second = second })

abbrev pub plan_written : ℕ → ℕ → List ℕ → List ℕ → CellsHeld (Result ℕ Refusal)
plan_written size room first second = written_by size room first second (first_shared first second)

-- the plan's memory: it begins with what is written, and later numbers stay; every refusal leaves it untouched
abbrev pub with_plan : Result ℕ Refusal → List ℕ → List ℕ → List ℕ
with_plan (Ok numbers) plan memory = plan ++ drop numbers memory
with_plan (Err refusal) plan memory = memory

abbrev pub memory_in : CellsHeld (Result ℕ Refusal) → List ℕ → List ℕ
memory_in held memory = with_plan held.answer (planned held.first held.second) memory

abbrev pub memory_after : Ending (Result ℕ Refusal) → List ℕ → List ℕ
memory_after (Kept answer) memory = memory
memory_after (Left held) memory = memory_in held memory

-- the promise of writing a plan
pub record PlanSays (one two : Card) (memory first second memory-after first-after second-after : List ℕ) (answer : Result ℕ Refusal) : Type 0 where
  pub pair : PairSays one two Err (plan_written (cells one) (length memory)) first second first-after second-after answer
  pub writes : memory-after ≡ memory_after pair.ending memory

pub record PlanPromise (one two : Card) (memory first second memory-after first-after second-after : List ℕ) (answer : Result ℕ Refusal) : Type 0 where
  pub pair : PairPromise one two Err (plan_written (cells one) (length memory)) first second first-after second-after answer
  pub writes : memory-after ≡ memory_after pair.ending memory

abbrev pub checked_numbers : Result ⊤ Refusal → Numbers
checked_numbers = numbers_of just_zero

-- at number 0 the numbers written
abbrev pub planning_numbers : Result ℕ Refusal → Numbers
planning_numbers = numbers_of one_detail
