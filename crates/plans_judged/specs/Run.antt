-- Both questions run, so that loads compute. Nothing here has to be believed: proofs/Run.antt shows that a run is what the promise allows.
use Rattle.std.specs.Prelude.{List, ℕ, Result, ⊤, Err}
use Rattle.answers.specs.declared.Refusal.{Refusal}
use Rattle.card.specs.Card.{cells}
use Rattle.card.specs.declared.Card.{Card}
use Rattle.judgement.specs.Run.{judge}
use Rattle.plans_judged.specs.Pair.{Opening, opening}
use Rattle.plans_judged.specs.Endings.{Ending, ending_of, plan_checked, plan_written}

-- two cards, in tables of so many entries
abbrev pub open_run : Card → Card → ℕ → ℕ → Opening
open_run one two room other = opening one two room other (judge one room) (judge two other)

abbrev pub check_run : Card → Card → List ℕ → ℕ → ℕ → Ending (Result ⊤ Refusal)
check_run one two plan room other = ending_of (cells one) Err (plan_checked (cells one) plan) (open_run one two room other)

-- in memory of so many numbers
abbrev pub plan_run : Card → Card → ℕ → ℕ → ℕ → Ending (Result ℕ Refusal)
plan_run one two memory room other = ending_of (cells one) Err (plan_written (cells one) memory) (open_run one two room other)
