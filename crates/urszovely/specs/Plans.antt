-- Move plans for C: what is promised of a plan that is checked and of one that is written, in numbers. Two cards, each with its marks, and two tables.
use Rattle.std.specs.Prelude.{ℕ, ◌≡◌, List, Result, ⊤}
use Rattle.answers.specs.declared.Refusal.{Refusal}
use Rattle.plans_judged.specs.Endings.{CheckSays, PlanSays, checked_numbers, planning_numbers}
use Rattle.c_card.specs.Card.{card_from, four}

pub record AsCheck (one : List ℕ) (marks : ℕ) (two : List ℕ) (other-marks : ℕ) (plan first second first-after second-after answer : List ℕ) : Type 0 where
  pub checked : Result ⊤ Refusal
  pub allowed : CheckSays (card_from one marks) (card_from two other-marks) plan first second first-after second-after checked
  pub numbers : answer ≡ four (checked_numbers checked)

-- and the plan's memory
pub record AsPlan (one : List ℕ) (marks : ℕ) (two : List ℕ) (other-marks : ℕ) (memory first second memory-after first-after second-after answer : List ℕ) : Type 0 where
  pub written : Result ℕ Refusal
  pub allowed : PlanSays (card_from one marks) (card_from two other-marks) memory first second memory-after first-after second-after written
  pub numbers : answer ≡ four (planning_numbers written)
