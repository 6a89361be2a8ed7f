-- The questions that the sheet asks, and the reply to each: by its definition, of a verdict, an owner and a plan by the run.
use Rattle.std.specs.Prelude.{List, [], ◌++◌, length, ℕ}
use Rattle.answers.specs.declared.Numbers.{Numbers}
use Rattle.swizzle.specs.Swizzle.{swizzle_answer, swizzle_numbers}
use Rattle.swizzle.specs.Mode.{mode_answer, mode_numbers}
use Rattle.banks_judged.specs.Bank.{bank_answer, bank_numbers}
use Rattle.fragment.specs.Fragment.{held_answer, held_numbers}
use Rattle.mma_kinds.specs.Mma.{mma_answer, mma_numbers}
use Rattle.descriptor.specs.Descriptor.{shift_limit, descriptor_answer, descriptor_numbers}
use Rattle.mask.specs.Mask.{mask_answer, mask_memory, mask_numbers}
use Rattle.descriptor.specs.declared.Fields.{Fields}
use Rattle.card.specs.Card.{cells}
use Rattle.card.specs.declared.Card.{Card}
use Rattle.placement_judged.specs.Placement.{placement_answer, placement_memory, placement_numbers}
use Rattle.placement_judged.specs.declared.Tuple.{Tuple}
use Rattle.stretch_judged.specs.Stretch.{stretch_answer, stretch_of, stretch_numbers}
use Rattle.judgement.specs.Verdict.{verdict_of, owner_of, verdict_numbers, owner_numbers}
use Rattle.judgement.specs.Run.{judge, owner_run}
use Rattle.plans_judged.specs.Endings.{answer_of, first_after, second_after, memory_after, checked_numbers, planning_numbers}
use Rattle.plans_judged.specs.Run.{check_run, plan_run}

pub data Question : Type 0 where
  -- M, B, S and the address
  swizzle : ℕ → ℕ → ℕ → ℕ → Question
  -- bits and mode
  mode : ℕ → ℕ → Question
  -- bits and the address
  bank : ℕ → ℕ → Question
  -- kind, lane and register
  fragment : ℕ → ℕ → ℕ → Question
  -- kind, warp, lane and register, of the further kinds
  mma : ℕ → ℕ → ℕ → ℕ → Question
  -- M and the fields
  descriptor : ℕ → Fields → Question
  -- M, N, the descriptor and the lent bytes
  mask : ℕ → ℕ → ℕ → List ℕ → Question
  -- the card, the shape, the coordinates and the lent entries
  place : Card → Tuple → Tuple → List ℕ → Question
  -- the card and the lent table
  verdict : Card → List ℕ → Question
  -- the card, eight coordinates and the lent table
  owner : Card → List ℕ → List ℕ → Question
  -- eight lengths, the axis, eight coordinates and the lent table; the values are the stretch
  stretch : List ℕ → ℕ → List ℕ → List ℕ → Question
  -- the two cards, the plan and the two lent tables; the values are the tables
  carry : Card → Card → List ℕ → List ℕ → List ℕ → Question
  -- the two cards, the plan's memory and the two lent tables; the values are the memory and the tables
  plan : Card → Card → List ℕ → List ℕ → List ℕ → Question

-- a number with its details, and the values left in the lent memory of a mask, a placement or a plan, or the stretch; a verdict and an owner have none
-- here: that the table they leave is the run's is part of the theorem that carries them to their promise
pub record Reply : Type 0 where
  pub numbers : Numbers
  pub values : List ℕ

abbrev pub reply : Numbers → List ℕ → Reply
reply n v = record { numbers = n; values = v }

unfoldable pub replied_to : Question → Reply
replied_to (swizzle M B S m) = reply (swizzle_numbers (swizzle_answer M B S m)) []
replied_to (mode bits n) = reply (mode_numbers (mode_answer bits n)) []
replied_to (bank bits address) = reply (bank_numbers (bank_answer bits address)) []
replied_to (fragment kind lane i) = reply (held_numbers (held_answer kind lane i)) []
replied_to (mma kind warp lane i) = reply (mma_numbers (mma_answer kind warp lane i)) []
replied_to (descriptor M fields) = reply (descriptor_numbers (descriptor_answer (shift_limit M) M fields)) []
replied_to (mask M N d lent) =
    let generated = mask_answer (shift_limit M) M N d (length lent) in
    reply (mask_numbers generated) (mask_memory generated M N d lent)
replied_to (place card shape coordinates lent) =
    reply (placement_numbers (placement_answer card shape coordinates (length lent))) (placement_memory card shape coordinates lent)
replied_to (verdict card table) = reply (verdict_numbers (verdict_of card (judge card (length table)))) []
replied_to (owner card coordinates table) =
    reply (owner_numbers (owner_of card coordinates (owner_run card coordinates (length table)) table)) []
replied_to (stretch lengths axis coordinates table) =
    let located = stretch_answer lengths axis coordinates (length table) in
    reply (stretch_numbers located) (stretch_of located table)
replied_to (carry one two moves first second) =
    let run = check_run one two moves (length first) (length second) in
    reply (checked_numbers (answer_of run)) (first_after (cells one) run first ++ second_after (cells one) run second)
replied_to (plan one two memory first second) =
    let run = plan_run one two (length memory) (length first) (length second) in
    reply (planning_numbers (answer_of run)) (memory_after run memory ++ (first_after (cells one) run first ++ second_after (cells one) run second))
