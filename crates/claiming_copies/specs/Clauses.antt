-- What the functions that claim copy by copy promise each other: a cleared table, and what goes on from run to run. Nothing here has to be believed.
use Rattle.std.specs.Prelude.{◌≡◌, List, ℕ, ℤ, replicate}
use Rattle.std.proofs.Math.Seq.{slice}
use Rattle.swizzle.specs.declared.Swizzle.{Swizzle}
use Rattle.card.specs.Card.{elements, cells}
use Rattle.card.specs.Packed.{iters_of, swizzle_of, card_of, Admits}
use Rattle.rules.specs.Rules.{part}
use Rattle.rules_linear.specs.Runs.{run_length}
use Rattle.copies_runs.specs.Clauses.{Adds}
use Rattle.copies_runs.specs.declared.LevelAndM.{LevelAndM}
use Rattle.judgement.specs.Judgement.{AllInside}
use Rattle.claiming_turns.specs.Turns.{shard_iters, RunFrom, WaysTo}

-- a card whose copies all lie in the space, and a cleared table of exactly its cells
pub record Cleared (numbers : List ℕ) (strides : List ℤ) (count : ℕ) (table : List ℕ) : Type 0 where
  pub admits : Admits numbers strides
  pub all_elements : count ≡ elements (card_of numbers strides)
  pub inside : AllInside (card_of numbers strides)
  pub cleared : table ≡ replicate (cells (card_of numbers strides)) 0

-- what goes on from run to run: the swizzle, how long a run is and its step, how many iters are slower, and what one step of each adds
pub record Turning (numbers : List ℕ) (strides : List ℤ) (by : Swizzle) (long : ℕ) (step : LevelAndM) (from : ℕ) (levels ms : List ℤ) : Type 0 where
  pub swizzles : by ≡ swizzle_of numbers
  pub long_is : long ≡ run_length (shard_iters numbers strides)
  pub steps : Adds (slice 32 40 numbers) (part (iters_of numbers strides 0) 1) step
  pub slower : RunFrom (shard_iters numbers strides) from
  pub ways : WaysTo numbers strides from levels ms
