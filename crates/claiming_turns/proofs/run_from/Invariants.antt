-- The iters from k on have extent 1, so all of their elements are one.
use Rattle.std.proofs.Common.{◌≡◌, List, drop}
use lib.IntN.{ℤ}
use Rattle.rules_linear.specs.Runs.{run_length}
use Rattle.claiming_turns.specs.Turns.{shard_iters, size_from}
use Rattle.claiming_turns.proofs.run_from.Given as goal

abbrev pub invariant-loop-k : goal.invariant-loop-k
invariant-loop-k l = (strides : List ℤ) → (run_length (drop l.k (shard_iters l.numbers strides)) ≡ 1) × (size_from l.k (shard_iters l.numbers strides) ≡ 1)
