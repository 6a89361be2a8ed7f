-- The key of the sums still to come, from the key so far, is the key of all.
use Rattle.std.proofs.Common.{◌≡◌, drop}
use Rattle.idle_search.specs.Clauses.{key_from}
use Rattle.idle_search.proofs.key_of.Given as goal

abbrev pub invariant-loop-sum : goal.invariant-loop-sum
invariant-loop-sum l = key_from l.key (drop l.sum-index l.sums) ≡ key_from 0 l.sums
