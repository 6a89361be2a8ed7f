-- The keys of the combinations below b stand in their places, and none of them is the second of a pair.
use Rattle.card.specs.Packed.{iters_of}
use Rattle.idle.specs.Clauses.{NoneBefore}
use Rattle.idle_search.specs.Clauses.{Keyed}
use Rattle.idle_search.proofs.find_pair.Given as goal

abbrev pub invariant-loop-b : goal.invariant-loop-b
invariant-loop-b l = record { keyed : Keyed (iters_of l.numbers l.strides 1) l.b l.keys; none : NoneBefore (iters_of l.numbers l.strides 1) l.b }
