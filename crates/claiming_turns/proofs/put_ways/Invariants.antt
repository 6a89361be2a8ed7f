-- What one step of each iter so far adds is written.
use Rattle.claiming_turns.specs.Turns.{WaysTo}
use Rattle.claiming_turns.proofs.put_ways.Given as goal

abbrev pub invariant-loop-k : goal.invariant-loop-k
invariant-loop-k l = WaysTo l.numbers l.strides l.k l.levels l.ms
