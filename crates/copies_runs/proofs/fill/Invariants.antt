-- The row is filled so far.
use Rattle.copies_runs.specs.Clauses.{FilledTo}
use Rattle.copies_runs.proofs.fill.Given as goal

abbrev pub invariant-loop-combination : goal.invariant-loop-combination
invariant-loop-combination l = FilledTo l.numbers l.level l.m l.levels l.ms l.fn.row l.row l.combination
