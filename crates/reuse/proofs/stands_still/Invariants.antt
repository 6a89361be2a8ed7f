-- The iters from k on are passed.
use Rattle.reuse.specs.Clauses.{Element}
use Rattle.reuse.proofs.Walk.{Walked}
use Rattle.reuse.proofs.stands_still.Given as goal

abbrev pub invariant-loop-k : goal.invariant-loop-k
invariant-loop-k l = (e : Element l.numbers l.fn.flat.0) → Walked l.numbers l.fn.flat.0 e l.k l.rest
