-- The marks before this one are put.
use Rattle.descriptor.specs.Descriptor.{yes}
use Rattle.card.specs.Card.{mark_number}
use Rattle.c_packed.specs.Clauses.{Put}
use Rattle.c_packed.proofs.put_marks.Given as goal

abbrev pub invariant-loop-k : goal.invariant-loop-k
invariant-loop-k l = Put 0 6 l.k (λ j. mark_number (yes j l.bits)) l.fn.numbers l.numbers
