-- The entries before this one are put, each as the signed number that it is.
use Rattle.std.proofs.Common.{get_or, pos}
use Rattle.c_card.specs.Card.{signed64}
use Rattle.c_packed.specs.Clauses.{Put}
use Rattle.c_packed.proofs.put_signed.Given as goal

abbrev pub invariant-loop-k : goal.invariant-loop-k
invariant-loop-k l = Put (pos 0) l.column l.k (λ j. signed64 (get_or l.entries j 0)) l.fn.strides l.strides
