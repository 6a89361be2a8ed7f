-- What each combination passed adds is in the two rows.
use Rattle.std.proofs.Common.{length}
use Rattle.card.specs.Packed.{card_of}
use Rattle.copies_runs.specs.Clauses.{CopiesTo}
use Rattle.copies_runs.proofs.put_copies.Given as goal

abbrev pub invariant-loop-combination : goal.invariant-loop-combination
invariant-loop-combination l = CopiesTo (card_of l.numbers l.strides) (length l.fn.levels) l.combination l.levels l.ms
