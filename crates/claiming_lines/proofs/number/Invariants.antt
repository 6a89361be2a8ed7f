-- The stretch is numbered so far.
use Rattle.std.proofs.Common.{◌+◌}
use Rattle.claiming_lines.specs.Lines.{Lined}
use Rattle.claiming_lines.proofs.number.Given as goal

abbrev pub invariant-loop-k : goal.invariant-loop-k
invariant-loop-k l = Lined (λ j. l.from + j) (λ j. l.fn.first + j) l.k l.fn.table l.table
