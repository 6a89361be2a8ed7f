-- `typed_lengths::read` meets the promise: after so many bytes the reader stands where the machine does.
use Rattle.std.proofs.Common.{◌≡◌, take}
use Rattle.notation.specs.Machine.{runs}
use Rattle.typed_lengths.specs.Machine.{line_start, line_stepped}
use Rattle.typed_lengths.proofs.read.Given as goal

abbrev pub invariant-loop-b : goal.invariant-loop-b
invariant-loop-b l = l.r ≡ runs line_stepped line_start (take l.b-index l.line)
