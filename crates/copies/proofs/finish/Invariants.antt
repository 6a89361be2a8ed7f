-- The coordinates so far are the sums as coordinates.
use Rattle.std.proofs.Common.{get_or}
use lib.IntN.{pos}
use Rattle.laws.proofs.Columns.{Filled}
use Rattle.rules.specs.Rules.{on_axis}
use Rattle.copies.proofs.finish.Given as goal

abbrev pub invariant-loop-axis : goal.invariant-loop-axis
invariant-loop-axis l = Filled 0 (λ c j. on_axis (get_or l.sums j (pos 0))) 1 l.axis l.coordinates
