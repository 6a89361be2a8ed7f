-- The axes from here to the one before m are weighed into the sum, and the weight is the product of their lengths and that of m.
use lib.Seq.{slice}
use Rattle.copies_runs.proofs.Weighing.{Weighing}
use Rattle.copies_runs.proofs.weigh.Given as goal

abbrev pub invariant-loop-axis : goal.invariant-loop-axis
invariant-loop-axis l = Weighing (slice 32 40 l.numbers) l.sums l.axis l.weight l.sum
