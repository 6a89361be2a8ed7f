-- The test so far, with the test of the marks still to come, is the test of all.
use Rattle.card.specs.Packed.{marks_there, strides_there}
use Rattle.card.proofs.Marks.{Marked}
use Rattle.admission.proofs.marks_fit.Given as goal

abbrev pub invariant-loop-k : goal.invariant-loop-k
invariant-loop-k l = Marked (marks_there l.numbers l.strides) (strides_there l.numbers l.strides) l.k l.fit
