-- The test so far, with the test of the numbers still to come, is the test of all.
use Rattle.card.specs.Lists.{within_z}
use Rattle.card.proofs.Lists.{Tested}
use Rattle.admission.proofs.all_between.Given as goal

abbrev pub invariant-loop-k : goal.invariant-loop-k
invariant-loop-k l = Tested (within_z l.least l.most) l.numbers l.from l.end l.k l.fit
