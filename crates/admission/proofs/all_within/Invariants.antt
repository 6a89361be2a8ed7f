-- The test so far, with the test of the numbers still to come, is the test of all.
use Rattle.card.specs.Lists.{within}
use Rattle.card.proofs.Lists.{Tested}
use Rattle.admission.proofs.all_within.Given as goal

abbrev pub invariant-loop-k : goal.invariant-loop-k
invariant-loop-k l = Tested (within l.least l.most) l.numbers l.from l.end l.k l.fit
