-- What the words so far say of the columns before the next word.
use Rattle.mask_pattern.proofs.Runs.{side}
use Rattle.mask_pattern.proofs.Counted.{Counted}
use Rattle.mask_pattern.proofs.pattern_words.Given as goal

abbrev pub invariant-loop-p : goal.invariant-loop-p
invariant-loop-p l = Counted (side l.skip l.used l.size l.counts l.spans) l.n l.at l.zeroed l.first l.p
