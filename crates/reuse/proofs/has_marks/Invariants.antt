-- No iter passed is marked.
use Rattle.std.proofs.Common.{◌≡◌, ℕ, ◌<◌, false}
use Rattle.card.specs.Packed.{mark_at}
use Rattle.reuse.proofs.has_marks.Given as goal

abbrev pub invariant-loop-k : goal.invariant-loop-k
invariant-loop-k l = (j : ℕ) → j < l.k → mark_at l.numbers j ≡ false
