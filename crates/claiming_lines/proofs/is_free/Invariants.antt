-- All cells passed are nobody's, if the answer so far is yes.
use Rattle.std.proofs.Common.{◌≡◌, ◌+◌, ◌<◌, ℕ, true, get_or}
use Rattle.claiming_lines.proofs.is_free.Given as goal

abbrev pub invariant-loop-k : goal.invariant-loop-k
invariant-loop-k l = l.free ≡ true → (j : ℕ) → j < l.k → get_or l.table (l.from + j) 0 ≡ 0
