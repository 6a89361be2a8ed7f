-- The copies asked lie inside.
use Rattle.std.proofs.Common.{◌<◌, ℕ, get_or}
use lib.IntN.{pos, ◌+ℤ◌}
use Rattle.outside_swizzled.specs.Doubt.{MLies}
use Rattle.outside_swizzled.proofs.m_leaves.Given as goal

abbrev pub invariant-loop-add : goal.invariant-loop-add
invariant-loop-add l = (j : ℕ) → j < l.add-index → MLies l.numbers (l.m +ℤ get_or l.adds j (pos 0))
