-- The axes passed lie inside.
use Rattle.std.proofs.Common.{ℕ, List, ◌+◌, ◌<◌, get_or}
use lib.IntN.{ℤ, pos}
use lib.Signed.{◌≤ℤ◌, ◌<ℤ◌}
use Rattle.outside_ends.proofs.first_axis.Given as goal

-- one axis lies inside
abbrev pub On : List ℤ → List ℤ → List ℕ → ℕ → Type 0
On low high numbers axis = (pos 0 ≤ℤ get_or low axis (pos 0)) × (get_or high axis (pos 0) <ℤ pos (get_or numbers (32 + axis) 0))

abbrev pub invariant-loop-axis : goal.invariant-loop-axis
invariant-loop-axis l = (j : ℕ) → j < l.axis → On l.low l.high l.numbers j
