-- m is so many steps from where the run begins, and no element passed leaves.
use Rattle.std.proofs.Common.{◌≡◌, ◌<◌, ℕ}
use lib.IntN.{pos, ◌+ℤ◌, ◌*ℤ◌}
use Rattle.outside_swizzled.specs.Doubt.{MLeaves}
use Rattle.outside_swizzled.proofs.first_of_run.Given as goal

abbrev pub invariant-loop-c : goal.invariant-loop-c
invariant-loop-c l =
    record {
      m_there : l.m ≡ l.fn.base +ℤ pos l.c *ℤ l.step;
      none : (j : ℕ) → j < l.c → MLeaves l.numbers l.adds (l.fn.base +ℤ pos j *ℤ l.step) → ⊥;
    }
