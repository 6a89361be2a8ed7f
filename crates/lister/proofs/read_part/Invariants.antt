-- `lister::read_part` is safe and ends: what is left of the part falls with each read that brings a byte.
use Rattle.std.proofs.Common.{◌-◌, ◌≤◌}
use Rattle.lister.proofs.read_part.Given as goal

abbrev pub invariant-loop-done : goal.invariant-loop-done
invariant-loop-done g l = l.done ≤ 65536

abbrev pub decreases-loop-done : goal.decreases-loop-done
decreases-loop-done g l = 65536 - l.done
