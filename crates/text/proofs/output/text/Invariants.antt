-- The place never goes back: each byte is put at it or left out.
use Rattle.std.proofs.Common.{◌≤◌}
use Rattle.text.proofs.output.text.Given as goal

abbrev pub invariant-loop-b : goal.invariant-loop-b
invariant-loop-b l = l.fn.at ≤ l.place
