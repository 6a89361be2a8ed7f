-- `reading_lists::read_extents` runs over the extents of a list and what stands before its strides: the invariant is the run up to the place where there is
-- room left, and where there is none the refusal of the comma before it.
use Rattle.std.proofs.Common.{◌-◌, ◌<◌, ◌≤◌, false, replicate}
use Rattle.card.specs.Card.{none}
use Rattle.reading_lists.specs.Lists.{ExtentRun, ExtentsFrom}
use Rattle.reading_lists.proofs.read_extents.Given as goal

abbrev pub invariant-loop-k : goal.invariant-loop-k
invariant-loop-k l = record {
  room : l.k < l.most → ExtentRun l.text l.fn.from l.least l.most l.i l.k l.at;
  full : l.most ≤ l.k → (1 ≤ l.i) × ExtentsFrom l.text l.fn.from l.least l.most (record { fits = false; next = l.i - 1; at = replicate 8 none; count = 0 });
}
