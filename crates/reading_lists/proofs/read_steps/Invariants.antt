-- `reading_lists::read_steps` runs over the strides of a list and what closes it: the invariant is the run up to the place while strides are left to come, and
-- after the last the refusal of the comma behind it.
use Rattle.std.proofs.Common.{◌-◌, ◌<◌, ◌≤◌, false, replicate}
use Rattle.card.specs.Card.{none}
use Rattle.reading_lists.specs.Lists.{PaceRun, Paced}
use Rattle.reading_lists.proofs.read_steps.Given as goal

abbrev pub invariant-loop-k : goal.invariant-loop-k
invariant-loop-k l = record {
  left : l.k < l.count → PaceRun l.text l.fn.from l.fn.iters l.count l.shard l.i l.k l.at l.marks;
  full : l.count ≤ l.k → (1 ≤ l.i) × Paced l.text l.fn.from l.fn.iters l.count l.shard (record { fits = false; next = l.i - 1; at = replicate 8 none; marks = replicate 8 false });
}
