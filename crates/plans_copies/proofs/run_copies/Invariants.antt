-- The copies that are left, on what is held so far, are all on what was held at first.
use Rattle.std.proofs.Common.{◌≡◌, ◌*◌, drop}
use Rattle.plans.specs.Plans.{carried}
use Rattle.plans_copies.proofs.run_copies.Given as goal

abbrev pub invariant-loop-copy : goal.invariant-loop-copy
invariant-loop-copy l = carried (drop (2 * l.copy) l.plan) l.table ≡ carried l.plan l.fn.table
