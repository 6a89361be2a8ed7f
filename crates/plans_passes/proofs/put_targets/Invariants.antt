-- What is written so far, with the cells that are left, is what all the cells write.
use Rattle.std.proofs.Common.{◌≡◌, ◌+◌, drop}
use Rattle.claims.specs.Claims.{occupied}
use Rattle.plans.specs.Passes.{aimed_from}
use Rattle.plans_passes.proofs.put_targets.Given as goal

abbrev pub invariant-loop-cell : goal.invariant-loop-cell
invariant-loop-cell l = record {
  counted : l.copy + occupied (drop l.cell l.second) ≡ occupied l.second;
  written : aimed_from (drop l.cell l.second) l.copy l.cell l.plan ≡ aimed_from l.second 0 0 l.fn.plan;
}
