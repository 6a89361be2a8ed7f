-- What is written so far, with the cells that are left, is what all the cells write.
use Rattle.std.proofs.Common.{◌≡◌, ◌+◌, drop}
use Rattle.claims.specs.Claims.{occupied}
use Rattle.plans.specs.Passes.{sourced_from}
use Rattle.plans_passes.proofs.put_sources.Given as goal

abbrev pub invariant-loop-owner : goal.invariant-loop-owner
invariant-loop-owner l = record {
  counted : l.copy + occupied (drop l.owner-index l.second) ≡ occupied l.second;
  written : sourced_from (drop l.owner-index l.second) l.copy l.plan ≡ sourced_from l.second 0 l.fn.plan;
}
