-- The cells fall: those from this one on are entered.
use Rattle.std.proofs.Common.{◌≡◌, drop}
use Rattle.plans.specs.Passes.{entered_from}
use Rattle.plans_passes.proofs.enter_cells.Given as goal

abbrev pub invariant-loop-cell : goal.invariant-loop-cell
invariant-loop-cell l = l.plan ≡ entered_from (drop l.cell l.first) l.cell l.fn.plan
