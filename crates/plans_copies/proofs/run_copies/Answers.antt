-- Both numbers of a copy are cells of the table; one copy more is on what the copies before it left.
use Rattle.std.proofs.Common.{List, ℕ, ◌≡◌, sym, ◌∙◌, ◌+◌, ◌*◌, ◌<◌, length, get_or, arith}
use Rattle.plans.specs.Plans.{first_outside}
use Rattle.plans.proofs.Plans.{carried_step, carried_end, none_outside}
use Rattle.plans_copies.proofs.run_copies.Goals as goal

-- a number of a plan with no copy outside is a cell of the table
cell : (table held plan : List ℕ) (i : ℕ) → first_outside (length table) plan ≡ 0 → length held ≡ length table → i < length plan
    → get_or plan i 0 < length held
cell table held plan i none same h = omega (arith, (none_outside (length table) 0 plan none).cell i h)

pub offset_bounds-table-from : goal.offset_bounds-table-from
offset_bounds-table-from c =
    omega (arith, cell c.args.table.now c.loop-copy.table c.args.plan.now (2 * c.loop-copy.copy) c.requires (omega arith) (omega arith))

pub bounds-table-from : goal.bounds-table-from
bounds-table-from c = cell c.args.table.now c.loop-copy.table c.args.plan.now (2 * c.loop-copy.copy) c.requires (omega arith) (omega arith)

pub offset_bounds-table-to : goal.offset_bounds-table-to
offset_bounds-table-to c =
    omega (arith, cell c.args.table.now c.loop-copy.table c.args.plan.now (2 * c.loop-copy.copy + 1) c.requires (omega arith) (omega arith))

pub bounds-table-to : goal.bounds-table-to
bounds-table-to c = cell c.args.table.now c.loop-copy.table c.args.plan.now (2 * c.loop-copy.copy + 1) c.requires (omega arith) (omega arith)

pub loop-copy-preserved : goal.loop-copy-preserved
loop-copy-preserved c =
    carried_step c.args.plan.now c.loop-copy.table c.loop-copy.copy (omega arith) ∙ c.loop-copy.invariant

pub returns : goal.returns
returns c =
    sym (carried_end c.args.plan.now c.loop-copy.table c.loop-copy.copy (omega arith)) ∙ c.loop-copy.invariant
