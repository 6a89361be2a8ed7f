-- A copy inside is passed by; an odd number left over is the first outside.
use Rattle.std.proofs.Common.{sym, ◌∙◌, ◌+◌, ◌*◌, get_or, arith}
use Rattle.plans.proofs.Plans.{outside_step, outside_odd, both_inside}
use Rattle.plans_copies.proofs.first_outside.Goals as goal

pub loop-copy-preserved : goal.loop-copy-preserved
loop-copy-preserved c =
    let head = c.loop-copy in
    let a = c.args in
    let in_cells = both_inside (get_or a.plan.now (2 * head.copy) 0) (get_or a.plan.now (2 * head.copy + 1) 0) a.cells
    (sym c.names_cells.ensures ∙ c.if-not-names_cells.false) in
    outside_step a.cells a.plan.now head.copy (omega arith) in_cells.0 in_cells.1 ∙ head.invariant

pub returns-then-plan-eq1 : goal.returns-then-plan-eq1
returns-then-plan-eq1 c =
    let head = c.loop-copy in
    omega (arith, outside_odd c.args.cells c.args.plan.now head.copy (omega arith), head.invariant)
