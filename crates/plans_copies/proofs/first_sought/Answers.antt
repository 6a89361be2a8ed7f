-- A cell that is not looked for is passed by.
use Rattle.std.proofs.Common.{sym, ◌∙◌, length, get_or, arith}
use Rattle.plans.specs.Passes.{sought}
use Rattle.plans.proofs.Search.{step_no}
use Rattle.plans_copies.proofs.first_sought.Goals as goal

pub loop-cell-preserved : goal.loop-cell-preserved
loop-cell-preserved c =
    let head = c.loop-cell in
    let a = c.args in
    step_no (λ c. sought a.sharing (get_or a.held.now c 0) (get_or a.second.now c 0)) (length a.second.now) head.cell (omega arith)
    (sym c.is_sought.ensures ∙ c.if-is_sought.false)
    ∙ head.invariant
