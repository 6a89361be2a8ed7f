-- `verdict::owner_at` reads the entry of the table that the verdict leaves: an approved one had room for the cell.
use Rattle.std.proofs.Common.{arith}
use Rattle.std.proofs.lemmas.Result.{err_from_is_err_and}
use Rattle.verdict.proofs.Owners.{approved_room, entry_read}
use Rattle.verdict.proofs.owner_at.Goals as goal

pub offset_bounds-table-cell : goal.offset_bounds-table-cell
offset_bounds-table-cell c =
    let room = approved_room c.judge_admitted.ensures c.in_ok-judge_admitted.was in
    omega (arith, c.requires.cell_bound, room, c.judge_admitted.auto.table)

pub bounds-table-cell : goal.bounds-table-cell
bounds-table-cell c =
    let room = approved_room c.judge_admitted.ensures c.in_ok-judge_admitted.was in
    omega (arith, c.requires.cell_bound, room, c.judge_admitted.auto.table)

pub returns-in_err-judge_admitted : goal.returns-in_err-judge_admitted
returns-in_err-judge_admitted c =
    let p = err_from_is_err_and c.from_residual.result c.from_residual.ensures.1 in
    rw (p.1, p.2) (entry_read c.args.cell.0 c.judge_admitted.ensures c.in_err-judge_admitted.was)

pub returns : goal.returns
returns c = entry_read c.args.cell.0 c.judge_admitted.ensures c.in_ok-judge_admitted.was
