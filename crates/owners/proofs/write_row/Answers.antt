-- One store moves a cell from what is left to what is written, and occupies newly as many cells as it leaves nobody's no longer.
use Rattle.std.proofs.Common.{◌∙◌, ◌+◌, ◌<◌, length, get_or, arith}
use Rattle.claims.proofs.Rows.{written_step, occupied_set, taken_owned}
use Rattle.owners.proofs.write_row.Goals as goal

pub loop-cell-preserved : goal.loop-cell-preserved
loop-cell-preserved c =
    let a = c.args in
    let head = c.loop-cell in
    let entry = a.flat.0 + 1 in
    let cell = get_or a.row.now head.cell-index 0 in
    let below : cell < length head.table = omega (arith, c.requires.row_within head.cell-index (omega arith)) in
    let store = occupied_set head.table cell entry below in
    let one = taken_owned entry (omega arith) in
    record {
      written = written_step entry a.row.now head.table head.cell-index (omega arith) ∙ head.invariant.written;
      counted = omega (arith, c.free-newly.ensures);
      few = omega (arith, c.free-newly.ensures);
    }
