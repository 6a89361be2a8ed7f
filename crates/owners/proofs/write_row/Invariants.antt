-- What is written so far, with the cells that are left, is the whole row written; each store counts what it occupies newly.
use Rattle.std.proofs.Common.{◌≡◌, ◌+◌, ◌≤◌, drop}
use Rattle.claims.specs.Claims.{occupied}
use Rattle.claims.specs.Rows.{row_written}
use Rattle.owners.proofs.write_row.Given as goal

abbrev pub invariant-loop-cell : goal.invariant-loop-cell
invariant-loop-cell l = record {
  written : row_written l.entry (drop l.cell-index l.row) l.table ≡ row_written l.entry l.row l.fn.table;
  counted : l.newly + occupied l.fn.table ≡ occupied l.table;
  few : l.newly ≤ l.cell-index;
}
