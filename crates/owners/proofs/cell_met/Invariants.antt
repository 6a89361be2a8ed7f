-- The best so far with the cells that are left is the smallest cell of the whole row that has the entry.
use Rattle.std.proofs.Common.{◌≡◌, get_or, drop}
use Rattle.claims.specs.Rows.{least, cell_with, cell_met}
use Rattle.owners.proofs.cell_met.Given as goal

abbrev pub invariant-loop-cell : goal.invariant-loop-cell
invariant-loop-cell l = least (λ c. cell_with (get_or l.table c 0) l.entry c) (drop l.cell-index l.row) l.best ≡ cell_met l.table l.entry l.row
