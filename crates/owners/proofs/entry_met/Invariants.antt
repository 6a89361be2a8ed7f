-- The best so far with the cells that are left is the smallest entry of the whole row.
use Rattle.std.proofs.Common.{◌≡◌, get_or, drop}
use Rattle.claims.specs.Rows.{least, entry_met}
use Rattle.owners.proofs.entry_met.Given as goal

abbrev pub invariant-loop-cell : goal.invariant-loop-cell
invariant-loop-cell l = least (λ c. get_or l.table c 0) (drop l.cell-index l.row) l.best ≡ entry_met l.table l.row
