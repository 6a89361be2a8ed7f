-- `owners::find_clash` is the refusal: a row that meets somebody shares a cell with it.
use mathlib.Core.Path.{◌≡◌, ap, ◌∙◌}
use Prim.Native.Nat.{ℕ}
use Rattle.claims.specs.Rows.{entry_met, cell_met}
use Rattle.claims.proofs.Rows.{cell_found}
use native.Mathlib.Omega.{arith}
use borrow.Author.Rules.{rules}
use Rattle.owners.proofs.find_clash.Statement.{statement}
use Rattle.owners.proofs.find_clash.Tie as tie

-- the cell met is that of the entry met
cell : (c : tie.After-cell_met-cell) →
    let a = c.args in
    c.cell_met-cell.result ≡ cell_met a.table.now (entry_met a.table.now a.row.now) a.row.now
cell c =
    let a = c.args in
    c.cell_met-cell.ensures ∙ ap (λ (e : ℕ). cell_met a.table.now e a.row.now) c.entry_met-entry.ensures

sub_t8 : tie.Need-overflow_sub-result-2
sub_t8 c =
    let s = c in
    omega (arith, cell c, cell_found s.args.table.now s.args.row.now s.requires.1)

pub find_clash_spec : {M : Type 1} → statement M
find_clash_spec =
    tie.close
    (tie.spec (λ c κs. search rules) (λ c κs. search rules) (λ c. search rules) sub_t8 (λ c. rw (cell c, c.entry_met-entry.ensures)))
