-- `plans_tables::empty_cells` clears the part that is the cells.
use mathlib.Core.Path.{◌≡◌, sym, ap, ◌∙◌}
use mathlib.Core.List.{List, ◌++◌}
use Prim.Native.Nat.{ℕ}
use native.Mathlib.Omega.{arith}
use lib.ListN.{length, drop, replicate}
use lib.Seq.{length-take-le}
use borrow.Author.Rules.{rules}
use Rattle.plans_tables.proofs.empty_cells.Statement.{statement}
use Rattle.plans_tables.proofs.empty_cells.Tie as tie

returns : tie.Need-returns
returns c =
    let call = c in
    let s = call in
    ap (λ (l : List ℕ). l ++ drop s.args.cells s.args.table.now)
    (call.clear.ensures ∙ ap (λ (n : ℕ). replicate {A = ℕ} n 0) (length-take-le s.args.cells s.args.table.now s.requires))

pub empty_cells_spec : {M : Type 1} → statement M
empty_cells_spec =
    tie.close
    (tie.spec (λ c. search rules) (λ c. let s = c in sym (length-take-le s.args.cells s.args.table.now s.requires))
    (λ c κs. search rules) (λ c. search rules) returns)
