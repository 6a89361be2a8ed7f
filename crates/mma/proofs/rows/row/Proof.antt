-- `mma::rows::row` is the table of kinds: one test over the whole table, and the law that turns it into the row of a number.
use Prim.Native.Nat.{◌-◌, ◌≤◌, ◌<◌}
use native.Mathlib.Omega.{arith}
use borrow.Author.Rules.{rules}
use Rattle.mma_kinds.specs.Kinds.{kind_table, kind_of}
use Rattle.mma.proofs.KnownKinds.{at_row}
use Rattle.mma.proofs.rows.row.Statement.{statement}
use Rattle.mma.proofs.rows.row.Tie as tie

-- the search finds the table in what is to be shown, and computes its test
returns : tie.Need-returns
unfolding kind_table kind_of
returns c =
    let least : 9 ≤ c.args.kind = c.requires.0 in
    let few : c.args.kind - 9 < 37 = omega (arith, c.requires.1) in
    search at_row

pub row_spec : {M : Type 1} → statement M
row_spec = tie.close (tie.spec (λ c. search rules) (λ c. search rules) (λ c. search rules) returns)
