-- `c_packed::last_column` has the counts, M, B, S and the sizes.
use borrow.Author.Rules.{rules}
use Rattle.c_packed.proofs.last_column.Statement.{statement}
use Rattle.c_packed.proofs.last_column.Tie as tie

returns : tie.Need-returns
returns c = rw (c.elements.ensures, c.copies.ensures, c.cells.ensures)

pub last_column_spec : {M : Type 1} → statement M
last_column_spec = tie.close (tie.spec (λ c. search rules) (λ c. search rules) (λ c. search rules) (λ c. search rules) (λ c. search rules) (λ c κs. search rules) (λ c κs. search rules) (λ c κs. search rules) returns)
