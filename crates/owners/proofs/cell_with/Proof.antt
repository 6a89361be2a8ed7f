-- `owners::cell_with` goes by its test.
use borrow.Author.Tests.{eq-eqb, ne_eqb}
use borrow.Author.Rules.{rules}
use Rattle.owners.proofs.cell_with.Statement.{statement}
use Rattle.owners.proofs.cell_with.Tie as tie

pub cell_with_spec : {M : Type 1} → statement M
cell_with_spec = tie.close (tie.spec (λ c. search rules) (λ c. rw (eq-eqb _ _ c.if-found-wanted.true)) (λ c. rw (ne_eqb _ _ c.if-found-wanted.false)))
