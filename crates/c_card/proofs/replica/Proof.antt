-- `c_card::replica` reads the count and four iters; the other four slots are empty.
use borrow.Author.Rules.{rules}
use Rattle.c_card.proofs.replica.Statement.{statement}
use Rattle.c_card.proofs.replica.Tie as tie

returns : tie.Need-returns
returns c = rw (c.iter.ensures, c.iter-2.ensures, c.iter-3.ensures, c.iter-4.ensures)

pub replica_spec : {M : Type 1} → statement M
replica_spec = tie.close (tie.spec (λ c. search rules) (λ c κs. search rules) (λ c. search rules) (λ c κs. search rules) (λ c. search rules) (λ c κs. search rules) (λ c. search rules) (λ c κs. search rules) (λ c. search rules) returns)
