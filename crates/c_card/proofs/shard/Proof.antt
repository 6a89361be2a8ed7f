-- `c_card::shard` reads the count and eight iters.
use borrow.Author.Rules.{rules}
use Rattle.c_card.proofs.shard.Statement.{statement}
use Rattle.c_card.proofs.shard.Tie as tie

returns : tie.Need-returns
returns c = rw (c.iter.ensures, c.iter-2.ensures, c.iter-3.ensures, c.iter-4.ensures, c.iter-5.ensures, c.iter-6.ensures, c.iter-7.ensures, c.iter-8.ensures)

pub shard_spec : {M : Type 1} → statement M
shard_spec = tie.close (tie.spec (λ c κs. search rules) (λ c κs. search rules) (λ c κs. search rules) (λ c κs. search rules) (λ c κs. search rules) (λ c κs. search rules) (λ c κs. search rules) (λ c κs. search rules) (λ c. search rules) returns)
