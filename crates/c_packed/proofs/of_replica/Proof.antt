-- `c_packed::of_replica` reads every third of the numbers from a place on, four of them, and zeros.
use Prim.Native.Nat.{ℕ}
use borrow.Author.Rules.{rules}
use lib.ListN.{get_or}
use Rattle.c_packed.proofs.Puts.{first_at}
use Rattle.c_packed.proofs.of_replica.Statement.{statement}
use Rattle.c_packed.proofs.of_replica.Tie as tie

returns : tie.Need-returns
returns c = let a = c.args in first_at (λ (n : ℕ). get_or a.card.now n 0) a.at _

pub of_replica_spec : {M : Type 1} → statement M
of_replica_spec = tie.close (tie.spec (λ c. search rules) (λ c. search rules) (λ c. search rules) (λ c. search rules) (λ c. search rules) (λ c. search rules) (λ c. search rules) (λ c. search rules) (λ c. search rules) (λ c. search rules) (λ c. search rules) returns)
