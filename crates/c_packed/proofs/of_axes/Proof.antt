-- `c_packed::of_axes` reads the eight numbers from a place on.
use Prim.Native.Nat.{ℕ}
use borrow.Author.Rules.{rules}
use lib.ListN.{get_or}
use Rattle.c_packed.proofs.Puts.{first_at}
use Rattle.c_packed.proofs.of_axes.Statement.{statement}
use Rattle.c_packed.proofs.of_axes.Tie as tie

returns : tie.Need-returns
returns c = let a = c.args in first_at (λ (n : ℕ). get_or a.card.now n 0) a.at _

pub of_axes_spec : {M : Type 1} → statement M
of_axes_spec = tie.close (tie.spec (λ c. search rules) (λ c. search rules) (λ c. search rules) (λ c. search rules) (λ c. search rules) (λ c. search rules) (λ c. search rules) (λ c. search rules) (λ c. search rules) (λ c. search rules) (λ c. search rules) (λ c. search rules) (λ c. search rules) (λ c. search rules) (λ c. search rules) (λ c. search rules) (λ c. search rules) (λ c. search rules) (λ c. search rules) (λ c. search rules) (λ c. search rules) (λ c. search rules) (λ c. search rules) returns)
