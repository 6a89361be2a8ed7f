-- `storing::refused` gives a card of zeros.
use native.Mathlib.Omega.{arith}
use borrow.Author.Rules.{rules}
use Rattle.storing.proofs.refused.Statement.{statement}
use Rattle.storing.proofs.refused.Tie as tie

returns : tie.Need-returns
returns c = rw c.no_card-card.ensures

pub refused_spec : {M : Type 1} → statement M
refused_spec = tie.close (tie.spec (λ c κs. search rules) returns)
