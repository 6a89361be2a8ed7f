-- `dealing_holdings::registers_of` is the definition: the branch taken is the one that the kind picks.
use borrow.Author.Rules.{rules}
use borrow.Author.Tests.{eq-eqb, ne_eqb}
use Rattle.dealing_holdings.proofs.registers_of.Statement.{statement}
use Rattle.dealing_holdings.proofs.registers_of.Tie as tie

returns_2 : tie.Need-returns-then-kind-eq7
returns_2 c = rw (ne_eqb _ _ c.if-kind-eq6.false, eq-eqb _ _ c.if-kind-eq7.true)

returns_3 : tie.Need-returns
returns_3 c = rw (ne_eqb _ _ c.if-kind-eq6.false, ne_eqb _ _ c.if-kind-eq7.false)

pub registers_of_spec : {M : Type 1} → statement M
registers_of_spec =
    tie.close
    (tie.spec (λ c. search rules) (λ c. rw (eq-eqb _ _ c.if-kind-eq6.true)) (λ c. search rules) returns_2 (λ c. search rules) (λ c. search rules) returns_3)
