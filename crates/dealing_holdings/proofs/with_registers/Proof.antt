-- `dealing_holdings::with_registers` is the definition: the branch taken is the one that the kind picks.
use borrow.Author.Rules.{rules}
use borrow.Author.Tests.{eq-eqb, ne_eqb}
use Rattle.dealing_holdings.proofs.with_registers.Statement.{statement}
use Rattle.dealing_holdings.proofs.with_registers.Tie as tie

returns : tie.Need-returns-then-kind-eq6
returns c = rw (eq-eqb _ _ c.if-kind-eq6.true, c.double_of.ensures)

returns_2 : tie.Need-returns-then-kind-eq7
returns_2 c = rw (ne_eqb _ _ c.if-kind-eq6.false, eq-eqb _ _ c.if-kind-eq7.true, c.double_of-then-kind-eq7.ensures)

returns_3 : tie.Need-returns
returns_3 c =
    rw (ne_eqb _ _ c.if-kind-eq6.false, ne_eqb _ _ c.if-kind-eq7.false, c.double_of-2.ensures, c.double_of-3.ensures)

pub with_registers_spec : {M : Type 1} → statement M
with_registers_spec =
    tie.close
    (tie.spec (λ c. search rules) (λ c κs. search rules) returns (λ c κs. search rules) returns_2 (λ c. search rules) (λ c κs. search rules) (λ c κs. search rules) returns_3)
