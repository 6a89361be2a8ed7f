-- `reading_letters::rest` is the definition: in each arm the number is the arm's own.
use borrow.Author.Tests.{ne_eqb}
use Rattle.reading_letters.proofs.rest.Statement.{statement}
use Rattle.reading_letters.proofs.rest.Tie as tie

returns : tie.Need-returns-in-0
returns c = rw c.in-0.is

returns_2 : tie.Need-returns-in-1
returns_2 c = rw c.in-1.is

returns_3 : tie.Need-returns-in-2
returns_3 c = rw c.in-2.is

returns_4 : tie.Need-returns-in_default
returns_4 c = rw (ne_eqb _ 0 c.in_default.in_default-own.rest.0.0.1, ne_eqb _ 1 c.in_default.in_default-own.rest.0.1, ne_eqb _ 2 c.in_default.in_default-own.rest.1)

pub rest_spec : {M : Type 1} → statement M
rest_spec = tie.close (tie.spec returns returns_2 returns_3 returns_4)
