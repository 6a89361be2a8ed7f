-- `reading_letters::initial` is the definition: in each arm the number is the arm's own.
use borrow.Author.Tests.{ne_eqb}
use Rattle.reading_letters.proofs.initial.Statement.{statement}
use Rattle.reading_letters.proofs.initial.Tie as tie

returns : tie.Need-returns-in-112
returns c = rw c.in-112.is

returns_2 : tie.Need-returns-in-119
returns_2 c = rw c.in-119.is

returns_3 : tie.Need-returns-in-108
returns_3 c = rw c.in-108.is

returns_4 : tie.Need-returns-in-80
returns_4 c = rw c.in-80.is

returns_5 : tie.Need-returns-in-70
returns_5 c = rw c.in-70.is

returns_6 : tie.Need-returns-in-109
returns_6 c = rw c.in-109.is

returns_7 : tie.Need-returns-in_default
returns_7 c = rw (ne_eqb _ 112 c.in_default.in_default-own.rest.0.0.0.0.0.1, ne_eqb _ 119 c.in_default.in_default-own.rest.0.0.0.0.1, ne_eqb _ 108 c.in_default.in_default-own.rest.0.0.0.1, ne_eqb _ 80 c.in_default.in_default-own.rest.0.0.1, ne_eqb _ 70 c.in_default.in_default-own.rest.0.1, ne_eqb _ 109 c.in_default.in_default-own.rest.1)

pub initial_spec : {M : Type 1} → statement M
initial_spec = tie.close (tie.spec returns returns_2 returns_3 returns_4 returns_5 returns_6 returns_7)
