-- `copies::cell_from` is the cell of the number: the test decides both.
use borrow.Author.Rules.{rules}
use borrow.Author.Tests.{lt-ltb, le-ltb}
use Rattle.card.specs.Packed.{beyond}
use Rattle.copies.proofs.cell_from.Statement.{statement}
use Rattle.copies.proofs.cell_from.Tie as tie

returns : tie.Need-returns-then-number-lt-BEYOND
returns c = rw (lt-ltb c.args.number beyond c.if-number-lt-BEYOND.true)

returns_2 : tie.Need-returns-else-number-lt-BEYOND
returns_2 c = rw (le-ltb c.args.number beyond c.if-number-lt-BEYOND.false)

pub cell_from_spec : {M : Type 1} → statement M
cell_from_spec = tie.close (tie.spec (λ c. search rules) returns returns_2)
