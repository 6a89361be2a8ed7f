-- `copies::position_from` tells the position by the test against the word from which on places stand.
use mathlib.Core.Path.{ap, sym}
use mathlib.Core.Bool.{Bool, cond}
use borrow.Author.Tests.{lt-ltb, le-ltb}
use Rattle.card.specs.Packed.{beyond}
use Rattle.copies.proofs.position_from.Statement.{statement}
use Rattle.copies.proofs.position_from.Tie as tie

returns : tie.Need-returns-then-number-lt-BEYOND
returns c = rw (lt-ltb c.args.number beyond c.if-number-lt-BEYOND.true)

returns_2 : tie.Need-returns-else-number-lt-BEYOND
returns_2 c = rw (le-ltb c.args.number beyond c.if-number-lt-BEYOND.false)

pub position_from_spec : {M : Type 1} → statement M
position_from_spec = tie.close (tie.spec returns returns_2)
