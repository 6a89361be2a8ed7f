-- `typed_lengths::conclude` is the definition: the eighth number ends with the line.
use borrow.Author.Rules.{rules}
use Rattle.typed_lengths.proofs.conclude.Statement.{statement}
use Rattle.typed_lengths.proofs.conclude.Tie as tie

returns : tie.Need-returns-then-is_inside-r
returns c = rw (rw c.is_inside.ensures at c.if-is_inside-r.true)

returns_2 : tie.Need-returns
returns_2 c = rw (rw c.is_inside.ensures at c.if-is_inside-r.false)

pub conclude_spec : {M : Type 1} → statement M
conclude_spec = tie.close (tie.spec (λ c κs. search rules) (λ c. search rules) returns returns_2)
