-- `reading::refuse` is the definition.
use borrow.Author.Rules.{rules}
use Rattle.reading.proofs.refuse.Statement.{statement}
use Rattle.reading.proofs.refuse.Tie as tie

returns : tie.Need-returns
returns c = rw c.no_layout.ensures

pub refuse_spec : {M : Type 1} → statement M
refuse_spec = tie.close (tie.spec (λ c κs. search rules) returns)
