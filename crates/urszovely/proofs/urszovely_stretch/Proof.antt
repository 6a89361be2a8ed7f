-- `urszovely::urszovely_stretch` answers what the library's question answers, in its four numbers.
use borrow.Author.Rules.{rules}
use Rattle.urszovely.proofs.urszovely_stretch.Statement.{statement}
use Rattle.urszovely.proofs.urszovely_stretch.Tie as tie

returns : tie.Need-returns
returns c = rw (c.four.ensures, c.in_numbers-numbers.ensures, c.locate_stretch-located.ensures)

pub urszovely_stretch_spec : {M : Type 1} → statement M
urszovely_stretch_spec = tie.close (tie.spec (λ c κs. search rules) (λ c κs. search rules) (λ c κs. search rules) returns)
