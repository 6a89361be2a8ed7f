-- `urszovely::urszovely_fragment` answers what the library's question answers, in its four numbers.
use borrow.Author.Rules.{rules}
use Rattle.urszovely.proofs.urszovely_fragment.Statement.{statement}
use Rattle.urszovely.proofs.urszovely_fragment.Tie as tie

returns : tie.Need-returns
returns c = rw (c.four.ensures, c.in_numbers-numbers.ensures, c.held_by-held.ensures)

pub urszovely_fragment_spec : {M : Type 1} → statement M
urszovely_fragment_spec = tie.close (tie.spec (λ c κs. search rules) (λ c κs. search rules) (λ c κs. search rules) returns)
