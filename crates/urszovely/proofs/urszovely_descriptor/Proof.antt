-- `urszovely::urszovely_descriptor` answers what the library's question answers, in its four numbers.
use borrow.Author.Rules.{rules}
use Rattle.urszovely.proofs.urszovely_descriptor.Statement.{statement}
use Rattle.urszovely.proofs.urszovely_descriptor.Tie as tie

returns : tie.Need-returns
returns c = rw (c.four.ensures, c.in_numbers-numbers.ensures, c.write_descriptor-written.ensures, c.fields.ensures)

pub urszovely_descriptor_spec : {M : Type 1} → statement M
urszovely_descriptor_spec = tie.close (tie.spec (λ c κs. search rules) (λ c κs. search rules) (λ c κs. search rules) (λ c κs. search rules) returns)
