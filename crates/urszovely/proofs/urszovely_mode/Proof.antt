-- `urszovely::urszovely_mode` answers what the library's question answers, in its four numbers.
use borrow.Author.Rules.{rules}
use Rattle.urszovely.proofs.urszovely_mode.Statement.{statement}
use Rattle.urszovely.proofs.urszovely_mode.Tie as tie

returns : tie.Need-returns
returns c = rw (c.four.ensures, c.in_numbers-numbers.ensures, c.swizzle_of_mode-chosen.ensures)

pub urszovely_mode_spec : {M : Type 1} → statement M
urszovely_mode_spec = tie.close (tie.spec (λ c κs. search rules) (λ c κs. search rules) (λ c κs. search rules) returns)
