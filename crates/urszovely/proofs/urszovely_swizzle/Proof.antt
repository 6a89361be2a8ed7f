-- `urszovely::urszovely_swizzle` answers what the library's question answers, in its four numbers.
use borrow.Author.Rules.{rules}
use Rattle.urszovely.proofs.urszovely_swizzle.Statement.{statement}
use Rattle.urszovely.proofs.urszovely_swizzle.Tie as tie

returns : tie.Need-returns
returns c = rw (c.four.ensures, c.in_numbers-numbers.ensures, c.swizzle_address-swizzled.ensures)

pub urszovely_swizzle_spec : {M : Type 1} → statement M
urszovely_swizzle_spec = tie.close (tie.spec (λ c κs. search rules) (λ c κs. search rules) (λ c κs. search rules) returns)
