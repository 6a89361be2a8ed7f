-- `urszovely::urszovely_holder` answers what the library's question answers, in its four numbers.
use borrow.Author.Rules.{rules}
use Rattle.urszovely.proofs.urszovely_holder.Statement.{statement}
use Rattle.urszovely.proofs.urszovely_holder.Tie as tie

returns : tie.Need-returns
returns c =
    let n = c in
    record { holder = n.holder_of-holder.result; allowed = n.holder_of-holder.ensures; numbers = rw (c.four.ensures, n.in_numbers-numbers.ensures) }

pub urszovely_holder_spec : {M : Type 1} → statement M
urszovely_holder_spec = tie.close (tie.spec (λ c κs. search rules) (λ c κs. search rules) (λ c κs. search rules) returns)
