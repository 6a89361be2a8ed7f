-- `urszovely::urszovely_bank` answers what the library's question answers, in its four numbers.
use borrow.Author.Rules.{rules}
use Rattle.urszovely.proofs.urszovely_bank.Statement.{statement}
use Rattle.urszovely.proofs.urszovely_bank.Tie as tie

returns : tie.Need-returns
returns c = rw (c.four.ensures, c.in_numbers-numbers.ensures, c.bank_of-banked.ensures)

pub urszovely_bank_spec : {M : Type 1} → statement M
urszovely_bank_spec = tie.close (tie.spec (λ c κs. search rules) (λ c κs. search rules) (λ c κs. search rules) returns)
