-- `book_card::iter_in` reads its three fields.
use Rattle.book_card.proofs.Laws.{stored_signed}
use native.Mathlib.Omega.{arith}
use borrow.Author.Rules.{rules}
use Rattle.book_card.proofs.iter_in.Statement.{statement}
use Rattle.book_card.proofs.iter_in.Tie as tie

returns : tie.Need-returns
returns c = rw (c.four-extent.ensures.0, stored_signed c.signed_in-stride.ensures, c.one-axis.ensures.0)

pub iter_in_spec : {M : Type 1} → statement M
iter_in_spec = tie.close (tie.spec (λ c κs. search rules) (λ c. search rules) (λ c κs. search rules) (λ c. search rules) (λ c κs. search rules) returns)
