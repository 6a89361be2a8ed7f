-- `book_card::no_card` has zeros in every field.
use native.Mathlib.Omega.{arith}
use borrow.Author.Rules.{rules}
use Rattle.book_card.proofs.no_card.Statement.{statement}
use Rattle.book_card.proofs.no_card.Tie as tie

returns : tie.Need-returns
returns c = rw c.no_iter-iter.ensures

pub no_card_spec : {M : Type 1} → statement M
no_card_spec = tie.close (tie.spec (λ c κs. search rules) returns)
