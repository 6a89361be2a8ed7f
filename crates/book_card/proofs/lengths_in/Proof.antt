-- `book_card::lengths_in` reads all eight.
use native.Mathlib.Omega.{arith}
use borrow.Author.Rules.{rules}
use Rattle.book_card.proofs.lengths_in.Statement.{statement}
use Rattle.book_card.proofs.lengths_in.Tie as tie

returns : tie.Need-returns
returns c = rw (c.four-8.ensures.0, c.four-7.ensures.0, c.four-6.ensures.0, c.four-5.ensures.0, c.four-4.ensures.0, c.four-3.ensures.0, c.four-2.ensures.0, c.four.ensures.0)

pub lengths_in_spec : {M : Type 1} → statement M
lengths_in_spec = tie.close (tie.spec (λ c κs. search rules) (λ c κs. search rules) (λ c κs. search rules) (λ c κs. search rules) (λ c κs. search rules) (λ c κs. search rules) (λ c κs. search rules) (λ c κs. search rules) returns)
