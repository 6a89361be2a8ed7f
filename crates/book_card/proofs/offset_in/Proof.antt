-- `book_card::offset_in` reads all eight.
use Rattle.book_card.proofs.Laws.{stored_signed}
use native.Mathlib.Omega.{arith}
use borrow.Author.Rules.{rules}
use Rattle.book_card.proofs.offset_in.Statement.{statement}
use Rattle.book_card.proofs.offset_in.Tie as tie

returns : tie.Need-returns
returns c = rw (stored_signed c.signed_in-8.ensures, stored_signed c.signed_in-7.ensures, stored_signed c.signed_in-6.ensures, stored_signed c.signed_in-5.ensures, stored_signed c.signed_in-4.ensures, stored_signed c.signed_in-3.ensures, stored_signed c.signed_in-2.ensures, stored_signed c.signed_in.ensures)

pub offset_in_spec : {M : Type 1} → statement M
offset_in_spec = tie.close (tie.spec (λ c κs. search rules) (λ c κs. search rules) (λ c κs. search rules) (λ c κs. search rules) (λ c κs. search rules) (λ c κs. search rules) (λ c κs. search rules) (λ c κs. search rules) returns)
