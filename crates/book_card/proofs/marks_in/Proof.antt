-- `book_card::marks_in` reads all eight.
use native.Mathlib.Omega.{arith}
use borrow.Author.Rules.{rules}
use Rattle.book_card.proofs.marks_in.Statement.{statement}
use Rattle.book_card.proofs.marks_in.Tie as tie

returns : tie.Need-returns
returns c = rw (c.mark_in-8.ensures, c.mark_in-7.ensures, c.mark_in-6.ensures, c.mark_in-5.ensures, c.mark_in-4.ensures, c.mark_in-3.ensures, c.mark_in-2.ensures, c.mark_in.ensures)

pub marks_in_spec : {M : Type 1} → statement M
marks_in_spec = tie.close (tie.spec (λ c κs. search rules) (λ c κs. search rules) (λ c κs. search rules) (λ c κs. search rules) (λ c κs. search rules) (λ c κs. search rules) (λ c κs. search rules) (λ c κs. search rules) returns)
