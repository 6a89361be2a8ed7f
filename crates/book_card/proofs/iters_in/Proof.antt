-- `book_card::iters_in` reads all eight.
use native.Mathlib.Omega.{arith}
use borrow.Author.Rules.{rules}
use Rattle.book_card.proofs.iters_in.Statement.{statement}
use Rattle.book_card.proofs.iters_in.Tie as tie

returns : tie.Need-returns
returns c = rw (c.slot_in-8.ensures, c.slot_in-7.ensures, c.slot_in-6.ensures, c.slot_in-5.ensures, c.slot_in-4.ensures, c.slot_in-3.ensures, c.slot_in-2.ensures, c.slot_in.ensures)

pub iters_in_spec : {M : Type 1} → statement M
iters_in_spec = tie.close (tie.spec (λ c κs. search rules) (λ c κs. search rules) (λ c κs. search rules) (λ c κs. search rules) (λ c κs. search rules) (λ c κs. search rules) (λ c κs. search rules) (λ c κs. search rules) returns)
