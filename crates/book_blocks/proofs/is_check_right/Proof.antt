-- `book_blocks::is_check_right` compares the stored check with the sum.
use native.Mathlib.Omega.{arith}
use borrow.Author.Rules.{rules}
use Rattle.book_blocks.proofs.is_check_right.Statement.{statement}
use Rattle.book_blocks.proofs.is_check_right.Tie as tie

returns : tie.Need-returns
returns c = rw (c.weigh.ensures, c.four.ensures.0)

pub is_check_right_spec : {M : Type 1} → statement M
is_check_right_spec = tie.close (tie.spec (λ c κs. search rules) (λ c κs. search rules) returns)
