-- `writing_words::put_digit` is one byte, that of the last digit.
use native.Mathlib.Omega.{arith}
use borrow.Author.Rules.{rules}
use Rattle.writing_words.proofs.put_digit.Statement.{statement}
use Rattle.writing_words.proofs.put_digit.Tie as tie

returns : tie.Need-returns
returns c = (rw c.put.ensures.0, c.put.ensures.1)

pub put_digit_spec : {M : Type 1} → statement M
put_digit_spec = tie.close (tie.spec (λ c. omega arith) (λ c. omega arith) (λ c κs. search rules) returns)
