-- `writing_words::put_1` is the one digit of a number below 10, and the last one of any other.
use native.Mathlib.Omega.{arith}
use borrow.Author.Rules.{rules}
use Rattle.writing_words.proofs.Laws.{one_digit}
use Rattle.writing_words.proofs.put_1.Statement.{statement}
use Rattle.writing_words.proofs.put_1.Tie as tie

returns : tie.Need-returns
returns c = (rw (← one_digit c.args.n) c.put_digit.ensures.0, c.put_digit.ensures.1)

pub put_1_spec : {M : Type 1} → statement M
put_1_spec = tie.close (tie.spec (λ c κs. search rules) returns)
