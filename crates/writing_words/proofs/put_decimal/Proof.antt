-- `writing_words::put_decimal` is the definition: a digit alone, or the digits before the last and then the last.
use native.Mathlib.Omega.{arith}
use borrow.Author.Rules.{rules}
use borrow.Author.Tests.{le-ltb}
use Rattle.notation.specs.Text.{decimal}
use Rattle.writing_words.proofs.Laws.{wrote_more, below_ten}
use Rattle.writing_words.proofs.put_decimal.Statement.{statement}
use Rattle.writing_words.proofs.put_decimal.Tie as tie

returns : tie.Need-returns-then-n-lt10
unfolding decimal
returns c = (rw (← below_ten 4 c.args.n c.if-n-lt10.true) c.put_digit.ensures.0, omega (arith, c.put_digit.ensures.1))

returns_2 : tie.Need-returns
unfolding decimal
returns_2 c =
    let p = c in
    (rw (c.put_digit-2.ensures.0, p.put_4.ensures.0, le-ltb _ _ p.if-n-lt10.false) (wrote_more _ _ _), omega (arith, c.put_digit-2.ensures.1, p.put_4.ensures.1))

pub put_decimal_spec : {M : Type 1} → statement M
put_decimal_spec = tie.close (tie.spec (λ c κs. omega arith) returns (λ c κs. omega arith) (λ c κs. omega (arith, c.put_4.ensures.1)) returns_2)
