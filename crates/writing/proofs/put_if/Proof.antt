-- `writing::put_if` is the byte or nothing.
use native.Mathlib.Omega.{arith}
use borrow.Author.Rules.{rules}
use Rattle.writing_words.proofs.Laws.{wrote_none}
use Rattle.writing.proofs.put_if.Statement.{statement}
use Rattle.writing.proofs.put_if.Tie as tie

returns : tie.Need-returns-then-there
returns c = (rw c.if-there.true c.put.ensures.0, c.put.ensures.1)

returns_2 : tie.Need-returns
returns_2 c = (rw c.if-there.false (wrote_none c.args.out), omega arith)

pub put_if_spec : {M : Type 1} → statement M
put_if_spec = tie.close (tie.spec (λ c κs. search rules) returns returns_2)
