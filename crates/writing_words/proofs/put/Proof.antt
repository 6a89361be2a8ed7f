-- `writing_words::put` stores one byte at the end.
use native.Mathlib.Omega.{arith}
use borrow.Author.Rules.{rules}
use Rattle.writing_words.proofs.Laws.{wrote_byte}
use Rattle.writing_words.proofs.put.Statement.{statement}
use Rattle.writing_words.proofs.put.Tie as tie

returns : tie.Need-returns
returns c = let s = c in (wrote_byte s.args.out s.args.b, omega arith)

pub put_spec : {M : Type 1} → statement M
put_spec = tie.close (tie.spec (λ c. search rules) (λ c. search rules) returns)
