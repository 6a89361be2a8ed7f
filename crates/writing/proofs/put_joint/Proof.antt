-- `writing::put_joint` is a comma for all but the first.
use borrow.Author.Tests.{eq-eqb, ne_eqb}
use native.Mathlib.Omega.{arith}
use borrow.Author.Rules.{rules}
use Rattle.writing_words.proofs.Laws.{wrote_none}
use Rattle.writing.proofs.put_joint.Statement.{statement}
use Rattle.writing.proofs.put_joint.Tie as tie

returns : tie.Need-returns-then-k-eq0
returns c = (rw (eq-eqb _ _ c.if-k-eq0.true) (wrote_none c.args.out), omega arith)

returns_2 : tie.Need-returns
returns_2 c = (rw (ne_eqb _ _ c.if-k-eq0.false) c.put.ensures.0, c.put.ensures.1)

pub put_joint_spec : {M : Type 1} → statement M
put_joint_spec = tie.close (tie.spec returns (λ c κs. search rules) returns_2)
