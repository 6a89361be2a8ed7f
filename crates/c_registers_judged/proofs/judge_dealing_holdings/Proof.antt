-- `c_registers_judged::judge_dealing_holdings` is the definition: the branch taken is the one that the kind picks.
use Rattle.std.specs.Prelude.{Err}
use mathlib.Core.Path.{ap}
use native.Mathlib.Omega.{arith}
use borrow.Author.Rules.{rules}
use borrow.Author.Tests.{lt-ltb, le-ltb}
use Rattle.c_registers_judged.proofs.judge_dealing_holdings.Statement.{statement}
use Rattle.c_registers_judged.proofs.judge_dealing_holdings.Tie as tie

pub judge_dealing_holdings_spec : {M : Type 1} → statement M
judge_dealing_holdings_spec =
    tie.close
    (tie.spec (λ c κs. (omega arith, omega arith, omega arith)) (λ c κs. search rules)
    (λ c. rw (lt-ltb 5 _ c.if-kind-gt5.true) c.judge_dealing.ensures)
    (λ c. rw (le-ltb 5 _ c.if-kind-gt5.false) (ap Err c.outside.ensures)))
