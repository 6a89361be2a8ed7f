-- `plans_second::judge_other` is the second verdict, and then marks and elements.
use Rattle.plans_second.proofs.Laws.{other_judged}
use borrow.Author.Rules.{rules}
use Rattle.plans_second.proofs.judge_other.Statement.{statement}
use Rattle.plans_second.proofs.judge_other.Tie as tie

returns : tie.Need-returns
returns c = other_judged c.judge-verdict.ensures c.is_marked.result c.is_marked-2.result c.is_marked.ensures c.is_marked-2.ensures c.pair_up.ensures

pub judge_other_spec : {M : Type 1} → statement M
judge_other_spec =
    tie.close
    (tie.spec (λ c κs. search rules) (λ c κs. search rules) (λ c κs. search rules) (λ c κs. search rules) (λ c. search rules) returns)
