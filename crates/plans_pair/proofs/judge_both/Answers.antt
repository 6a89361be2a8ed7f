-- `plans_pair::judge_both` is the first verdict, and the second where the first approves.
use Rattle.std.proofs.lemmas.Result.{err_from_is_err_and}
use Rattle.plans_pair.proofs.Openings.{both_judged, first_refused}
use Rattle.plans_pair.proofs.judge_both.Goals as goal

pub returns-in_err-approved : goal.returns-in_err-approved
returns-in_err-approved c =
    let p = err_from_is_err_and c.from_residual.result c.from_residual.ensures.1 in
    rw (p.1, p.2) (first_refused c.args.two c.args.second.now c.judge.ensures c.in_err-approved.was)

pub returns : goal.returns
returns c = both_judged c.args.two c.args.second.now c.judge.ensures c.in_ok-approved.was c.judge_other.ensures
