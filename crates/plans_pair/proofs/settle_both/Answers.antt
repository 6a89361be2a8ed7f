-- `plans_pair::settle_both` is both verdicts, and a refusal empties the cells of both tables.
use Rattle.std.proofs.Common.{arith}
use Rattle.plans_pair.proofs.Openings.{opens_matching, opens_refused}
use Rattle.plans_pair.proofs.settle_both.Goals as goal

pub returns-in-Ok : goal.returns-in-Ok
returns-in-Ok c =
    let a = c.args in
    let size = c.requires.size_value in
    opens_matching a.one a.two a.first.now a.second.now c.requires.lengths_value (omega (arith, size)) (omega (arith, size)) c.judge_both-pairing.ensures c.in-Ok.is

pub returns-in-Err : goal.returns-in-Err
returns-in-Err c =
    let a = c.args in
    let size = c.requires.size_value in
    opens_refused a.one a.two a.first.now a.second.now c.requires.lengths_value (omega (arith, size)) (omega (arith, size)) c.judge_both-pairing.ensures c.in-Err.is
    size.0 c.empty_both.ensures.first_after c.empty_both.ensures.second_after
