-- One turn makes one row anew, by the row's own rule.
use Rattle.std.proofs.Common.{[], rules, of_calls}
use Rattle.laws.proofs.Lists.{length_of}
use Rattle.values.specs.Rows.{each}
use Rattle.values.proofs.Rows.{anew_none, anew_next, anew_all}
use Rattle.dealing_moves.proofs.moved.Goals as goal

pub loop-row-init : goal.loop-row-init
loop-row-init g c rule told = anew_none [] g.row.M (λ row. each (rule row)) c.args.given (search (rules, length_of))

pub loop-row-preserved : goal.loop-row-preserved
loop-row-preserved g c rule told =
    let l = c.loop-row in
    let a = c.args in
    anew_next [] g.row.M (λ row. each (rule row)) a.given l.moved l.row-counter c.moved_row.result (l.invariant rule told) c.loop-row-test.true
    (c.moved_row.ensures (rule l.row-counter) (λ k s x h e. told l.row-counter k s x c.loop-row-test.true h (search (of_calls, e))))

pub returns : goal.returns
returns g c rule told =
    let l = c.loop-row in
    anew_all [] g.row.M (λ row. each (rule row)) c.args.given l.moved l.row-counter (l.invariant rule told) c.loop-row-test.false
