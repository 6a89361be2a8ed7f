-- The first register of the wrong sort is the answer; where the loop ends there is none.
use Rattle.std.proofs.Common.{◌≡◌, sym, ap, ◌∙◌, arith, not}
use Rattle.values.specs.Registers.{is_wrong}
use Rattle.values.proofs.First.{none_next}
use Rattle.values.proofs.Sorts.{judged_at, judged_done}
use Rattle.dealing.proofs.Wrong.{not_wrong, wrong_own}
use Rattle.dealing.proofs.judge_by.Goals.{else-p-lt64-via-then-p-lt64+else-not-is_right, else-p-lt64-via-else-p-lt64}
use Rattle.dealing.proofs.judge_by.Goals as goal

pub returns-then-not-is_right : goal.returns-then-not-is_right
returns-then-not-is_right g c value told =
    let l = c.loop-n in
    let a = c.args in
    let own = told l.n c.matrix_source-p.result c.is_right.result c.matrix_source-p.ensures c.loop-n-test.true c.if-p-lt64.true c.is_right.ensures in
    sym (judged_at a.kind a.computation value l.n c.loop-n-test.true (l.invariant value told)
    (wrong_own a.kind a.computation l.n c.matrix_source-p.result value c.matrix_source-p.ensures c.if-p-lt64.true ∙ ap not (sym own ∙ c.if-not-is_right.true)))

pub loop-n-preserved : goal.loop-n-preserved
loop-n-preserved g c value told =
    let l = c.loop-n in
    let a = c.args in
    none_next (is_wrong a.kind a.computation value) l.n (l.invariant value told)
    (elim c.else-p-lt64.branch [
      | else-p-lt64-via-then-p-lt64+else-not-is_right w ↦
          wrong_own a.kind a.computation l.n c.matrix_source-p.result value c.matrix_source-p.ensures w.if-p-lt64.true
          ∙ ap not (sym (told l.n c.matrix_source-p.result w.is_right.result c.matrix_source-p.ensures c.loop-n-test.true w.if-p-lt64.true w.is_right.ensures) ∙ w.if-not-is_right.false)
      | else-p-lt64-via-else-p-lt64 w ↦ not_wrong a.kind a.computation l.n c.matrix_source-p.result value c.matrix_source-p.ensures w.if-p-lt64.false
    ])

pub returns : goal.returns
returns g c value told =
    let l = c.loop-n in
    let a = c.args in
    let end : l.n ≡ 256 = omega arith in
    sym (judged_done a.kind a.computation value (rw end at (l.invariant value told)))
