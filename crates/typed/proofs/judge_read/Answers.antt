-- `typed::judge_read` is the outcome by cases: a wrong first line, a wrong text, a card.
use Rattle.std.proofs.Common.{refl}
use Rattle.std.proofs.lemmas.Result.{err_from_is_err_and}
use borrow.Author.Tests.{not-true, not-false}
use Rattle.typed.proofs.judge_read.Goals as goal

pub returns-then-not-line : goal.returns-then-not-line
returns-then-not-line c = rw (not-true c.args.line.correct c.if-not-line.true) (refl, refl)

pub returns-in_err-reading : goal.returns-in_err-reading
returns-in_err-reading c =
    let p = err_from_is_err_and c.from_residual.result c.from_residual.ensures.1 in
    rw (p.1, p.2, not-false c.args.line.correct c.if-not-line.false, c.in_err-reading.was) (refl, refl)

pub returns : goal.returns
returns c = rw (not-false c.args.line.correct c.if-not-line.false, c.in_ok-reading.was) (rw c.card_for.ensures at c.judge.ensures)
