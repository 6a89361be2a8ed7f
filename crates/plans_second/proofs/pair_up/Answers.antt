-- `plans_second::pair_up` is the ladder after the second verdict: the tests that led to each return are the definition's own.
use Rattle.std.proofs.Common.{arith, refl}
use Rattle.std.proofs.lemmas.Result.{err_from_is_err_and}
use borrow.Author.Tests.{ne_eqb, eq-eqb}
use Rattle.plans_second.proofs.pair_up.Goals as goal

pub returns-in_err-approved : goal.returns-in_err-approved
returns-in_err-approved c =
    let p = err_from_is_err_and c.from_residual.result c.from_residual.ensures.1 in
    rw (p.1, p.2, c.in_err-approved.was) refl

pub returns-then-marks : goal.returns-then-marks
returns-then-marks c = rw (c.in_ok-approved.was, c.if-marks.true) refl

pub returns-then-elements-approved : goal.returns-then-elements-approved
returns-then-elements-approved c =
    rw (c.in_ok-approved.was, c.if-marks.false, ne_eqb c.args.elements c.in_ok-approved.approved.elements (λ e. omega (arith, e, c.if-elements-approved.true))) refl

pub returns : goal.returns
returns c = rw (c.in_ok-approved.was, c.if-marks.false, eq-eqb c.args.elements c.in_ok-approved.approved.elements (omega (arith, c.if-elements-approved.false))) refl
