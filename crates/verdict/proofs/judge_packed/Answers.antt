-- `verdict::judge_packed` is the card's own checks, and then the verdict on an admitted card.
use Rattle.std.proofs.Common.{sym, ◌∙◌}
use Rattle.std.proofs.lemmas.Result.{err_from_is_err_and}
use Rattle.card.specs.Packed.{card_of}
use Rattle.claiming_in_order.proofs.Promises.{not_admitted}
use Rattle.verdict.proofs.judge_packed.Goals as goal

pub returns-in_err-admit_packed : goal.returns-in_err-admit_packed
returns-in_err-admit_packed c =
    let a = c.args in
    let p = err_from_is_err_and c.from_residual.result c.from_residual.ensures.1 in
    rw (p.1, p.2) (not_admitted (card_of a.numbers.now a.strides.now) a.table.now (sym c.admit_packed.ensures ∙ c.in_err-admit_packed.was))

pub judge_admitted-requires : goal.judge_admitted-requires
judge_admitted-requires c = (c.requires, sym c.admit_packed.ensures ∙ c.in_ok-admit_packed.was)

pub returns : goal.returns
returns c = c.judge_admitted.ensures
