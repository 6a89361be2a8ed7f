-- `verdict::owner_packed` is the ladder of checks, and then the entry read at the cell that the coordinates name.
use Rattle.std.proofs.Common.{sym, ◌∙◌}
use Rattle.std.proofs.lemmas.Result.{err_from_is_err_and}
use Rattle.card.specs.Packed.{card_of}
use Rattle.card.proofs.Admitted.{checked}
use Rattle.idle.proofs.Theorems.{checks_passed}
use Rattle.verdict.proofs.Owners.{owner_refused, no_cell_promise, asked_below, owner_read}
use Rattle.verdict.proofs.owner_packed.Goals as goal

pub returns-in_err-admit_packed : goal.returns-in_err-admit_packed
returns-in_err-admit_packed c =
    let a = c.args in
    let p = err_from_is_err_and c.from_residual.result c.from_residual.ensures.1 in
    rw (p.1, p.2)
    (owner_refused (card_of a.numbers.now a.strides.now) a.coordinates.now a.table.now (sym c.admit_packed.ensures ∙ c.in_err-admit_packed.was))

pub spot_at-spot-requires : goal.spot_at-spot-requires
spot_at-spot-requires c =
    let card = card_of c.args.numbers.now c.args.strides.now in
    ((checked card (checks_passed card (sym c.admit_packed.ensures ∙ c.in_ok-admit_packed.was))).space, c.requires.1)

pub owner_at-requires : goal.owner_at-requires
owner_at-requires c =
    let a = c.args in
    let admitted = sym c.admit_packed.ensures ∙ c.in_ok-admit_packed.was in
    record {
      whole = (c.requires.0, admitted);
      cell_bound = asked_below (card_of a.numbers.now a.strides.now) a.coordinates.now a.table.now admitted (sym c.spot_at-spot.ensures ∙ c.in-Inside.is);
    }

pub returns-in-Inside : goal.returns-in-Inside
returns-in-Inside c =
    let a = c.args in
    owner_read (card_of a.numbers.now a.strides.now) a.coordinates.now a.table.now (sym c.admit_packed.ensures ∙ c.in_ok-admit_packed.was)
    (sym c.spot_at-spot.ensures ∙ c.in-Inside.is) c.owner_at.ensures

pub returns-in-Outside : goal.returns-in-Outside
returns-in-Outside c =
    let a = c.args in
    no_cell_promise (card_of a.numbers.now a.strides.now) a.coordinates.now a.table.now (sym c.admit_packed.ensures ∙ c.in_ok-admit_packed.was)
    (sym c.spot_at-spot.ensures ∙ c.in-Outside.is)
