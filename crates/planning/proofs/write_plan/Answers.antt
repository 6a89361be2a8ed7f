-- `planning::write_plan` opens the two cards, and writes the plan between their cells.
use Rattle.std.proofs.Common.{◌≡◌, sym, ap, ◌∙◌, length, take}
use Rattle.std.proofs.lemmas.Result.{err_from_is_err_and}
use lib.Seq.{length-take-le}
use Rattle.claims.specs.Claims.{occupied}
use Rattle.plans.specs.Plans.{Matched}
use Rattle.plans_judged.proofs.Plain.{plan_exactly}
use Rattle.planning.proofs.Promises.{begun, take_first, take_second, long_first, long_second, written_out, not_planned}
use Rattle.planning.proofs.write_plan.Goals as goal

pub returns-in_err-opened : goal.returns-in_err-opened
returns-in_err-opened c =
    let a = c.args in
    let p = err_from_is_err_and c.from_residual.result c.from_residual.ensures.1 in
    rw (p.1, p.2)
    ((plan_exactly a.one a.two a.first.now a.second.now a.plan.now _ _ _ _).1 (not_planned c.open_pair.ensures a.plan.now c.in_err-opened.was))

pub slice_bounds-write_cells-end : goal.slice_bounds-write_cells-end
slice_bounds-write_cells-end c = let q = c.open_pair.ensures in long_first q (begun q c.in_ok-opened.was)

pub slice_bounds-write_cells-end-2 : goal.slice_bounds-write_cells-end-2
slice_bounds-write_cells-end-2 c =
    let q = c.open_pair.ensures in
    sym (length-take-le c.in_ok-opened.opened.cells c.open_pair.new.first (long_first q (begun q c.in_ok-opened.was)))

pub slice_bounds-write_cells-end-3 : goal.slice_bounds-write_cells-end-3
slice_bounds-write_cells-end-3 c = let q = c.open_pair.ensures in long_second q (begun q c.in_ok-opened.was)

pub slice_bounds-write_cells-end-4 : goal.slice_bounds-write_cells-end-4
slice_bounds-write_cells-end-4 c =
    let q = c.open_pair.ensures in
    sym (length-take-le c.in_ok-opened.opened.cells c.open_pair.new.second (long_second q (begun q c.in_ok-opened.was)))

pub write_cells-requires : goal.write_cells-requires
write_cells-requires c =
    let q = c.open_pair.ensures in
    let ready = begun q c.in_ok-opened.was in
    let size = c.in_ok-opened.opened.cells in
    let first = length-take-le size c.open_pair.new.first (long_first q ready) in
    let second = length-take-le size c.open_pair.new.second (long_second q ready) in
    let matching : Matched (take size c.open_pair.new.first) (take size c.open_pair.new.second) = rw (take_first q ready, take_second q ready) ready.match in
    record { cases = matching; first_len = (first ∙ sym second, ready.counted ∙ ap occupied (sym (take_second q ready))) }

pub returns : goal.returns
returns c =
    let a = c.args in
    let q = c.open_pair.ensures in
    let done = c.write_cells.ensures in
    (plan_exactly a.one a.two a.first.now a.second.now a.plan.now _ _ _ _).1 (written_out q (begun q c.in_ok-opened.was) a.plan.now done.ends done.plan_after)
