-- `planning::check_plan` opens the two cards, and checks the plan in the cells.
use Rattle.std.proofs.Common.{◌≡◌, refl, sym, ◌∙◌, ℕ, List, Err, length, take}
use Rattle.std.proofs.lemmas.Result.{err_from_is_err_and}
use lib.Seq.{length-take-le}
use Rattle.card.specs.Card.{cells}
use Rattle.plans_judged.specs.Endings.{plan_checked}
use Rattle.plans_judged.proofs.Plain.{check_exactly}
use Rattle.planning.proofs.Promises.{begun, long_first, long_second, out, refused_before}
use Rattle.planning.proofs.check_plan.Goals as goal

pub returns-in_err-opened : goal.returns-in_err-opened
returns-in_err-opened c =
    let a = c.args in
    let p = err_from_is_err_and c.from_residual.result c.from_residual.ensures.1 in
    rw (p.1, p.2)
    ((check_exactly a.one a.two a.first.now a.second.now a.plan.now _ _ _).1
    (refused_before c.open_pair.ensures Err (plan_checked (cells a.one) a.plan.now) c.in_err-opened.was))

pub slice_bounds-check_cells-end : goal.slice_bounds-check_cells-end
slice_bounds-check_cells-end c = let q = c.open_pair.ensures in long_first q (begun q c.in_ok-opened.was)

pub slice_bounds-check_cells-end-2 : goal.slice_bounds-check_cells-end-2
slice_bounds-check_cells-end-2 c =
    let q = c.open_pair.ensures in
    sym (length-take-le c.in_ok-opened.opened.cells c.open_pair.new.first (long_first q (begun q c.in_ok-opened.was)))

pub slice_bounds-check_cells-end-3 : goal.slice_bounds-check_cells-end-3
slice_bounds-check_cells-end-3 c = let q = c.open_pair.ensures in long_second q (begun q c.in_ok-opened.was)

pub slice_bounds-check_cells-end-4 : goal.slice_bounds-check_cells-end-4
slice_bounds-check_cells-end-4 c =
    let q = c.open_pair.ensures in
    sym (length-take-le c.in_ok-opened.opened.cells c.open_pair.new.second (long_second q (begun q c.in_ok-opened.was)))

pub check_cells-requires : goal.check_cells-requires
check_cells-requires c =
    let q = c.open_pair.ensures in
    let ready = begun q c.in_ok-opened.was in
    length-take-le c.in_ok-opened.opened.cells c.open_pair.new.first (long_first q ready)
    ∙ sym (length-take-le c.in_ok-opened.opened.cells c.open_pair.new.second (long_second q ready))

pub returns : goal.returns
returns c =
    let a = c.args in
    let q = c.open_pair.ensures in
    (check_exactly a.one a.two a.first.now a.second.now a.plan.now _ _ _).1
    (out q (begun q c.in_ok-opened.was) Err (plan_checked (cells a.one) a.plan.now) (λ (n : ℕ) (l r : List ℕ). plan_checked n a.plan.now l r)
    (λ l r. refl) c.check_cells.ensures)
