-- `copies_runs::fill` writes one cell after the other: the level and the m of a copy are near zero, and come to a cell.
use Rattle.std.proofs.Common.{arith, ◌≡◌, ◌∙◌, sym, ap, subst, length, get_or}
use lib.IntN.{ℤ, pos, nat_abs, ◌+ℤ◌}
use mir.Syntax.{w64}
use mir.Val.{to_z, of_z}
use mir.Facts.{to_z-of_z}
use Rattle.swizzle.specs.declared.Swizzle.{Swizzle}
use Rattle.rules.specs.Rules.{swizzled_z}
use Rattle.copies_runs.specs.Clauses.{CellThere}
use Rattle.copies_runs.proofs.Cells.{sum_fits, sum_back, filled_none, filled_more}
use Rattle.copies_runs.proofs.fill.Goals as goal

pub swizzle_of-by-requires : goal.swizzle_of-by-requires
swizzle_of-by-requires c = c.requires.whole

pub loop-combination-init : goal.loop-combination-init
loop-combination-init c = let a = c.args in filled_none a.numbers.now _ _ a.levels.now a.ms.now a.row.now

pub overflow_add-level : goal.overflow_add-level
overflow_add-level c =
    let a = c.args in
    let k = c.loop-combination.combination in
    sum_fits a.level (get_or a.levels.now k (pos 0)) c.ranges.level (record { sfits = c.cell_at-arg-1.given }) c.requires.near (c.requires.levels_near k (omega arith))

pub overflow_add-m : goal.overflow_add-m
overflow_add-m c =
    let a = c.args in
    let k = c.loop-combination.combination in
    sum_fits a.m (get_or a.ms.now k (pos 0)) c.ranges.m (record { sfits = c.cell_at-arg-in-loop-combination-1.given }) c.requires.m_near (c.requires.ms_near k (omega arith))

pub cell_at-cell-requires : goal.cell_at-cell-requires
cell_at-cell-requires c =
    let a = c.args in
    let k = c.loop-combination.combination in
    let level = get_or a.levels.now k (pos 0) in
    let m = get_or a.ms.now k (pos 0) in
    let level_back = sum_back a.level level c.ranges.level (record { sfits = c.cell_at-arg-1.given }) c.requires.near (c.requires.levels_near k (omega arith)) in
    let m_back = sum_back a.m m c.ranges.m (record { sfits = c.cell_at-arg-in-loop-combination-1.given }) c.requires.m_near (c.requires.ms_near k (omega arith)) in
    rw (level_back, m_back)
    (subst (λ (w : Swizzle). CellThere w (a.level +ℤ level) (a.m +ℤ m)) (sym c.swizzle_of-by.ensures) (c.requires.cells k (omega arith)))

pub overflow_cast-entry : goal.overflow_cast-entry
overflow_cast-entry c =
    let a = c.args in
    let k = c.loop-combination.combination in
    let level = get_or a.levels.now k (pos 0) in
    let m = get_or a.ms.now k (pos 0) in
    let level_back = sum_back a.level level c.ranges.level (record { sfits = c.cell_at-arg-1.given }) c.requires.near (c.requires.levels_near k (omega arith)) in
    let m_back = sum_back a.m m c.ranges.m (record { sfits = c.cell_at-arg-in-loop-combination-1.given }) c.requires.m_near (c.requires.ms_near k (omega arith)) in
    let found = rw (level_back, m_back) at c.cell_at-cell.ensures ∙ ap (λ (w : Swizzle). a.level +ℤ level +ℤ swizzled_z w (a.m +ℤ m)) c.swizzle_of-by.ensures in
    let there = c.requires.cells k (omega arith) in
    let same : c.cell_at-cell.result.0 ≡ there.cell = ap nat_abs (found ∙ ap (λ (z : ℤ). a.level +ℤ level +ℤ z) there.m_there ∙ sym there.there) in
    omega (arith, same, there.few)

pub loop-combination-preserved : goal.loop-combination-preserved
loop-combination-preserved c =
    let a = c.args in
    let l = c.loop-combination in
    let k = l.combination in
    let level = get_or a.levels.now k (pos 0) in
    let m = get_or a.ms.now k (pos 0) in
    let level_back = sum_back a.level level c.ranges.level (record { sfits = c.cell_at-arg-1.given }) c.requires.near (c.requires.levels_near k (omega arith)) in
    let m_back = sum_back a.m m c.ranges.m (record { sfits = c.cell_at-arg-in-loop-combination-1.given }) c.requires.m_near (c.requires.ms_near k (omega arith)) in
    let found = rw (level_back, m_back) at c.cell_at-cell.ensures ∙ ap (λ (w : Swizzle). a.level +ℤ level +ℤ swizzled_z w (a.m +ℤ m)) c.swizzle_of-by.ensures in
    filled_more a.numbers.now (to_z w64 (of_z w64 a.level)) (to_z w64 (of_z w64 a.m)) a.levels.now a.ms.now a.row.now l.row k c.cell_at-cell.result.0
    (omega arith) l.invariant (rw (to_z-of_z c.ranges.level, to_z-of_z c.ranges.m) found)

pub returns : goal.returns
returns c =
    let l = c.loop-combination in
    let end : l.combination ≡ length c.args.row.now = omega arith in
    rw (to_z-of_z c.ranges.level, to_z-of_z c.ranges.m, end) at l.invariant
