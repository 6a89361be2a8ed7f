-- `claiming_lines::claim_cells` claims one cell after the other: with the loop's index in the place of the length the line is claimed so far, and level and m are so
-- many steps from where it began.
use Rattle.std.proofs.Common.{arith, sym, subst, ◌≡◌, ◌∙◌, ◌+◌, ◌<◌, ℕ, List, length}
use mathlib.Core.Path.{ap₂}
use lib.IntN.{ℤ, ◌+ℤ◌}
use mir.Syntax.{w64}
use mir.Val.{to_z, of_z, SFits}
use mir.Facts.{to_z-of_z}
use Rattle.swizzle.specs.declared.Swizzle.{Swizzle}
use Rattle.rules_linear.proofs.Times.{no_step, stepped}
use Rattle.copies_runs.specs.declared.LevelAndM.{LevelAndM}
use Rattle.copies_runs.proofs.Cells.{step_fits}
use Rattle.claiming_lines.specs.Lines.{Lined, level_after, m_after, line_cell, LineThere}
use Rattle.claiming_lines.proofs.Lines.{lined_none}
use Rattle.claiming_lines.proofs.Steps.{cell_found, line_more}
use Rattle.claiming_lines.proofs.claim_cells.Goals as goal

-- what the machine reads of a place
abbrev bits : LevelAndM → LevelAndM
bits p = record { level = to_z w64 (of_z w64 p.level); m = to_z w64 (of_z w64 p.m) }

place_back : (p : LevelAndM) → to_z w64 (of_z w64 p.level) ≡ p.level → to_z w64 (of_z w64 p.m) ≡ p.m → bits p ≡ p
place_back p e f = ap₂ (λ (x y : ℤ). record { level = x; m = y }) e f

there_read : {by : Swizzle} {start step : LevelAndM} {first many : ℕ} {table : List ℕ} → bits start ≡ start → bits step ≡ step → LineThere by start step first many table
    → LineThere by (bits start) (bits step) first many table
there_read {by} {start} {step} {first} {many} {table} e f there =
    subst (λ (p : LevelAndM). LineThere by p (bits step) first many table) (sym e) (subst (λ (q : LevelAndM). LineThere by start q first many table) (sym f) there)

-- a level and an m of the line go one step further
level_fits : {by : Swizzle} {start step : LevelAndM} {first many : ℕ} {table : List ℕ} → LineThere by start step first many table → (done : ℕ) → done < many → {level : ℤ}
    → level ≡ level_after start step done → SFits w64 (level +ℤ step.level)
level_fits {step = step} there done h {level} e = step_fits level step.level (rw e (there.near done h).0) there.step_near.0

m_fits : {by : Swizzle} {start step : LevelAndM} {first many : ℕ} {table : List ℕ} → LineThere by start step first many table → (done : ℕ) → done < many → {m : ℤ}
    → m ≡ m_after start step done → SFits w64 (m +ℤ step.m)
m_fits {step = step} there done h {m} e = step_fits m step.m (rw e (there.near done h).1) there.step_near.1

pub loop-done-init : goal.loop-done-init
loop-done-init c =
    let a = c.args in record {
      lined = lined_none (line_cell a.by (bits a.start) (bits a.step)) (λ j. a.first + j) a.table.now;
      level_there = no_step (bits a.start).level (bits a.step).level;
      m_there = no_step (bits a.start).m (bits a.step).m;
    }

pub cell_at-cell-requires : goal.cell_at-cell-requires
cell_at-cell-requires c =
    let a = c.args in
    let start_is = place_back a.start (to_z-of_z {w = w64} {z = a.start.level} (record { sfits = c.struct_told-4-1.given.0.1 })) (to_z-of_z {w = w64} {z = a.start.m} (record { sfits = c.struct_told-4-1.given.1.0.1 })) in
    let step_is = place_back a.step (to_z-of_z {w = w64} {z = a.step.level} (record { sfits = c.struct_told-2-1.given.0.1 })) (to_z-of_z {w = w64} {z = a.step.m} (record { sfits = c.struct_told-2-1.given.1.0.1 })) in
    let l = c.loop-done in
    let there = there_read start_is step_is c.requires in
    rw (l.invariant.level_there, l.invariant.m_there) (there.cells l.done (omega arith))

pub offset_bounds-table-cell : goal.offset_bounds-table-cell
offset_bounds-table-cell c =
    let a = c.args in
    let start_is = place_back a.start (to_z-of_z {w = w64} {z = a.start.level} (record { sfits = c.struct_told-4-1.given.0.1 })) (to_z-of_z {w = w64} {z = a.start.m} (record { sfits = c.struct_told-4-1.given.1.0.1 })) in
    let step_is = place_back a.step (to_z-of_z {w = w64} {z = a.step.level} (record { sfits = c.struct_told-2-1.given.0.1 })) (to_z-of_z {w = w64} {z = a.step.m} (record { sfits = c.struct_told-2-1.given.1.0.1 })) in
    let l = c.loop-done in
    let there = there_read start_is step_is c.requires in
    let found = cell_found a.by (bits a.start) (bits a.step) a.first l.done a.table.now l.table l.invariant.lined l.invariant.level_there l.invariant.m_there c.cell_at-cell.ensures in
    omega (arith, found, there.inside l.done (omega arith))

pub bounds-table-cell : goal.bounds-table-cell
bounds-table-cell c =
    let a = c.args in
    let start_is = place_back a.start (to_z-of_z {w = w64} {z = a.start.level} (record { sfits = c.struct_told-4-1.given.0.1 })) (to_z-of_z {w = w64} {z = a.start.m} (record { sfits = c.struct_told-4-1.given.1.0.1 })) in
    let step_is = place_back a.step (to_z-of_z {w = w64} {z = a.step.level} (record { sfits = c.struct_told-2-1.given.0.1 })) (to_z-of_z {w = w64} {z = a.step.m} (record { sfits = c.struct_told-2-1.given.1.0.1 })) in
    let l = c.loop-done in
    let there = there_read start_is step_is c.requires in
    let found = cell_found a.by (bits a.start) (bits a.step) a.first l.done a.table.now l.table l.invariant.lined l.invariant.level_there l.invariant.m_there c.cell_at-cell.ensures in
    omega (arith, found, there.inside l.done (omega arith))

pub offset_bounds-table-cell-in-loop-done : goal.offset_bounds-table-cell-in-loop-done
offset_bounds-table-cell-in-loop-done c =
    let a = c.args in
    let start_is = place_back a.start (to_z-of_z {w = w64} {z = a.start.level} (record { sfits = c.struct_told-4-1.given.0.1 })) (to_z-of_z {w = w64} {z = a.start.m} (record { sfits = c.struct_told-4-1.given.1.0.1 })) in
    let step_is = place_back a.step (to_z-of_z {w = w64} {z = a.step.level} (record { sfits = c.struct_told-2-1.given.0.1 })) (to_z-of_z {w = w64} {z = a.step.m} (record { sfits = c.struct_told-2-1.given.1.0.1 })) in
    let l = c.loop-done in
    let there = there_read start_is step_is c.requires in
    let found = cell_found a.by (bits a.start) (bits a.step) a.first l.done a.table.now l.table l.invariant.lined l.invariant.level_there l.invariant.m_there c.cell_at-cell.ensures in
    omega (arith, found, there.inside l.done (omega arith))

pub bounds-table-cell-in-loop-done : goal.bounds-table-cell-in-loop-done
bounds-table-cell-in-loop-done c =
    let a = c.args in
    let start_is = place_back a.start (to_z-of_z {w = w64} {z = a.start.level} (record { sfits = c.struct_told-4-1.given.0.1 })) (to_z-of_z {w = w64} {z = a.start.m} (record { sfits = c.struct_told-4-1.given.1.0.1 })) in
    let step_is = place_back a.step (to_z-of_z {w = w64} {z = a.step.level} (record { sfits = c.struct_told-2-1.given.0.1 })) (to_z-of_z {w = w64} {z = a.step.m} (record { sfits = c.struct_told-2-1.given.1.0.1 })) in
    let l = c.loop-done in
    let there = there_read start_is step_is c.requires in
    let found = cell_found a.by (bits a.start) (bits a.step) a.first l.done a.table.now l.table l.invariant.lined l.invariant.level_there l.invariant.m_there c.cell_at-cell.ensures in
    omega (arith, found, there.inside l.done (omega arith))

pub overflow_add-level : goal.overflow_add-level
overflow_add-level c =
    let a = c.args in
    let start_is = place_back a.start (to_z-of_z {w = w64} {z = a.start.level} (record { sfits = c.struct_told-4-1.given.0.1 })) (to_z-of_z {w = w64} {z = a.start.m} (record { sfits = c.struct_told-4-1.given.1.0.1 })) in
    let step_is = place_back a.step (to_z-of_z {w = w64} {z = a.step.level} (record { sfits = c.struct_told-2-1.given.0.1 })) (to_z-of_z {w = w64} {z = a.step.m} (record { sfits = c.struct_told-2-1.given.1.0.1 })) in
    let l = c.loop-done in
    let there = there_read start_is step_is c.requires in
    level_fits there l.done (omega arith) l.invariant.level_there

pub overflow_add-m : goal.overflow_add-m
overflow_add-m c =
    let a = c.args in
    let start_is = place_back a.start (to_z-of_z {w = w64} {z = a.start.level} (record { sfits = c.struct_told-4-1.given.0.1 })) (to_z-of_z {w = w64} {z = a.start.m} (record { sfits = c.struct_told-4-1.given.1.0.1 })) in
    let step_is = place_back a.step (to_z-of_z {w = w64} {z = a.step.level} (record { sfits = c.struct_told-2-1.given.0.1 })) (to_z-of_z {w = w64} {z = a.step.m} (record { sfits = c.struct_told-2-1.given.1.0.1 })) in
    let l = c.loop-done in
    let there = there_read start_is step_is c.requires in
    m_fits there l.done (omega arith) l.invariant.m_there

pub loop-done-preserved : goal.loop-done-preserved
loop-done-preserved c =
    let a = c.args in
    let start_is = place_back a.start (to_z-of_z {w = w64} {z = a.start.level} (record { sfits = c.struct_told-4-1.given.0.1 })) (to_z-of_z {w = w64} {z = a.start.m} (record { sfits = c.struct_told-4-1.given.1.0.1 })) in
    let step_is = place_back a.step (to_z-of_z {w = w64} {z = a.step.level} (record { sfits = c.struct_told-2-1.given.0.1 })) (to_z-of_z {w = w64} {z = a.step.m} (record { sfits = c.struct_told-2-1.given.1.0.1 })) in
    let l = c.loop-done in
    let there = there_read start_is step_is c.requires in
    let found = cell_found a.by (bits a.start) (bits a.step) a.first l.done a.table.now l.table l.invariant.lined l.invariant.level_there l.invariant.m_there c.cell_at-cell.ensures in
    let here : c.cell_at-cell.result.0 < length l.table = omega (arith, found, there.inside l.done (omega arith)) in record {
      lined = line_more a.by (bits a.start) (bits a.step) a.first l.done a.table.now l.table l.invariant.lined found (omega arith) here (omega arith);
      level_there = to_z-of_z (level_fits there l.done (omega arith) l.invariant.level_there) ∙ stepped (bits a.start).level (bits a.step).level (to_z w64 l.level-bits) l.done l.invariant.level_there;
      m_there = to_z-of_z (m_fits there l.done (omega arith) l.invariant.m_there) ∙ stepped (bits a.start).m (bits a.step).m (to_z w64 l.m-bits) l.done l.invariant.m_there;
    }

pub returns : goal.returns
returns c e =
    let a = c.args in
    let start_is = place_back a.start (to_z-of_z {w = w64} {z = a.start.level} (record { sfits = c.struct_told-4-1.given.0.1 })) (to_z-of_z {w = w64} {z = a.start.m} (record { sfits = c.struct_told-4-1.given.1.0.1 })) in
    let step_is = place_back a.step (to_z-of_z {w = w64} {z = a.step.level} (record { sfits = c.struct_told-2-1.given.0.1 })) (to_z-of_z {w = w64} {z = a.step.m} (record { sfits = c.struct_told-2-1.given.1.0.1 })) in
    let l = c.loop-done in
    let end : l.done ≡ a.many = omega arith in
    subst (λ (p : LevelAndM). Lined (line_cell a.by p a.step) (λ j. a.first + j) a.many a.table.now l.table) start_is
    (subst (λ (p : LevelAndM). Lined (line_cell a.by (bits a.start) p) (λ j. a.first + j) a.many a.table.now l.table) step_is
    (subst (λ (n : ℕ). Lined (line_cell a.by (bits a.start) (bits a.step)) (λ j. a.first + j) n a.table.now l.table) end l.invariant.lined))
