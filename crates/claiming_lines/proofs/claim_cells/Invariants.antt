-- The line is claimed so far, and level and m are so many steps from where it began.
use Rattle.std.proofs.Common.{◌≡◌, ◌+◌}
use Rattle.copies_runs.specs.declared.LevelAndM.{LevelAndM}
use Rattle.claiming_lines.specs.Lines.{Lined, level_after, m_after, line_cell}
use Rattle.claiming_lines.proofs.claim_cells.Given as goal

abbrev pub invariant-loop-done : goal.invariant-loop-done
invariant-loop-done l =
    let start : LevelAndM = record { level = l.initial.level; m = l.initial.m } in
    let step : LevelAndM = record { level = l.level_step; m = l.m_step } in
    record {
      lined : Lined (line_cell l.by start step) (λ j. l.first + j) l.done l.fn.table l.table;
      level_there : l.level ≡ level_after start step l.done;
      m_there : l.m ≡ m_after start step l.done;
    }
