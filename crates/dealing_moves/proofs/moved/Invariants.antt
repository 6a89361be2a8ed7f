-- The rows before this one are made anew, by any rule that the source keeps to.
use Rattle.std.proofs.Common.{◌≡◌, ℕ, ◌<◌}
use Rattle.values.specs.declared.Register.{Register}
use Rattle.values.specs.declared.Register.TheVariants.{Empty}
use Rattle.values.specs.Rows.{each}
use Rattle.values.proofs.Rows.{Anew}
use Rattle.dealing_moves.specs.Moves.{from_rows}
use Rattle.dealing_moves.proofs.moved.Given as goal

abbrev pub invariant-loop-row : goal.invariant-loop-row
invariant-loop-row g l =
    (rule : ℕ → ℕ → Register → Register)
    → ((row k s : ℕ) (x : Register) → row < g.row.M → k < 8 → goal.F-post g l.source row k s → rule row k x ≡ from_rows Empty g.row.N l.rows x s)
    → Anew g.row.M (λ row. each (rule row)) l.fn.given l.moved l.row-counter
