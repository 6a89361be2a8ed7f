-- The entries before this one are made anew, by any rule that the source keeps to.
use Rattle.std.proofs.Common.{◌≡◌, ℕ, ◌<◌}
use Rattle.values.specs.declared.Register.{Register}
use Rattle.values.specs.declared.Register.TheVariants.{Empty}
use Rattle.values.proofs.Rows.{Anew}
use Rattle.dealing_moves.specs.Moves.{from_rows}
use Rattle.dealing_moves.proofs.moved_row.Given as goal

abbrev pub invariant-loop-k : goal.invariant-loop-k
invariant-loop-k g l =
    (rule : ℕ → Register → Register)
    → ((k s : ℕ) (x : Register) → k < 8 → goal.F-post g l.source k s → rule k x ≡ from_rows Empty g.row.N l.rows x s)
    → Anew 8 rule l.fn.given l.row l.k
