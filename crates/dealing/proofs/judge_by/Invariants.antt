-- No register before this one is of the wrong sort, by any values whose sorts the test tells.
use Rattle.std.proofs.Common.{◌≡◌, ℕ, ◌<◌, ◌/◌, ◌%◌, Bool}
use Rattle.values.specs.declared.Register.{Register}
use Rattle.values.specs.Registers.{is_of_sort, is_wrong}
use Rattle.values.proofs.First.{NoneBefore}
use Rattle.dealing_moves.specs.Moves.{source_of}
use Rattle.dealing.proofs.judge_by.Given as goal

abbrev pub invariant-loop-n : goal.invariant-loop-n
invariant-loop-n g l =
    (value : ℕ → ℕ → Register)
    → ((n p : ℕ) (r : Bool) → p ≡ source_of l.kind l.computation (n / 8) (n % 8) → n < 256 → p < 64 → goal.F-post g l.is_right n p r
    → r ≡ is_of_sort l.kind (value (n / 8) (n % 8)))
    → NoneBefore (is_wrong l.kind l.computation value) l.n
