-- The iters from k on have extent 1.
use Rattle.std.proofs.Common.{◌≡◌, ℕ, List, get_or}
use mathlib.Core.List.{map}
use lib.IntN.{ℤ}
use lib.Seq.{slice}
use Rattle.card.specs.Lists.{slots}
use Rattle.card.specs.Packed.{iter_at}
use Rattle.card.specs.declared.Iter.{Iter}
use Rattle.rules_linear.specs.Runs.{run_length}
use Rattle.copies_runs.proofs.run_length.Given as goal

-- the iters from k on
abbrev pub from : List ℕ → List ℤ → ℕ → List Iter
from numbers strides k = slice k (get_or numbers 40 0) (map (iter_at numbers strides 0) slots)

abbrev pub invariant-loop-k : goal.invariant-loop-k
invariant-loop-k l = (strides : List ℤ) → run_length (from l.numbers strides l.k) ≡ 1
