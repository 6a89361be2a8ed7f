-- The components of the definition are numbered up to here, and of what was spare no more than that is left.
use Rattle.std.proofs.Common.{◌+◌, ◌≤◌, ℕ, List, get_or}
use mathlib.Core.List.{map}
use lib.IntN.{ℤ}
use lib.Seq.{slice}
use Rattle.card.specs.Lists.{slots}
use Rattle.card.specs.Card.{extent_of}
use Rattle.card.specs.Packed.{iter_at}
use Rattle.card.specs.declared.Iter.{Iter}
use Rattle.copies.proofs.Numbering.{Numbering}
use Rattle.rules_linear.specs.Reaching.{first_within}
use Rattle.outside_axis.proofs.first_within.Given as goal

-- the iters that are left from one on
abbrev pub later : List ℕ → List ℤ → ℕ → ℕ → List Iter
later numbers strides list i = slice i (get_or numbers (40 + list) 0) (map (iter_at numbers strides list) slots)

abbrev pub invariant-loop-k : goal.invariant-loop-k
invariant-loop-k l =
    let all = later l.numbers l.strides l.list 0 in
    let rest = later l.numbers l.strides l.list l.k in
    record {
      spared : l.left ≤ l.fn.spare;
      numbering : Numbering (map extent_of all) (first_within l.upwards l.axis l.fn.spare all) (map extent_of rest) (first_within l.upwards l.axis l.left rest) l.k l.index;
    }
