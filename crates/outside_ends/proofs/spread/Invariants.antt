-- The iters from k on are passed: at both far ends the sums have what these add there.
use Rattle.std.proofs.Common.{◌+◌, true, false, get_or}
use mathlib.Core.List.{map}
use Rattle.card.specs.Lists.{slots}
use Rattle.card.specs.Packed.{iter_at}
use Rattle.outside_reach.proofs.Reach.{Spread}
use Rattle.outside_ends.proofs.spread.Given as goal

abbrev pub invariant-loop-k : goal.invariant-loop-k
invariant-loop-k l =
    let at = map (iter_at l.numbers l.strides l.list) slots in
    let count = get_or l.numbers (40 + l.list) 0 in
    record {
      down : Spread false at count l.fn.low l.k l.low;
      up : Spread true at count l.fn.high l.k l.high;
    }
