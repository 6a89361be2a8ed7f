-- The iters from k on are passed: the sums have what these add, and the rest is the index divided by their extents.
use Rattle.std.proofs.Common.{◌+◌, get_or}
use mathlib.Core.List.{map}
use Rattle.card.specs.Lists.{slots}
use Rattle.card.specs.Packed.{iter_at}
use Rattle.rules.proofs.Along.{Walking}
use Rattle.copies_sums.proofs.walk.Given as goal

abbrev pub invariant-loop-k : goal.invariant-loop-k
invariant-loop-k l = Walking (map (iter_at l.numbers l.strides l.list) slots) (get_or l.numbers (40 + l.list) 0) l.fn.index l.fn.sums l.k l.rest l.sums
