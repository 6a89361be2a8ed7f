-- `book_blocks::weigh` adds one byte a turn.
use Rattle.std.proofs.Common.{◌≡◌, ◌+◌, ◌*◌, ◌≤◌, take}
use Rattle.std.proofs.Math.Seq.{slice}
use Rattle.book.specs.Block.{weighed}
use Rattle.book_blocks.proofs.weigh.Given as goal

abbrev pub invariant-loop-i : goal.invariant-loop-i
invariant-loop-i l = (l.sum + weighed l.i (slice l.i 508 l.block) ≡ weighed 0 (take 508 l.block)) × (l.sum ≤ 129540 * l.i)
