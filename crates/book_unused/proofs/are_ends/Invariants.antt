-- `book_unused::are_ends` looks at one slot a turn.
use Rattle.std.proofs.Common.{◌≡◌, true, ◌↔◌}
use Rattle.book_unused.specs.Unused.{SlotsEnd}
use Rattle.book_unused.proofs.are_ends.Given as goal

abbrev pub invariant-loop-k : goal.invariant-loop-k
invariant-loop-k l = (l.fine ≡ true) ↔ SlotsEnd l.block l.from l.most l.k
