-- `book_unused::are_zeros` looks at one byte a turn.
use Rattle.std.proofs.Common.{◌≡◌, true, ◌↔◌}
use Rattle.book_unused.specs.Unused.{Zeros}
use Rattle.book_unused.proofs.are_zeros.Given as goal

abbrev pub invariant-loop-i : goal.invariant-loop-i
invariant-loop-i l = (l.zero ≡ true) ↔ Zeros l.block l.from l.i
