-- `book_blocks::fill_body` stores one byte a turn.
use Rattle.std.proofs.Common.{◌≡◌, ℕ, ◌<◌, get_or}
use Rattle.book_blocks.specs.Filled.{body_byte}
use Rattle.book_blocks.proofs.fill_body.Given as goal

abbrev pub invariant-loop-j : goal.invariant-loop-j
invariant-loop-j l = (i : ℕ) → i < l.j → get_or l.block i 0 ≡ body_byte l.words l.note i
