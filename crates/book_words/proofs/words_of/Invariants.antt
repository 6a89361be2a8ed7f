-- `book_words::words_of` makes one word a turn.
use Rattle.std.proofs.Common.{◌≡◌, ℕ, ◌<◌, get_or}
use Rattle.book_words.specs.Words.{word_of}
use Rattle.book_words.proofs.words_of.Given as goal

abbrev pub invariant-loop-i : goal.invariant-loop-i
invariant-loop-i l = (j : ℕ) → j < l.i → get_or l.place-items j 0 ≡ word_of l.card l.noted j
