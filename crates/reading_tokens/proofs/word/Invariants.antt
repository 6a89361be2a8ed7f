-- `reading_tokens::word` runs over the letters that are owed: the invariant is the run up to the place, and each letter carries it one on.
use Rattle.reading_tokens.specs.Run.{WordRun}
use Rattle.reading_tokens.proofs.word.Given as goal

abbrev pub invariant-loop-i : goal.invariant-loop-i
invariant-loop-i l = WordRun l.text l.fn.from l.fn.owed l.i l.o
