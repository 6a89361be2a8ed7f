-- The word of this turn is stored at its place.
use Rattle.std.proofs.Common.{arith}
use Rattle.book_words.specs.Words.{word_of}
use Rattle.book_words.proofs.Laws.{filled_more}
use Rattle.book_words.proofs.words_of.Goals as goal

pub loop-i-preserved : goal.loop-i-preserved
loop-i-preserved c = filled_more (word_of c.args.card c.args.noted) 0 c.loop-i.place-items c.loop-i.i c.word.result (omega arith) c.word.ensures c.loop-i.invariant
