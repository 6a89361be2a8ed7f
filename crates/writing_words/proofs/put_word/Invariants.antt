-- `writing_words::put_word` puts one byte of the word a turn.
use Rattle.std.proofs.Common.{◌≡◌, ◌+◌, ◌≤◌}
use Rattle.std.proofs.Math.Seq.{slice}
use Rattle.writing_words.specs.Out.{wrote, words}
use Rattle.writing_words.proofs.put_word.Given as goal

abbrev pub invariant-loop-k : goal.invariant-loop-k
invariant-loop-k l = (l.written ≡ wrote l.fn.out (slice l.from l.k words)) × (l.written.length + l.from ≤ l.fn.out.length + l.k)
