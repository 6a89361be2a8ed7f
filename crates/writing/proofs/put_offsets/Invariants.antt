-- `writing::put_offsets` puts one offset a turn, that of its axis.
use Rattle.std.proofs.Common.{◌≡◌, ◌+◌, ◌*◌, ◌≤◌, take}
use Rattle.notation.specs.Text.{spell_offsets}
use Rattle.notation.specs.Writing.{offsets_from}
use Rattle.writing_words.specs.Out.{wrote}
use Rattle.writing.proofs.put_offsets.Given as goal

abbrev pub invariant-loop-axis : goal.invariant-loop-axis
invariant-loop-axis l = (l.written ≡ wrote l.fn.out (spell_offsets (offsets_from 0 (take l.axis l.z-items)))) × (l.written.length ≤ l.fn.out.length + 15 * l.axis)
