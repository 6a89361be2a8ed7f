-- `writing::put_strides` puts one stride a turn, with a comma before all but the first.
use Rattle.std.proofs.Common.{◌≡◌, ◌+◌, ◌*◌, ◌≤◌, map, take}
use Rattle.notation.specs.Quoted.{quoted_bytes}
use Rattle.notation.specs.Text.{spell_step, joined}
use Rattle.notation.specs.Writing.{steps_for}
use Rattle.writing_words.specs.Out.{wrote}
use Rattle.writing.proofs.put_strides.Given as goal

abbrev pub invariant-loop-k : goal.invariant-loop-k
invariant-loop-k l =
    (l.written ≡ wrote l.fn.out (joined (quoted_bytes ",") (map spell_step (steps_for (take l.k l.marks) (take l.k l.at))))) × (l.written.length ≤ l.fn.out.length + 15 * l.k)
