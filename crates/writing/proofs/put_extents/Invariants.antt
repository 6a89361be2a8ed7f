-- `writing::put_extents` puts one extent a turn, with a comma before all but the first.
use Rattle.std.proofs.Common.{◌≡◌, ◌+◌, ◌*◌, ◌≤◌, map, take}
use Rattle.card.specs.Card.{extent_of}
use Rattle.notation.specs.Quoted.{quoted_bytes}
use Rattle.notation.specs.Text.{decimal, joined}
use Rattle.writing_words.specs.Out.{wrote}
use Rattle.writing.proofs.put_extents.Given as goal

abbrev pub invariant-loop-k : goal.invariant-loop-k
invariant-loop-k l =
    (l.written ≡ wrote l.fn.out (joined (quoted_bytes ",") (map decimal (map extent_of (take l.k l.at))))) × (l.written.length ≤ l.fn.out.length + 6 * l.k)
