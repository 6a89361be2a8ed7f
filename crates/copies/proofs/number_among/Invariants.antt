-- The coordinates passed are below their sizes, and the number so far is theirs.
use Rattle.std.proofs.Common.{◌+◌, take}
use lib.Seq.{slice}
use Rattle.copies.proofs.Numbering.{Numbering}
use Rattle.copies.proofs.number_among.Given as goal

abbrev pub invariant-loop-k : goal.invariant-loop-k
invariant-loop-k l =
    Numbering (slice l.from (l.from + l.count) l.sizes) (take l.count l.coordinates) (slice (l.from + l.k) (l.from + l.count) l.sizes) (slice l.k l.count l.coordinates) l.k l.number
