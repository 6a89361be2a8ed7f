-- Each combination passed has its cell in the row, and the smallest axis outside is that of these.
use lib.Seq.{slice}
use Rattle.card.specs.Packed.{iters_of, swizzle_of}
use Rattle.rules.specs.Walked.{spot_from}
use Rattle.rules.proofs.Filling.{Filling}
use Rattle.copies.proofs.place_copies.Given as goal

abbrev pub invariant-loop-combination : goal.invariant-loop-combination
invariant-loop-combination l =
    Filling (spot_from (slice 32 40 l.numbers) (swizzle_of l.numbers) (iters_of l.numbers l.strides 1) l.base) l.fn.row l.row l.combination l.outside
