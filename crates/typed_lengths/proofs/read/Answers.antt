-- Each byte carries the run one on, and after the last it is the whole line's.
use Rattle.std.proofs.Common.{◌∙◌, arith}
use Rattle.typed_lengths.proofs.Run.{stands, read_whole}
use Rattle.typed_lengths.proofs.read.Goals as goal

pub loop-b-preserved : goal.loop-b-preserved
loop-b-preserved c = c.advance-r.ensures ∙ stands c.loop-b.r c.args.line.now c.loop-b.b-index (omega arith) c.loop-b.invariant

pub returns : goal.returns
returns c = rw c.conclude.ensures (read_whole c.loop-b.r c.args.line.now c.loop-b.b-index (omega arith) c.loop-b.invariant)
