-- `claiming_lines::is_free` says yes only where every cell of the stretch is nobody's: with the loop's index in the place of the length, all cells so far are.
use Rattle.claiming_lines.proofs.Steps.{free_more}
use Rattle.claiming_lines.proofs.is_free.Goals as goal

pub loop-k-preserved : goal.loop-k-preserved
loop-k-preserved c = free_more c.args.table.now c.args.from c.loop-k.k c.loop-k.free c.loop-k.invariant
