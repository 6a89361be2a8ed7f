-- The byte of this turn leaves the sum that is still to come, and after the last none is.
use Rattle.std.proofs.Common.{◌≡◌, ℕ, ◌+◌, ◌*◌, ◌%◌, get_or, ap, arith}
use Rattle.book_blocks.proofs.Laws.{weighed_next, weighed_none, turn_small}
use Rattle.book_blocks.proofs.weigh.Goals as goal

pub loop-i-preserved : goal.loop-i-preserved
loop-i-preserved c =
    let i = c.loop-i.i in
    let block = c.args.block.now in
    let next = weighed_next block i 508 (omega arith) c.requires in
    let turn = turn_small i c.wide.result (omega arith) c.wide.ensures.1 in
    let one : (i + 1) * c.wide.result ≡ (i + 1) * get_or block i 0 = ap (λ (x : ℕ). (i + 1) * x) c.wide.ensures.0 in
    (omega arith, omega arith)

pub returns : goal.returns
returns c =
    let none = weighed_none c.args.block.now c.loop-i.i 508 (omega arith) in
    ap (λ (x : ℕ). x % 65521) (omega arith)
