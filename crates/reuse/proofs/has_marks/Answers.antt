-- `reuse::has_marks` looks for a mark: where it comes to the end, no listed iter has one.
use Rattle.std.proofs.Common.{arith}
use Rattle.reuse.proofs.Walk.{none_marked}
use Rattle.reuse.proofs.has_marks.Goals as goal

pub returns : goal.returns
returns c = λ strides e. none_marked c.args.numbers.now strides c.requires (λ j h. c.loop-k.invariant j (omega arith))
