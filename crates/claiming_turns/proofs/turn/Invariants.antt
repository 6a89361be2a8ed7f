-- Digits and place agree, and what the digits lack of the next index is one step of the digit that comes next.
use Rattle.std.proofs.Common.{◌≡◌, ◌+◌, length}
use Rattle.claiming_turns.specs.Turns.{shard_iters, index_of, size_from, DigitsAt}
use Rattle.claiming_turns.proofs.turn.Given as goal

abbrev pub invariant-loop-k : goal.invariant-loop-k
invariant-loop-k l =
    let iters = shard_iters l.numbers l.strides in
    record {
      whole : length l.digits ≡ 8;
      there : DigitsAt l.numbers l.strides l.digits (record { level = l.level; m = l.m });
      index : index_of iters l.digits + size_from l.k iters ≡ index_of iters l.fn.digits + size_from l.fn.from iters;
    }
