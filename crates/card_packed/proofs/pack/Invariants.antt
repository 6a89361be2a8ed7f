-- After k turns the first k entries of each of the ten columns are there.
use lib.IntN.{pos}
use Rattle.laws.proofs.Columns.{Filled}
use Rattle.card.proofs.ReadBack.{number_at, stride_at}
use Rattle.card_packed.proofs.pack.Given as goal

abbrev pub invariant-loop-k : goal.invariant-loop-k
invariant-loop-k l =
    record {
      numbers : Filled 0 (number_at l.shard.at l.replica.at l.lengths l.last l.marks) 7 l.k l.numbers;
      strides : Filled (pos 0) (stride_at l.shard.at l.replica.at l.offset) 3 l.k l.strides;
    }
