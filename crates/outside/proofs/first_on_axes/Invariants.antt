-- The number so far is the smallest of those on the axes passed.
use Rattle.card.specs.Packed.{card_of}
use Rattle.outside.specs.Outside.{FirstWord}
use Rattle.outside.proofs.first_on_axes.Given as goal

abbrev pub invariant-loop-axis : goal.invariant-loop-axis
invariant-loop-axis l = FirstWord (card_of l.numbers l.strides) l.axis l.word
