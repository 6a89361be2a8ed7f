-- After the count the numbers of the first k iters are there.
use Rattle.std.proofs.Common.{◌≡◌, ◌+◌, set, take}
use Rattle.std.proofs.lemmas.List.Edits.{sets}
use Rattle.c_card.specs.Card.{eight}
use Rattle.c_layout.proofs.Laws.{written, of_iter}
use Rattle.c_layout.proofs.put_iters.Given as goal

abbrev pub invariant-loop-k : goal.invariant-loop-k
invariant-loop-k l = l.card ≡ sets (set l.fn.card l.from l.count) (l.from + 1) (written (of_iter l.at) (take l.k eight))
