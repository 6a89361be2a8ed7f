-- The first k offsets are there.
use Rattle.std.proofs.Common.{◌≡◌, take}
use Rattle.std.proofs.lemmas.List.Edits.{sets}
use Rattle.c_card.specs.Card.{eight}
use Rattle.c_layout.proofs.Laws.{written, of_offset}
use Rattle.c_layout.proofs.put_offset.Given as goal

abbrev pub invariant-loop-k : goal.invariant-loop-k
invariant-loop-k l = l.card ≡ sets l.fn.card 38 (written (of_offset l.offset) (take l.k eight))
