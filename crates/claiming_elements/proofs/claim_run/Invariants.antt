-- The table is that of the smaller elements, with those claimed, and level and m are so many steps from where the run began.
use Rattle.std.proofs.Common.{◌≡◌, ◌+◌}
use lib.IntN.{pos, ◌+ℤ◌, ◌*ℤ◌}
use Rattle.card.specs.Card.{cells}
use Rattle.card.specs.Packed.{card_of}
use Rattle.claims.specs.Claims.{OwnedTable, occupied}
use Rattle.judgement.specs.Judgement.{placed}
use Rattle.claiming_elements.proofs.claim_run.Given as goal

abbrev pub invariant-loop-done : goal.invariant-loop-done
invariant-loop-done l =
    let card = card_of l.numbers l.strides in
    record {
      owned : OwnedTable (placed card) (l.first + l.done) (cells card) l.table (occupied l.fn.table + l.cells);
      level_there : l.level ≡ l.initial.level +ℤ pos l.done *ℤ l.level_step;
      m_there : l.m ≡ l.initial.m +ℤ pos l.done *ℤ l.m_step;
    }
