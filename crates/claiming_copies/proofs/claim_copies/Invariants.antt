-- Of the run the copies passed are claimed, and so many cells are newly occupied.
use Rattle.std.proofs.Common.{◌≡◌, ◌+◌, ◌*◌}
use Rattle.card.specs.Packed.{card_of}
use Rattle.claims.specs.Claims.{occupied}
use Rattle.claiming_lines.specs.Lines.{Partly}
use Rattle.judgement.specs.Judgement.{placed}
use Rattle.claiming_copies.proofs.claim_copies.Given as goal

abbrev pub invariant-loop-copy : goal.invariant-loop-copy
invariant-loop-copy l =
    record {
      partly : Partly (placed (card_of l.numbers l.strides)) l.first.0 (λ j. l.first.0 + j) l.length l.copy l.table;
      newly_is : l.newly ≡ l.copy * l.length;
      counted : occupied l.table ≡ occupied l.fn.table + l.newly;
    }
