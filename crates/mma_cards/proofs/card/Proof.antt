-- `mma_cards::card` has the parts of the card.
use borrow.Author.Rules.{rules}
use Rattle.mma_cards.proofs.card.Statement.{statement}
use Rattle.mma_cards.proofs.card.Tie as tie

returns : tie.Need-returns
returns c = rw (c.empty-replica.ensures, c.shard-shard.ensures)

pub card_spec : {M : Type 1} → statement M
card_spec = tie.close (tie.spec (λ c κs. search rules) (λ c κs. search rules) returns)
