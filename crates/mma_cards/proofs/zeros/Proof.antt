-- `mma_cards::zeros` is the card of zeros.
use borrow.Author.Rules.{rules}
use Rattle.mma_cards.proofs.zeros.Statement.{statement}
use Rattle.mma_cards.proofs.zeros.Tie as tie

pub zeros_spec : {M : Type 1} → statement M
zeros_spec = tie.close (tie.spec (λ c κs. search rules) (λ c. rw c.empty-iters.ensures))
