-- `dealing_moves::double_source` is the definition: the branch taken is the one that the test picks.
use Rattle.dealing_moves.proofs.double_source.Statement.{statement}
use Rattle.dealing_moves.proofs.double_source.Tie as tie

pub double_source_spec : {M : Type 1} → statement M
double_source_spec = tie.close (tie.spec (λ c. rw c.if-i-registers.true) (λ c. rw c.if-i-registers.false))
