-- `canonical_build::refuse` has a card of zeros.
use borrow.Author.Rules.{rules}
use Rattle.canonical_build.proofs.refuse.Statement.{statement}
use Rattle.canonical_build.proofs.refuse.Tie as tie

pub refuse_spec : {M : Type 1} → statement M
refuse_spec = tie.close (tie.spec (λ c κs. search rules) (λ c. rw c.empty-none.ensures))
