-- `plans_copies::is_sought` is the test of what is looked for: each way is its case.
use mathlib.Core.Path.{refl}
use Rattle.plans_copies.proofs.is_sought.Statement.{statement}
use Rattle.plans_copies.proofs.is_sought.Tie as tie

pub is_sought_spec : {M : Type 1} → statement M
is_sought_spec = tie.close (tie.spec (λ c. rw c.if-sharing.true refl) (λ c. rw c.if-sharing.false refl))
