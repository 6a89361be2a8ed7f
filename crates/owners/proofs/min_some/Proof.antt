-- `owners::min_some` is the smaller of two numbers: by the four cases of none and some.
use Rattle.claims.proofs.Rows.{smaller_test}
use Rattle.owners.proofs.min_some.Statement.{statement}
use Rattle.owners.proofs.min_some.Tie as tie

pub min_some_spec : {M : Type 1} → statement M
min_some_spec =
    tie.close
    (tie.spec (λ c. rw c.if-found-best.true at (smaller_test c.args.best c.args.found))
    (λ c. rw c.if-found-best.false at (smaller_test c.args.best c.args.found)))
