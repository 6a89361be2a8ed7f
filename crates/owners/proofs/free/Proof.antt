-- `owners::free` is what an entry leaves of one cell.
use Rattle.claims.proofs.Rows.{taken_owned}
use native.Mathlib.Omega.{arith}
use Rattle.owners.proofs.free.Statement.{statement}
use Rattle.owners.proofs.free.Tie as tie

pub free_spec : {M : Type 1} → statement M
free_spec = tie.close (tie.spec (λ c. rw c.if-entry-eq0.true) (λ c. omega (arith, taken_owned c.args.entry (omega arith))))
