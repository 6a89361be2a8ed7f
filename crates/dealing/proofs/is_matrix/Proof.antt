-- `dealing::is_matrix` is the definition: the computations are those that `fragment` answers.
use borrow.Author.Rules.{rules}
use Rattle.dealing.proofs.is_matrix.Statement.{statement}
use Rattle.dealing.proofs.is_matrix.Tie as tie

pub is_matrix_spec : {M : Type 1} → statement M
is_matrix_spec = tie.close (tie.spec (λ c κs. search rules) (λ c. rw c.computations.ensures))
