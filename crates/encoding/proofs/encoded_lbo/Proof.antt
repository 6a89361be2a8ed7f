-- `encoding::encoded_lbo` is the branch that the definition picks.
use mathlib.Core.Path.{sym, ◌∙◌}
use borrow.Author.Rules.{rules}
use Rattle.encoding.proofs.encoded_lbo.Statement.{statement}
use Rattle.encoding.proofs.encoded_lbo.Tie as tie

pub encoded_lbo_spec : {M : Type 1} → statement M
encoded_lbo_spec = tie.close (tie.spec (λ c κs. search rules) (λ c. rw (sym c.uses_lbo.ensures ∙ c.if-uses_lbo.true)) (λ c. rw (sym c.uses_lbo.ensures ∙ c.if-uses_lbo.false)))
