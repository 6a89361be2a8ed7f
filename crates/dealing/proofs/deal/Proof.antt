-- `dealing::deal` fills or leaves as given, as the answer says.
use mathlib.Core.Path.{sym, ◌∙◌}
use borrow.Author.Rules.{rules}
use Rattle.dealing.proofs.deal.Statement.{statement}
use Rattle.dealing.proofs.deal.Tie as tie

filled : tie.Need-returns-in-Ok
filled c = rw (sym c.judge_dealing.ensures ∙ c.in-Ok.is) c.dealt_lanes.ensures

as_given : tie.Need-returns-in-Err
as_given c = rw (sym c.judge_dealing.ensures ∙ c.in-Err.is)

pub deal_spec : {M : Type 1} → statement M
deal_spec = tie.close (tie.spec (λ c κs. search rules) (λ c. search rules) (λ c κs. search rules) (λ c. search rules) filled as_given)
