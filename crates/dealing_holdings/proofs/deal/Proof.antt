-- `dealing_holdings::deal` fills or leaves as given, as the answer says: dealing is that of the holdings' registers.
use mathlib.Core.Path.{sym, ◌∙◌}
use borrow.Author.Rules.{rules}
use Rattle.dealing_holdings.proofs.deal.Statement.{statement}
use Rattle.dealing_holdings.proofs.deal.Tie as tie

returns : tie.Need-returns-in-Ok
returns c =
    rw (
      sym c.judge_dealing.ensures ∙ c.in-Ok.is,
      sym c.lanes_of-given.ensures,
      sym c.dealt_lanes-lanes.ensures,
    ) c.with_lanes.ensures

pub deal_spec : {M : Type 1} → statement M
deal_spec =
    tie.close
    (tie.spec (λ c κs. search rules) (λ c. search rules) (λ c κs. search rules) (λ c κs. search rules) (λ c κs. search rules) (λ c. search rules)
    returns (λ c. rw (sym c.judge_dealing.ensures ∙ c.in-Err.is)))
