-- `dealing::collect` fills or leaves as given, as the answer says.
use mathlib.Core.Path.{sym, ◌∙◌}
use borrow.Author.Rules.{rules}
use Rattle.dealing.proofs.collect.Statement.{statement}
use Rattle.dealing.proofs.collect.Tie as tie

returns : tie.Need-returns-in-Ok
returns c = rw (sym c.judge_collecting.ensures ∙ c.in-Ok.is) c.collected_tile.ensures

pub collect_spec : {M : Type 1} → statement M
collect_spec =
    tie.close
    (tie.spec (λ c κs. search rules) (λ c. search rules) (λ c κs. search rules) (λ c. search rules)
    returns (λ c. rw (sym c.judge_collecting.ensures ∙ c.in-Err.is)))
