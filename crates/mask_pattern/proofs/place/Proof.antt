-- `mask_pattern::place` is the place in the period: clear columns first is the pattern from its clear run on.
use borrow.Author.Rules.{rules}
use Rattle.mask_pattern.proofs.Runs.{placed_set, placed_clear}
use Rattle.mask_pattern.proofs.place.Statement.{statement}
use Rattle.mask_pattern.proofs.place.Tie as tie

pub place_spec : {M : Type 1} → statement M
place_spec =
    tie.close
    (tie.spec (λ c. search rules) (λ c. search rules) (λ c. search rules) (λ c. search rules) (λ c. search rules) (λ c. search rules)
    (λ c. search rules) (λ c. search rules) (λ c. search rules) (λ c. search rules)
    (λ c. rw c.if-first.true (placed_set c.args.skip c.args.used c.args.q))
    (λ c. rw c.if-first.false (placed_clear c.args.skip c.args.used c.args.q)))
