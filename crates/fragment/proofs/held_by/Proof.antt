-- `fragment::held_by` is the answer to any numbers: the branch taken is the one that `is_slot` picks.
use Rattle.std.specs.Prelude.{Ok, Err}
use mathlib.Core.Path.{sym, ap, ◌∙◌}
use Rattle.fragment.proofs.held_by.Statement.{statement}
use Rattle.fragment.proofs.held_by.Tie as tie

place_held_requires : tie.Need-place_held-requires
place_held_requires c κs = sym c.is_slot.ensures ∙ c.if-is_slot.true

pub held_by_spec : {M : Type 1} → statement M
held_by_spec =
    tie.close
    (tie.spec (λ c κs. tt) place_held_requires (λ c κs. tt) (λ c. rw (place_held_requires c.before _) (ap Ok c.place_held.ensures))
    (λ c. rw (sym c.is_slot.ensures ∙ c.if-is_slot.false) (ap Err c.outside.ensures)))
