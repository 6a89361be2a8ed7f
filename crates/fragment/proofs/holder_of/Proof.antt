-- `fragment::holder_of` answers any numbers: the branch taken is the one that `is_place` picks.
use mathlib.Core.Path.{sym, ◌∙◌}
use Rattle.fragment.proofs.holder_of.Statement.{statement}
use Rattle.fragment.proofs.holder_of.Tie as tie

slot_holding_requires : tie.Need-slot_holding-requires
slot_holding_requires c κs = sym c.is_place.ensures ∙ c.if-is_place.true

pub holder_of_spec : {M : Type 1} → statement M
holder_of_spec =
    tie.close
    (tie.spec (λ c κs. tt) slot_holding_requires (λ c κs. tt) (λ c. c.slot_holding.ensures)
    (λ c. (sym c.is_place.ensures ∙ c.if-is_place.false, c.outside.ensures)))
