-- `urszovely::urszovely_mma_layout` hands out the numbers of the kind's card, and its answer in four.
use mathlib.Core.Path.{ap, ◌∙◌}
use borrow.Author.Rules.{rules}
use Rattle.card.specs.Admission.{admission_numbers}
use Rattle.mma_kinds.specs.declared.MmaLayout.{MmaLayout}
use Rattle.c_card.specs.Card.{four}
use Rattle.urszovely.specs.Canonical.{card_numbers}
use Rattle.urszovely.proofs.urszovely_mma_layout.Statement.{statement}
use Rattle.urszovely.proofs.urszovely_mma_layout.Tie as tie

returns : tie.Need-returns
returns c =
    let n = c in
    let w = n in
    let b = w in (
      w.card_numbers.ensures ∙ ap (λ (r : MmaLayout). card_numbers r.card) b.layout_of-layout.ensures,
      c.four.ensures ∙ ap four (n.in_numbers-numbers.ensures ∙ ap (λ (r : MmaLayout). admission_numbers r.answer) b.layout_of-layout.ensures),
    )

pub urszovely_mma_layout_spec : {M : Type 1} → statement M
urszovely_mma_layout_spec = tie.close (tie.spec (λ c κs. search rules) (λ c κs. search rules) (λ c κs. search rules) (λ c κs. search rules) returns)
