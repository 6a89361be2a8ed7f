-- `urszovely::urszovely_canonical_card` hands out the numbers of the card that is built, and its answer in four.
use mathlib.Core.Path.{ap, ◌∙◌}
use borrow.Author.Rules.{rules}
use Rattle.card.specs.Admission.{admission_numbers}
use Rattle.canonical.specs.declared.Built.{Built}
use Rattle.c_card.specs.Card.{four}
use Rattle.urszovely.specs.Canonical.{card_numbers}
use Rattle.urszovely.proofs.urszovely_canonical_card.Statement.{statement}
use Rattle.urszovely.proofs.urszovely_canonical_card.Tie as tie

returns : tie.Need-returns
returns c =
    let n = c in
    let w = n in
    let b = w in (
      w.card_numbers.ensures ∙ ap (λ (r : Built). card_numbers r.card) b.build-built.ensures,
      c.four.ensures ∙ ap four (n.in_numbers-numbers.ensures ∙ ap (λ (r : Built). admission_numbers r.answer) b.build-built.ensures),
    )

pub urszovely_canonical_card_spec : {M : Type 1} → statement M
urszovely_canonical_card_spec = tie.close (tie.spec (λ c κs. search rules) (λ c κs. search rules) (λ c κs. search rules) (λ c κs. search rules) returns)
