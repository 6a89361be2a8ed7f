-- `mma::layout_of` climbs the definition's ladder: no such kind, else the card of its form.
use mathlib.Core.Path.{◌≡◌, sym, ap, ◌∙◌}
use mathlib.Core.Bool.{true, false}
use borrow.Author.Rules.{rules}
use borrow.Author.Tests.{not-true, not-false}
use Rattle.mma.proofs.Laws.{card_of_form}
use Rattle.mma.proofs.layout_of.Statement.{statement}
use Rattle.mma.proofs.layout_of.Tie as tie

returns : tie.Need-returns-then-not-is_kind
returns c =
    rw (sym c.is_kind.ensures ∙ c.if-not-is_kind.true, c.zeros-card.ensures, c.outside.ensures)

returns_2 : tie.Need-returns
returns_2 c =
    let k = c.args.kind in
    rw (sym c.is_kind.ensures ∙ c.if-not-is_kind.false, c.card-card.ensures ∙ card_of_form k c.form-f.result c.form-f.ensures.0 c.registers.result c.registers.ensures.0)

pub layout_of_spec : {M : Type 1} → statement M
layout_of_spec =
    tie.close
    (tie.spec (λ c κs. search rules) (λ c κs. search rules) (λ c κs. search rules) returns
    (λ c κs. sym c.is_kind.ensures ∙ c.if-not-is_kind.false) (λ c κs. search rules) (λ c κs. search rules) (λ c κs. search rules) (λ c κs. search rules) returns_2)
