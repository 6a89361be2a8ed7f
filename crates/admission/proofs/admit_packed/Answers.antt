-- `admission::admit_packed` is the ladder of checks after the fields': the tests that led to each return are the definition's own.
use Rattle.std.proofs.Common.{sym, ◌∙◌}
use Rattle.std.proofs.lemmas.Result.{err_from_is_err_and}
use Rattle.card.specs.Admission.{admission}
use Rattle.card.specs.Packed.{card_of}
use Rattle.card.proofs.Admitted.{fields_refused, fields_passed}
use Rattle.admission.proofs.admit_packed.Goals as goal

pub returns-in_err-check_fields : goal.returns-in_err-check_fields
unfolding admission
returns-in_err-check_fields c =
    let p = err_from_is_err_and c.from_residual.result c.from_residual.ensures.1 in
    rw (p.1, p.2) (sym (fields_refused (card_of c.args.numbers.now c.args.strides.now) _ (sym c.check_fields.ensures ∙ c.in_err-check_fields.was)))

pub returns-then-not-lengths_fit : goal.returns-then-not-lengths_fit
unfolding admission
returns-then-not-lengths_fit c =
    let a = c.args in
    rw (
      fields_passed (card_of a.numbers.now a.strides.now) _ (sym c.check_fields.ensures ∙ c.in_ok-check_fields.was),
      sym (c.lengths_fit.ensures a.strides.now c.requires) ∙ c.if-not-lengths_fit.true,
    )

pub returns-then-not-few_enough : goal.returns-then-not-few_enough
unfolding admission
returns-then-not-few_enough c =
    let a = c.args in
    rw (
      fields_passed (card_of a.numbers.now a.strides.now) _ (sym c.check_fields.ensures ∙ c.in_ok-check_fields.was),
      sym (c.lengths_fit.ensures a.strides.now c.requires) ∙ c.if-not-lengths_fit.false,
      sym (c.few_enough.ensures a.strides.now c.requires) ∙ c.if-not-few_enough.true,
    )

pub returns-then-not-is_permitted : goal.returns-then-not-is_permitted
unfolding admission
returns-then-not-is_permitted c =
    let a = c.args in
    rw (
      fields_passed (card_of a.numbers.now a.strides.now) _ (sym c.check_fields.ensures ∙ c.in_ok-check_fields.was),
      sym (c.lengths_fit.ensures a.strides.now c.requires) ∙ c.if-not-lengths_fit.false,
      sym (c.few_enough.ensures a.strides.now c.requires) ∙ c.if-not-few_enough.false,
      sym c.is_permitted.ensures ∙ c.if-not-is_permitted.true,
    )

pub returns : goal.returns
unfolding admission
returns c =
    let a = c.args in
    rw (
      fields_passed (card_of a.numbers.now a.strides.now) _ (sym c.check_fields.ensures ∙ c.in_ok-check_fields.was),
      sym (c.lengths_fit.ensures a.strides.now c.requires) ∙ c.if-not-lengths_fit.false,
      sym (c.few_enough.ensures a.strides.now c.requires) ∙ c.if-not-few_enough.false,
      sym c.is_permitted.ensures ∙ c.if-not-is_permitted.false,
    )
