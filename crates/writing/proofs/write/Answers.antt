-- `writing::write` refuses by checks 1 to 3 on the packed card, then by the length of its text; else the text is copied.
use Rattle.std.proofs.Common.{rules, arith, ◌≡◌, refl, sym, ap, ◌∙◌, ℕ, ◌≤◌, ◌<◌, List, ◌++◌, length, take, drop}
use Rattle.std.proofs.lemmas.Result.{err_from_is_err_and}
use borrow.Author.Tests.{lt-ltb, le-ltb}
use Rattle.answers.specs.Refusals.{no_refusal}
use Rattle.card.specs.Admission.{field_checks}
use Rattle.card.specs.declared.Card.{Card}
use Rattle.notation.specs.Writing.{text_of}
use Rattle.writing.proofs.Laws.{text_length, text_taken}
use Rattle.writing.proofs.write.Goals as goal

pub returns-in_err-check_fields : goal.returns-in_err-check_fields
returns-in_err-check_fields c =
    let p = err_from_is_err_and c.from_residual.result c.from_residual.ensures.1 in
    let checks = ap (λ (x : Card). field_checks x no_refusal) (sym c.pack-packed.ensures.same_card) ∙ sym c.check_fields.ensures in
    (rw (p.1, p.2, checks ∙ c.in_err-check_fields.was) refl, rw p.1 refl)

pub spelled-text-requires : goal.spelled-text-requires
spelled-text-requires c =
    ap (λ (x : Card). field_checks x no_refusal) (sym c.pack-packed.ensures.same_card) ∙ sym c.check_fields.ensures ∙ c.in_ok-check_fields.was

pub returns-then-bytes-needed : goal.returns-then-bytes-needed
returns-then-bytes-needed c =
    let card = c.args.card in
    let passed = ap (λ (x : Card). field_checks x no_refusal) (sym c.pack-packed.ensures.same_card) ∙ sym c.check_fields.ensures ∙ c.in_ok-check_fields.was in
    let needed : c.spelled-text.result.length ≡ length (text_of card) = ap (λ o. o.length) c.spelled-text.ensures.0 ∙ text_length (text_of card) in
    let short : length c.args.bytes.now < length (text_of card) = omega (arith, needed, c.if-bytes-needed.true) in
    (rw (passed, lt-ltb _ _ short, needed) refl, refl)

pub copy-requires : goal.copy-requires
copy-requires c = (omega (arith, c.if-bytes-needed.false), omega (arith, c.spelled-text.ensures.1))

pub returns : goal.returns
returns c =
    let card = c.args.card in
    let t = text_of card in
    let passed = ap (λ (x : Card). field_checks x no_refusal) (sym c.pack-packed.ensures.same_card) ∙ sym c.check_fields.ensures ∙ c.in_ok-check_fields.was in
    let needed : c.spelled-text.result.length ≡ length t = ap (λ o. o.length) c.spelled-text.ensures.0 ∙ text_length t in
    let fits : length t ≤ length c.args.bytes.now = omega (arith, needed, c.if-bytes-needed.false) in
    let taken : take c.spelled-text.result.length c.spelled-text.result.bytes ≡ t =
    ap (λ o. take o.length o.bytes) c.spelled-text.ensures.0 ∙ text_taken t (omega (arith, needed, c.spelled-text.ensures.1)) in
    (rw (passed, le-ltb _ _ fits, needed) refl, c.copy.ensures ∙ ap (λ (l : List ℕ). l ++ drop c.spelled-text.result.length c.args.bytes.now) taken)
