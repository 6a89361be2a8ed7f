-- `mma::held_by` climbs the definition's ladder: no such kind, no such register of its form, else what the form's digits say.
use Rattle.std.specs.Prelude.{Err, Ok}
use mathlib.Core.Path.{◌≡◌, sym, ap, ◌∙◌}
use mathlib.Core.Bool.{true, false}
use borrow.Author.Rules.{rules}
use borrow.Author.Tests.{not-true, not-false}
use Rattle.mma_kinds.specs.Mma.{is_kind}
use Rattle.mma.specs.Clauses.{form_slot}
use Rattle.mma.proofs.Laws.{held_no_kind, held_no_slot, held_there, slot_small}
use Rattle.mma.proofs.held_by.Statement.{statement}
use Rattle.mma.proofs.held_by.Tie as tie

returns : tie.Need-returns-then-not-is_kind
returns c =
    let a = c.args in
    ap Err c.outside.ensures
    ∙ sym (held_no_kind a.kind a.warp a.lane a.register (sym c.is_kind.ensures ∙ c.if-not-is_kind.true))

there : (c : tie.Else-not-is_slot) → form_slot c.form-f.result c.args.warp c.args.lane c.args.register ≡ true
there c = sym c.is_slot.ensures ∙ c.if-not-is_slot.false

returns_2 : tie.Need-returns-then-not-is_slot
returns_2 c =
    let a = c.args in
    ap Err c.outside-then-not-is_slot.ensures
    ∙ sym (held_no_slot a.kind _ c.form-f.ensures.0 a.warp a.lane a.register (sym c.is_slot.ensures ∙ c.if-not-is_slot.true))

place_held_requires : tie.Need-place_held-requires
place_held_requires c κs =
    let a = c.args in
    let s = c.form-f.ensures.1 in
    (s, slot_small c.form-f.result s a.warp a.lane a.register (there c))

returns_3 : tie.Need-returns
returns_3 c =
    let a = c.args in
    ap Ok c.place_held.ensures
    ∙ sym (held_there a.kind _ c.form-f.ensures.0 a.warp a.lane a.register (there c.before))

pub held_by_spec : {M : Type 1} → statement M
held_by_spec =
    tie.close
    (tie.spec (λ c κs. search rules) (λ c κs. search rules) returns (λ c κs. sym c.is_kind.ensures ∙ c.if-not-is_kind.false) (λ c κs. search rules)
    (λ c κs. search rules) returns_2 place_held_requires returns_3)
