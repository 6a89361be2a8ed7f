-- `urszovely::urszovely_deal` answers what the library's question answers, over the values that the arrays hold; refused it stores nothing.
use mathlib.Core.Path.{refl, sym, ap, ◌∙◌}
use mathlib.Core.List.{List}
use native.Mathlib.Omega.{arith}
use borrow.Author.Rules.{rules}
use Rattle.c_bits.specs.declared.Bits.{Bits}
use Rattle.c_bits.specs.declared.Bits.TheVariants.{Empty}
use Rattle.values.specs.Values.{dealt}
use Rattle.values.specs.Registers.{moved_numbers}
use Rattle.c_bits.specs.Bits.{rows_from, empties, registers_held}
use Rattle.c_bits.proofs.Empties.{dealt_to_empties}
use Rattle.c_registers_judged.proofs.Wrong.{dealt_kind}
use Rattle.c_card.specs.Card.{four}
use Rattle.urszovely.proofs.Left.{untouched, stored}
use Rattle.urszovely.proofs.urszovely_deal.Statement.{statement}
use Rattle.urszovely.proofs.urszovely_deal.Tie as tie

returns : tie.Need-returns-in_default
returns c =
    let f = c in
    let m = f in
    let j = m in
    let a = j.args in
    let told = j.judge_dealing-told.ensures in (
      f.four.ensures ∙ ap four (m.in_numbers-numbers.ensures ∙ ap moved_numbers told),
      untouched 32 a.sorts.now a.singles.now a.doubles.now _ _ _ (sym told ∙ c.in_default.is),
    )

deal_requires : tie.Need-deal-requires
deal_requires c κs =
    let e = c in
    let j = e in
    let a = j.args in
    let tile : List (List Bits) = rows_from 8 a.tile_sorts.now a.tile_singles.now a.tile_doubles.now in
    (dealt_kind a.kind a.computation (registers_held tile) (sym j.judge_dealing-told.ensures ∙ e.in-Ok.is), (search rules, search rules))

returns_2 : tie.Need-returns
returns_2 c =
    let e = c in
    let f = e in
    let m = f in
    let j = m in
    let a = j.args in
    let tile : List (List Bits) = rows_from 8 a.tile_sorts.now a.tile_singles.now a.tile_doubles.now in
    let told = j.judge_dealing-told.ensures in (
      f.four.ensures ∙ ap four (m.in_numbers-numbers.ensures ∙ ap moved_numbers told),
      stored 32 a.sorts.now a.singles.now a.doubles.now (omega (arith, c.deal-arg-4-1.given)) (omega (arith, c.deal-arg-5-1.given)) (omega (arith, c.deal-arg-6-1.given)) _ (dealt Empty a.kind a.computation tile (empties 32)) _ refl
          (dealt_to_empties a.kind a.computation a.sorts.now a.singles.now a.doubles.now tile (sym told ∙ e.in-Ok.is)) _ _ _ c.deal.ensures,
    )

pub urszovely_deal_spec : {M : Type 1} → statement M
urszovely_deal_spec =
    tie.close
    (tie.spec (λ c κs. search rules) (λ c κs. search rules) (λ c κs. search rules) (λ c. search rules) (λ c. search rules) returns deal_requires returns_2)
