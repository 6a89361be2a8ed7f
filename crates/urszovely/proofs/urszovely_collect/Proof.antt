-- `urszovely::urszovely_collect` answers what the library's question answers, over the values that the arrays hold; refused it stores nothing.
use mathlib.Core.Path.{refl, sym, ap, ◌∙◌}
use mathlib.Core.List.{List}
use native.Mathlib.Omega.{arith}
use borrow.Author.Rules.{rules}
use Rattle.c_bits.specs.declared.Bits.{Bits}
use Rattle.c_bits.specs.declared.Bits.TheVariants.{Empty}
use Rattle.values.specs.Values.{collected}
use Rattle.values.specs.Registers.{moved_numbers, collect_answer}
use Rattle.c_bits.specs.Bits.{rows_from, empties, registers_held}
use Rattle.c_bits.proofs.Empties.{collected_into_empties}
use Rattle.c_card.specs.Card.{four}
use Rattle.urszovely.proofs.Left.{untouched, stored}
use Rattle.urszovely.proofs.urszovely_collect.Statement.{statement}
use Rattle.urszovely.proofs.urszovely_collect.Tie as tie

returns : tie.Need-returns-in_default
returns c =
    let f = c in
    let m = f in
    let j = m in
    let a = j.args in
    let told = j.judge_collecting-told.ensures in (
      f.four.ensures ∙ ap four (m.in_numbers-numbers.ensures ∙ ap moved_numbers told),
      untouched 8 a.sorts.now a.singles.now a.doubles.now _ _ _ (sym told ∙ c.in_default.is),
    )

returns_2 : tie.Need-returns
returns_2 c =
    let e = c in
    let f = e in
    let m = f in
    let j = m in
    let a = j.args in
    let lanes : List (List Bits) = rows_from 32 a.lane_sorts.now a.lane_singles.now a.lane_doubles.now in
    let told = j.judge_collecting-told.ensures in (
      f.four.ensures ∙ ap four (m.in_numbers-numbers.ensures ∙ ap moved_numbers told),
      stored 8 a.sorts.now a.singles.now a.doubles.now (omega (arith, c.collect-arg-4-1.given)) (omega (arith, c.collect-arg-5-1.given)) (omega (arith, c.collect-arg-6-1.given)) _ (collected Empty a.kind a.computation lanes (empties 8)) _ refl
          (collected_into_empties a.kind a.computation a.sorts.now a.singles.now a.doubles.now (collect_answer a.kind a.computation (registers_held lanes)) lanes
          (sym told ∙ e.in-Ok.is)) _ _ _ c.collect.ensures,
    )

pub urszovely_collect_spec : {M : Type 1} → statement M
urszovely_collect_spec =
    tie.close
    (tie.spec (λ c κs. search rules) (λ c κs. search rules) (λ c κs. search rules) (λ c. search rules) (λ c. search rules) returns (λ c κs. (search rules, search rules)) returns_2)
