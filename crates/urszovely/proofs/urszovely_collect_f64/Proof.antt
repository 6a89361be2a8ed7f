-- `urszovely::urszovely_collect_f64` answers what the library's question answers, over the values that the arrays hold; refused it stores nothing.
use Rattle.std.specs.Prelude.{Ok}
use mathlib.Core.Path.{◌≡◌, refl, sym, ap, ◌∙◌}
use mathlib.Core.List.{List}
use native.Mathlib.Omega.{arith}
use borrow.Author.Rules.{rules}
use Rattle.answers.specs.Refusals.{no_refusal}
use Rattle.c_bits.specs.declared.Bits.{Bits}
use Rattle.c_bits.specs.declared.Bits.TheVariants.{Empty}
use Rattle.values.specs.Values.{collected}
use Rattle.values.specs.Registers.{moved_numbers}
use Rattle.values.specs.Holdings.{collect_holdings_answer}
use Rattle.c_bits.specs.Bits.{empties, lanes_from}
use Rattle.c_bits.proofs.Empties.{collected_into_empties}
use Rattle.c_card.specs.Card.{four}
use Rattle.urszovely.proofs.Left.{untouched, stored}
use Rattle.urszovely.proofs.urszovely_collect_f64.Statement.{statement}
use Rattle.urszovely.proofs.urszovely_collect_f64.Tie as tie

returns : tie.Need-returns-in_default
returns c =
    let f = c in
    let m = f in
    let j = m in
    let a = j.args in
    let told = j.judge_collecting-told.ensures in (
      f.four.ensures ∙ ap four (m.in_numbers-numbers.ensures ∙ ap moved_numbers told),
      untouched 8 a.sorts.now a.singles.now a.doubles.now _ _ _ (sym told ∙ c.in_default.is),
    )

returns_2 : tie.Need-returns
returns_2 c =
    let e = c in
    let f = e in
    let m = f in
    let j = m in
    let a = j.args in
    let lanes : List (List Bits) = lanes_from a.kind a.holdings.now in
    let done : collect_holdings_answer a.kind a.computation ≡ no_refusal = sym j.judge_collecting-told.ensures ∙ e.in-Ok.is in (
      f.four.ensures ∙ ap four (m.in_numbers-numbers.ensures ∙ ap moved_numbers j.judge_collecting-told.ensures),
      stored 8 a.sorts.now a.singles.now a.doubles.now (omega (arith, c.collect_holdings-arg-2-1.given)) (omega (arith, c.collect_holdings-arg-3-1.given)) (omega (arith, c.collect_holdings-arg-4-1.given)) _ (collected Empty a.kind a.computation lanes (empties 8)) _ refl
          (collected_into_empties a.kind a.computation a.sorts.now a.singles.now a.doubles.now (collect_holdings_answer a.kind a.computation) lanes done)
          _ _ _ c.collect_holdings.ensures,
    )

pub urszovely_collect_f64_spec : {M : Type 1} → statement M
urszovely_collect_f64_spec =
    tie.close
    (tie.spec (λ c κs. search rules) (λ c κs. search rules) (λ c κs. search rules) (λ c. search rules) (λ c. search rules) returns (λ c κs. (search rules, search rules)) returns_2)
