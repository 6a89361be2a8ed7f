-- `urszovely::urszovely_deal_f64` answers what the library's question answers, over the values that the arrays hold; refused it stores nothing.
use mathlib.Core.Path.{sym, ap, ◌∙◌}
use mathlib.Core.List.{List}
use native.Mathlib.Omega.{arith}
use borrow.Author.Rules.{rules}
use Rattle.c_bits.specs.declared.Bits.{Bits}
use Rattle.values.specs.Registers.{moved_numbers}
use Rattle.c_bits.specs.Bits.{rows_from, registers_held}
use Rattle.c_registers_judged.proofs.Wrong.{dealt_holdings_kind}
use Rattle.c_card.specs.Card.{four}
use Rattle.urszovely.proofs.urszovely_deal_f64.Statement.{statement}
use Rattle.urszovely.proofs.urszovely_deal_f64.Tie as tie

returns : tie.Need-returns-in_default
returns c =
    let f = c in
    let m = f in
    let j = m in
    let told = j.judge_dealing_holdings-told.ensures in (
      f.four.ensures ∙ ap four (m.in_numbers-numbers.ensures ∙ ap moved_numbers told),
      rw (sym told ∙ c.in_default.is),
    )

deal_requires : tie.Need-deal_holdings-requires
deal_requires c κs =
    let e = c in
    let j = e in
    let l = j in
    let a = l.args in
    let tile : List (List Bits) = rows_from 8 a.tile_sorts.now a.tile_singles.now a.tile_doubles.now in (
      (dealt_holdings_kind a.kind a.computation (registers_held tile) (sym j.judge_dealing_holdings-told.ensures ∙ e.in-Ok.is), omega (arith, l.fields-1.given)),
      search rules,
    )

returns_2 : tie.Need-returns
returns_2 c =
    let e = c in
    let f = e in
    let m = f in
    let j = m in
    let told = j.judge_dealing_holdings-told.ensures in (
      f.four.ensures ∙ ap four (m.in_numbers-numbers.ensures ∙ ap moved_numbers told),
      rw (sym told ∙ e.in-Ok.is) c.deal_holdings.ensures,
    )

pub urszovely_deal_f64_spec : {M : Type 1} → statement M
urszovely_deal_f64_spec =
    tie.close
    (tie.spec (λ c κs. search rules) (λ c κs. search rules) (λ c κs. search rules) (λ c. search rules) (λ c. search rules) returns deal_requires returns_2)
