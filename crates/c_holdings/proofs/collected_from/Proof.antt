-- `c_holdings::collected_from` reads the register that the place is held by: the number that says so picks the branch.
use mathlib.Core.Path.{sym, ◌∙◌}
use mathlib.Core.List.{List}
use native.Mathlib.Omega.{arith}
use borrow.Author.Rules.{rules}
use Rattle.c_bits.specs.declared.Bits.{Bits}
use Rattle.c_bits.specs.Bits.{lanes_from}
use Rattle.c_registers.proofs.Entries.{from_there, from_nothing, collected_from_lanes}
use Rattle.c_holdings.proofs.Fields.{held_entry}
use Rattle.c_holdings.proofs.collected_from.Statement.{statement}
use Rattle.c_holdings.proofs.collected_from.Tie as tie

returns : tie.Need-returns-then-from-lt256
returns c =
    let m = c in
    let s = m in
    let a = s.args in
    let lanes : List (List Bits) = lanes_from a.kind a.numbers.now in
    c.register_held.ensures
    ∙ sym (collected_from_lanes a.kind a.computation lanes a.j m.holder-from.result s.requires.0 m.holder-from.ensures
    ∙ from_there lanes 32 m.holder-from.result (omega (arith, c.if-from-lt256.true))
    ∙ held_entry a.kind a.numbers.now _ _ (omega (arith, c.if-from-lt256.true)))

returns_2 : tie.Need-returns
returns_2 c =
    let m = c in
    let s = m in
    let a = s.args in
    let lanes : List (List Bits) = lanes_from a.kind a.numbers.now in
    sym (collected_from_lanes a.kind a.computation lanes a.j m.holder-from.result s.requires.0 m.holder-from.ensures
    ∙ from_nothing lanes 32 m.holder-from.result (omega (arith, c.if-from-lt256.false)))

pub collected_from_spec : {M : Type 1} → statement M
collected_from_spec = tie.close (tie.spec (λ c κs. search rules) (λ c κs. (omega arith, omega arith)) returns returns_2)
