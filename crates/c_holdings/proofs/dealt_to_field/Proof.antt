-- `c_holdings::dealt_to_field` reads what the register of the field is dealt: the number that says which it is picks the branch.
use mathlib.Core.Path.{sym, ◌∙◌}
use mathlib.Core.List.{List, []}
use Prim.Native.Nat.{ℕ, ◌/◌, ◌%◌}
use native.Mathlib.Omega.{arith}
use borrow.Author.Rules.{rules}
use lib.ListN.{get_or}
use Rattle.c_bits.specs.declared.Bits.{Bits}
use Rattle.c_bits.specs.declared.Bits.TheVariants.{Empty}
use Rattle.values.specs.Values.{dealt}
use Rattle.c_bits.specs.Bits.{rows_from, empties}
use Rattle.c_holdings.proofs.Fields.{field_there, field_nothing, counted}
use Rattle.c_holdings.proofs.dealt_to_field.Statement.{statement}
use Rattle.c_holdings.proofs.dealt_to_field.Tie as tie

returns : tie.Need-returns-then-i-lt8
returns c =
    let m = c in
    let a = m.args in
    let bare : List (List Bits) = dealt Empty a.kind a.computation (rows_from 8 a.sorts.now a.singles.now a.doubles.now) (empties 32) in
    c.dealt_at.ensures
    ∙ counted bare (a.j / 4) m.register_for-i.result c.if-i-lt8.true
    ∙ sym (field_there a.kind (get_or bare (a.j / 4) []) (a.j % 4) m.register_for-i.result m.register_for-i.ensures c.if-i-lt8.true)

returns_2 : tie.Need-returns
returns_2 c =
    let m = c in
    let a = m.args in
    let bare : List (List Bits) = dealt Empty a.kind a.computation (rows_from 8 a.sorts.now a.singles.now a.doubles.now) (empties 32) in
    sym (field_nothing a.kind (get_or bare (a.j / 4) []) (a.j % 4) m.register_for-i.result m.register_for-i.ensures c.if-i-lt8.false)

pub dealt_to_field_spec : {M : Type 1} → statement M
dealt_to_field_spec =
    tie.close
    (tie.spec (λ c κs. search rules) (λ c. omega arith) (λ c. omega arith) (λ c κs. ((omega arith, omega arith), (omega arith, omega arith, omega arith))) returns returns_2)
