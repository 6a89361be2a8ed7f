-- One turn writes a number, by what `put_double` makes of it with the register that `dealt_to_field` gives.
use Rattle.std.proofs.Common.{ap, ◌∙◌, get_or, set}
use Rattle.c_bits.specs.declared.Bits.{Bits}
use Rattle.c_bits.specs.Bits.{double_after}
use Rattle.values.proofs.Rows.{anew_none, anew_all}
use Rattle.c_bits.proofs.Made.{anew_turn}
use Rattle.c_holdings.proofs.deal_holdings.Invariants.{number}
use Rattle.c_holdings.proofs.deal_holdings.Goals as goal

pub loop-j-init : goal.loop-j-init
loop-j-init c =
    let a = c.args in
    anew_none 0 128 (number a.kind a.computation a.sorts.now a.singles.now a.doubles.now) a.numbers.now c.requires.lt_kind.1

pub loop-j-preserved : goal.loop-j-preserved
loop-j-preserved c =
    let l = c.loop-j in
    let a = c.args in
    anew_turn 0 128 (number a.kind a.computation a.sorts.now a.singles.now a.doubles.now) a.numbers.now l.numbers _ l.j l.invariant c.loop-j-test.true
    (c.put_double.ensures ∙ ap (λ (r : Bits). set l.numbers l.j (double_after r (get_or l.numbers l.j 0))) c.dealt_to_field-register.ensures)

pub returns : goal.returns
returns c =
    let a = c.args in
    let l = c.loop-j in
    anew_all 0 128 (number a.kind a.computation a.sorts.now a.singles.now a.doubles.now) a.numbers.now l.numbers l.j l.invariant c.loop-j-test.false
