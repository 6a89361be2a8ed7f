-- One turn writes an entry in all three arrays, each by what `put` makes of it with the register that is told.
use Rattle.std.proofs.Common.{ℕ, length, refl, sym}
use Rattle.c_bits.specs.Bits.{sort_after, single_after, double_after}
use Rattle.values.proofs.Rows.{anew_none, anew_all}
use Rattle.c_bits.proofs.Made.{written, anew_turn}
use Rattle.c_registers.proofs.write.Goals as goal

pub loop-j-init : goal.loop-j-init
loop-j-init g c rows told =
    let a = c.args in
    let p = c.requires.sorts_len in
    let size : ℕ = length a.sorts.now in
    record {
      sorts = anew_none 0 size (written sort_after rows) a.sorts.now refl;
      singles = anew_none 0 size (written single_after rows) a.singles.now p.0;
      doubles = anew_none 0 size (written double_after rows) a.doubles.now p.1;
    }

pub loop-j-preserved : goal.loop-j-preserved
loop-j-preserved g c rows told =
    let l = c.loop-j in
    let a = c.args in
    let h = c.loop-j-test.true in
    let e = c.put.ensures in
    let r = told l.j c.register.result h c.register.ensures in
    let i = l.invariant rows told in
    let size : ℕ = length a.sorts.now in
    record {
      sorts = anew_turn 0 size (written sort_after rows) a.sorts.now l.sorts _ l.j i.sorts h (rw (sym r) e.sorts_after);
      singles = anew_turn 0 size (written single_after rows) a.singles.now l.singles _ l.j i.singles h (rw (sym r) e.singles_after);
      doubles = anew_turn 0 size (written double_after rows) a.doubles.now l.doubles _ l.j i.doubles h (rw (sym r) e.doubles_after);
    }

pub returns : goal.returns
returns g c rows told =
    let a = c.args in
    let l = c.loop-j in
    let h = c.loop-j-test.false in
    let i = l.invariant rows told in
    let size : ℕ = length a.sorts.now in (
      anew_all 0 size (written sort_after rows) a.sorts.now l.sorts l.j i.sorts h,
      anew_all 0 size (written single_after rows) a.singles.now l.singles l.j i.singles h,
      anew_all 0 size (written double_after rows) a.doubles.now l.doubles l.j i.doubles h,
    )
