-- The entry is the one that the rows have there; past the entries are no rows.
use Rattle.std.proofs.Common.{◌<◌, ◌*◌, sym, ◌∙◌, arith}
use Rattle.c_bits.specs.Bits.{rows_from}
use Rattle.c_bits.proofs.Given.{entry_at}
use Rattle.c_registers.proofs.Entries.{from_there}
use Rattle.c_registers.proofs.register_from.Goals as goal

pub returns-then-s : goal.returns-then-s
returns-then-s g c rows e =
    let a = c.args in
    let k = c.if-s.true in
    let below : a.s < 8 * rows = omega (arith, k, e, c.requires.0) in
    c.register_at.ensures
    ∙ sym (from_there (rows_from rows a.sorts.now a.singles.now a.doubles.now) rows a.s below ∙ entry_at rows a.sorts.now a.singles.now a.doubles.now a.s below)
