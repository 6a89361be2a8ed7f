-- The register is dealt what stands in the tile at its source.
use Rattle.std.proofs.Common.{sym, ◌∙◌}
use Rattle.c_bits.specs.Bits.{rows_from}
use Rattle.c_registers.proofs.Entries.{dealt_from_tile}
use Rattle.c_registers.proofs.dealt_at.Goals as goal

pub returns : goal.returns
returns c =
    let a = c.args in
    c.register_from.ensures 8 c.requires.sorts_len.0
    ∙ sym (dealt_from_tile a.kind a.computation (rows_from 8 a.sorts.now a.singles.now a.doubles.now) a.n _ c.requires.lt_kind.1 c.matrix_source-p.ensures)
