-- The place is collected what stands in the lanes at its holder.
use Rattle.std.proofs.Common.{sym, ◌∙◌}
use Rattle.c_bits.specs.Bits.{rows_from}
use Rattle.c_registers.proofs.Entries.{collected_from_lanes}
use Rattle.c_registers.proofs.collected_at.Goals as goal

pub returns : goal.returns
returns c =
    let a = c.args in
    c.register_from.ensures 32 c.requires.sorts_len.0
    ∙ sym (collected_from_lanes a.kind a.computation (rows_from 32 a.sorts.now a.singles.now a.doubles.now) a.j _ c.requires.j_bound c.holder-s.ensures)
