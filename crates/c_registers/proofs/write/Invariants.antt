-- The entries before this one are written in all three arrays: each as `put` writes it, in any rows whose registers are told.
use Rattle.std.proofs.Common.{◌≡◌, List, ℕ, ◌<◌, ◌/◌, ◌%◌, length}
use Rattle.c_bits.specs.declared.Bits.{Bits}
use Rattle.c_bits.specs.declared.Bits.TheVariants.{Empty}
use Rattle.values.specs.Rows.{entry}
use Rattle.values.proofs.Rows.{Anew}
use Rattle.c_bits.specs.Bits.{sort_after, single_after, double_after}
use Rattle.c_bits.proofs.Made.{written}
use Rattle.c_registers.proofs.write.Given as goal

abbrev pub invariant-loop-j : goal.invariant-loop-j
invariant-loop-j g l =
    let size = length l.fn.sorts in
    (rows : List (List Bits))
    → ((j : ℕ) (r : Bits) → j < size → goal.F-post g l.register j r → r ≡ entry Empty rows (j / 8) (j % 8))
    → record {
      sorts : Anew size (written sort_after rows) l.fn.sorts l.sorts l.j;
      singles : Anew size (written single_after rows) l.fn.singles l.singles l.j;
      doubles : Anew size (written double_after rows) l.fn.doubles l.doubles l.j;
    }
