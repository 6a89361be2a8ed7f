-- The numbers before this one are written: each by what `put_double` makes of it with the register that `dealt_to_field` gives.
use Rattle.std.proofs.Common.{List, [], ℕ, ◌/◌, ◌%◌, get_or}
use Rattle.c_bits.specs.declared.Bits.TheVariants.{Empty}
use Rattle.values.specs.Values.{dealt}
use Rattle.values.proofs.Rows.{Anew}
use Rattle.c_bits.specs.Bits.{rows_from, empties, double_after, register_for}
use Rattle.c_holdings.proofs.deal_holdings.Given as goal

abbrev pub number : ℕ → ℕ → List ℕ → List ℕ → List ℕ → ℕ → ℕ → ℕ
number kind c sorts singles doubles j =
    double_after (register_for kind (get_or (dealt Empty kind c (rows_from 8 sorts singles doubles) (empties 32)) (j / 4) []) (j % 4))

abbrev pub invariant-loop-j : goal.invariant-loop-j
invariant-loop-j l = Anew 128 (number l.kind l.computation l.sorts l.singles l.doubles) l.fn.numbers l.numbers l.j
