-- A register's sort is its entry's.
use Rattle.std.proofs.Common.{◌≡◌, rules, sym, ap, ◌∙◌, arith}
use Rattle.values.specs.declared.Register.TheVariants.{Empty}
use Rattle.values.specs.Rows.{entry}
use Rattle.values.specs.Registers.{is_of_sort}
use Rattle.c_bits.specs.Bits.{register_at, rows_from, read_as, registers_held}
use Rattle.c_bits.proofs.Read.{read_at}
use Rattle.dealing.proofs.Wrong.{matrix_kind}
use Rattle.c_registers_judged.proofs.judge_collecting.Goals as goal

pub judge_by-requires : goal.judge_by-requires
judge_by-requires c = record {
  lt_kind = matrix_kind _ _ (sym c.is_matrix.ensures ∙ c.if-is_matrix.true);
  pre = search rules;
}

pub returns-then-is_matrix : goal.returns-then-is_matrix
returns-then-is_matrix c =
    let a = c.args in
    rw (sym c.is_matrix.ensures ∙ c.if-is_matrix.true)
    (c.judge_by.ensures (entry Empty (registers_held (rows_from 32 a.sorts.now a.singles.now a.doubles.now)))
    (λ n p r e h k told.
    let sorted : r ≡ is_of_sort a.kind (read_as (register_at a.sorts.now a.singles.now a.doubles.now n)) = search rules in
    sorted ∙ ap (is_of_sort a.kind) (sym (read_at 32 a.sorts.now a.singles.now a.doubles.now n (omega (arith, h))))))
