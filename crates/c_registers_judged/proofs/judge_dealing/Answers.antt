-- Each register gets what stands in the tile at its source, so its sort is that entry's.
use Rattle.std.proofs.Common.{◌≡◌, rules, sym, ap, ◌∙◌, List, arith}
use Rattle.fragment.specs.Kinds.{place}
use Rattle.values.specs.declared.Register.{Register}
use Rattle.values.specs.declared.Register.TheVariants.{Empty}
use Rattle.values.specs.Values.{in_tile}
use Rattle.values.specs.Registers.{is_of_sort}
use Rattle.c_bits.specs.Bits.{register_at, rows_from, read_as, registers_held}
use Rattle.c_bits.proofs.Read.{read_at}
use Rattle.dealing.proofs.Wrong.{matrix_kind, at_source}
use Rattle.c_registers_judged.proofs.judge_dealing.Goals as goal

pub judge_by-requires : goal.judge_by-requires
judge_by-requires c = record {
  lt_kind = matrix_kind _ _ (sym c.is_matrix.ensures ∙ c.if-is_matrix.true);
  pre = search rules;
}

pub returns-then-is_matrix : goal.returns-then-is_matrix
returns-then-is_matrix c =
    let a = c.args in
    let tile : List (List Register) = registers_held (rows_from 8 a.sorts.now a.singles.now a.doubles.now) in
    rw (sym c.is_matrix.ensures ∙ c.if-is_matrix.true)
    (c.judge_by.ensures (λ lane i. in_tile Empty tile (place a.kind lane i))
    (λ n p r e h k told.
    let sorted : r ≡ is_of_sort a.kind (read_as (register_at a.sorts.now a.singles.now a.doubles.now p)) = search rules in
    sorted
    ∙ ap (is_of_sort a.kind)
    (sym (at_source a.kind a.computation n p tile e k ∙ read_at 8 a.sorts.now a.singles.now a.doubles.now p (omega (arith, k))))))
