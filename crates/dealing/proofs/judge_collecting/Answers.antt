-- The branch taken is the one that kind and computation pick; a kind with values is above 4.
use Rattle.std.proofs.Common.{rules, sym, ◌∙◌}
use Rattle.values.specs.declared.Register.TheVariants.{Empty}
use Rattle.values.specs.Rows.{entry}
use Rattle.dealing.proofs.Wrong.{matrix_kind}
use Rattle.dealing.proofs.judge_collecting.Goals as goal

pub judge_by-requires : goal.judge_by-requires
judge_by-requires c = record {
  lt_kind = matrix_kind _ _ (sym c.is_matrix.ensures ∙ c.if-is_matrix.true);
  pre = search rules;
}

pub returns-then-is_matrix : goal.returns-then-is_matrix
returns-then-is_matrix c =
    rw (sym c.is_matrix.ensures ∙ c.if-is_matrix.true) (c.judge_by.ensures (entry Empty c.args.lanes) (λ n p r e h k told. search rules))
