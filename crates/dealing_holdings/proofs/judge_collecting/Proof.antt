-- `dealing_holdings::judge_collecting` is the definition: the branch taken is the one that kind and computation pick.
use Rattle.std.specs.Prelude.{Err}
use mathlib.Core.Path.{◌≡◌, sym, ap, ◌∙◌}
use mathlib.Core.Bool.{Bool, ◌&&◌}
use borrow.Author.Rules.{rules}
use lib.Dec.{ltb}
use Rattle.values.specs.Registers.{is_matrix}
use Rattle.dealing_holdings.proofs.judge_collecting.Statement.{statement}
use Rattle.dealing_holdings.proofs.judge_collecting.Tie as tie

-- the test of the code is that of the definition
tested : (c : tie.After-is_matrix) → let a = c.args in (ltb 5 a.kind && is_matrix a.kind a.computation) ≡ (ltb 5 a.kind && c.is_matrix.result)
tested c = ap (λ (b : Bool). ltb 5 c.args.kind && b) (sym c.is_matrix.ensures)

pub judge_collecting_spec : {M : Type 1} → statement M
judge_collecting_spec =
    tie.close
    (tie.spec (λ c κs. search rules) (λ c κs. search rules) (λ c. rw (tested c.before ∙ c.if-kind-is_matrix.true))
    (λ c. rw (tested c.before.before ∙ c.if-kind-is_matrix.false) (ap Err c.outside.ensures)))
