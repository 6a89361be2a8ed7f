-- `plans_cells::check_cells` looks for a copy outside before any is run, and then for a wrong cell.
use mathlib.Core.Path.{◌≡◌, sym, ◌∙◌}
use native.Mathlib.Omega.{arith}
use lib.ListN.{length}
use Rattle.plans.specs.Plans.{first_outside}
use Rattle.plans_cells.proofs.Outcomes.{copy_outside, ends_wrong, ends_right}
use borrow.Author.Rules.{rules}
use Rattle.plans_cells.proofs.check_cells.Statement.{statement}
use Rattle.plans_cells.proofs.check_cells.Tie as tie

returns : tie.Need-returns-then-copy-ne0
returns c =
    let other = c in
    let call = other in
    let k = call in
    let s = k in
    copy_outside s.args.plan.now s.args.first.now s.args.second.now s.requires k.first_outside-copy.ensures (omega (arith, k.if-copy-ne0.true))
    call.clear.ensures other.clear-then-copy-ne0.ensures

-- no copy is outside
inside : (c : tie.Else-copy-ne0) → let a = c.args in first_outside (length a.first.now) a.plan.now ≡ 0
inside c = sym c.first_outside-copy.ensures ∙ omega (arith, c.if-copy-ne0.false)

returns_2 : tie.Need-returns-then-wrong-ne0
returns_2 c =
    let w = c in
    let run = w in
    let k = run in
    let s = k in
    ends_wrong s.args.plan.now s.args.first.now s.args.second.now s.requires (inside k.before.before.before.before.before.before) run.run_copies.ensures w.first_wrong-wrong.ensures
    (omega (arith, c.if-wrong-ne0.true))

returns_3 : tie.Need-returns
returns_3 c =
    let w = c in
    let run = w in
    let k = run in
    let s = k in
    ends_right s.args.plan.now s.args.first.now s.args.second.now s.requires (inside k.before.before.before.before.before.before) run.run_copies.ensures w.first_wrong-wrong.ensures
    (omega (arith, c.if-wrong-ne0.false))

pub check_cells_spec : {M : Type 1} → statement M
check_cells_spec =
    tie.close
    (tie.spec (λ c κs. search rules) (λ c κs. search rules) (λ c κs. search rules) (λ c. search rules) (λ c. search rules) returns
    (λ c κs. inside c.before) (λ c κs. search rules) (λ c. search rules) (λ c. search rules) (λ c. search rules) returns_2 (λ c. search rules)
    (λ c. search rules) returns_3)
