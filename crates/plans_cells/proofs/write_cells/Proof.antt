-- `plans_cells::write_cells` looks for a shared cell, then for room, and then writes the plan.
use mathlib.Core.Path.{◌≡◌, sym, ap, ◌∙◌}
use mathlib.Core.List.{List, ◌++◌}
use Prim.Native.Nat.{ℕ, ◌*◌, ◌≤◌}
use native.Mathlib.Omega.{arith}
use lib.ListN.{length, drop}
use lib.Seq.{length-take-le}
use Rattle.plans.specs.Plans.{first_shared}
use Rattle.plans.proofs.Plans.{occupied_most}
use Rattle.plans_cells.proofs.Outcomes.{overlaps, too_few, filled}
use borrow.Author.Rules.{rules}
use Rattle.plans_cells.proofs.write_cells.Statement.{statement}
use Rattle.plans_cells.proofs.write_cells.Tie as tie

returns : tie.Need-returns-then-shared-ne0
returns c =
    let other = c in
    let call = other in
    let k = call in
    let s = k in
    overlaps s.args.plan.now s.args.first.now s.args.second.now s.requires.1.0 k.first_shared-shared.ensures (omega (arith, k.if-shared-ne0.true))
    call.clear.ensures other.clear-then-shared-ne0.ensures

-- no cell is shared
none : (c : tie.Else-shared-ne0) →
    let a = c.args in
    first_shared a.first.now a.second.now ≡ 0
none c = sym c.first_shared-shared.ensures ∙ omega (arith, c.if-shared-ne0.false)

-- twice the occupied cells is a number
mul_numbers : tie.Need-overflow_mul-numbers
mul_numbers c =
    let s = c in
    omega (arith, s.requires.1.1, occupied_most s.args.second.now)

returns_2 : tie.Need-returns-then-plan-numbers
returns_2 c =
    let other = c in
    let call = other in
    let k = call in
    let s = k in
    too_few s.args.plan.now s.args.first.now s.args.second.now s.requires.1.0 (none k.before.before.before.before.before.before.before.before.before) (ap (λ (n : ℕ). 2 * n) s.requires.1.1)
    (omega (arith, call.if-plan-numbers.true)) call.clear-then-plan-numbers.ensures other.clear-then-plan-numbers-2.ensures

-- there is room
abbrev called : tie.After-put_plan-arg-1 → tie.Else-plan-numbers
called c = c.before

abbrev start : tie.Else-plan-numbers → tie.Start
start c = c.before.before.before.before.before.before

room : (c : tie.Else-plan-numbers) → 2 * (start c).args.targets ≤ length (start c).args.plan.now
room c = omega (arith, c.if-plan-numbers.false)

put_plan_requires : tie.Need-put_plan-requires
put_plan_requires c κs =
    let k = called c in
    let s = start k in
    (s.requires.0, length-take-le (2 * s.args.targets) s.args.plan.now (room k) ∙ ap (λ (n : ℕ). 2 * n) s.requires.1.1)

returns_3 : tie.Need-returns
returns_3 c =
    let call = c in
    let k = called call.before.before.before in
    let s = start k in
    filled s.args.plan.now s.args.first.now s.args.second.now s.requires.1.0 (none k.before) (ap (λ (n : ℕ). 2 * n) s.requires.1.1) (room k)
    (ap (λ (l : List ℕ). l ++ drop (2 * s.args.targets) s.args.plan.now) call.put_plan.ensures)

pub write_cells_spec : {M : Type 1} → statement M
write_cells_spec =
    tie.close
    (tie.spec (λ c κs. search rules) (λ c κs. search rules) (λ c κs. search rules) (λ c. search rules) (λ c. search rules) (λ c. search rules) returns
    mul_numbers (λ c κs. search rules) (λ c κs. search rules) (λ c. search rules) (λ c. search rules) returns_2 (λ c. search rules)
    (λ c. let s = start (called c) in sym (length-take-le (2 * s.args.targets) s.args.plan.now (room (called c)))) put_plan_requires
    (λ c. search rules) (λ c. search rules) (λ c. search rules) returns_3)
