-- `plans_passes::put_plan` is the three passes, and those write the planner's plan.
use mathlib.Core.Path.{ap, ◌∙◌}
use mathlib.Core.List.{List}
use Prim.Native.Nat.{ℕ}
use native.Mathlib.Omega.{arith}
use Rattle.plans.specs.Passes.{sourced_from, aimed_from, Fits}
use Rattle.plans.proofs.Passes.{first_fits, second_fits, written_is_plan}
use borrow.Author.Rules.{rules}
use Rattle.plans_passes.proofs.put_plan.Statement.{statement}
use Rattle.plans_passes.proofs.put_plan.Tie as tie

fits_first : (s : tie.Start) → Fits s.args.first.now s.args.plan.now
fits_first s = first_fits s.requires.0.elements s.args.first.now s.args.second.now s.args.plan.now s.requires.0.one s.requires.0.two s.requires.1

fits_second : (s : tie.Start) → Fits s.args.second.now s.args.plan.now
fits_second s = second_fits s.requires.0.elements s.args.first.now s.args.second.now s.args.plan.now s.requires.0.one s.requires.0.two s.requires.1

put_sources_requires : tie.Need-put_sources-requires
put_sources_requires c κs =
    let call = c in
    let s = call in
    (λ d. omega (arith, fits_second s.before.before.before.before.before.before.before.before d, call.enter_cells.auto.plan), omega (arith, s.requires.1, call.enter_cells.auto.plan))

returns : tie.Need-returns
returns c =
    let third = c in
    let next = third in
    let call = next in
    let s = call in
    let a = s.args in
    third.put_targets.ensures
    ∙ ap (λ (p : List ℕ). aimed_from a.second.now 0 0 p) next.put_sources.ensures
    ∙ ap (λ (p : List ℕ). aimed_from a.second.now 0 0 (sourced_from a.second.now 0 p)) call.enter_cells.ensures
    ∙ written_is_plan s.requires.0.elements a.first.now a.second.now a.plan.now s.requires.0.one s.requires.0.two s.requires.1

pub put_plan_spec : {M : Type 1} → statement M
put_plan_spec =
    tie.close
    (tie.spec (λ c κs. fits_first c.before.before.before.before) put_sources_requires (λ c κs. search rules) (λ c. search rules) returns)
