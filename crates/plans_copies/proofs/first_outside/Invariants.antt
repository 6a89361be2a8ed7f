-- The search among the numbers from this copy on is the search among all.
use Rattle.std.proofs.Common.{◌≡◌, ◌*◌, drop}
use Rattle.plans.specs.Plans.{outside_from, first_outside}
use Rattle.plans_copies.proofs.first_outside.Given as goal

abbrev pub invariant-loop-copy : goal.invariant-loop-copy
invariant-loop-copy l = outside_from l.cells l.copy (drop (2 * l.copy) l.plan) ≡ first_outside l.cells l.plan
