-- The search from this cell on is the search from the first.
use Rattle.std.proofs.Common.{◌≡◌, ◌-◌, length, get_or}
use Rattle.plans.specs.Plans.{first_from}
use Rattle.plans.specs.Passes.{sought, first_sought}
use Rattle.plans_copies.proofs.first_sought.Given as goal

abbrev pub invariant-loop-cell : goal.invariant-loop-cell
invariant-loop-cell l =
    first_from (λ c. sought l.sharing (get_or l.held c 0) (get_or l.second c 0)) (length l.second - l.cell) l.cell
    ≡ first_sought l.sharing l.held l.second
