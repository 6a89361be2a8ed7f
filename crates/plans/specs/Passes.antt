-- How the code goes about it. One search serves the two that are over both tables. And the planner's plan is written in three passes without other
-- memory: the plan has two numbers for each occupied cell of the second table, and each element has one, so the smallest cell of the first with each
-- owner fits into the numbers at odd places. Then the numbers at even places are taken from those, and last the odd ones get their own. Nothing here
-- has to be believed: proofs/Passes.antt shows that it is the plan.
use Rattle.std.specs.Prelude.{Bool, cond, List, [], ◌∷◌, ℕ, zero, suc, ◌+◌, ◌*◌, ◌-◌, ◌≤◌, length, get_or, set}
use Rattle.claims.specs.Claims.{taken}
use Rattle.plans.specs.Plans.{first_from, wrong, both}

-- one search for both questions: a cell that is shared, or one that is wrong
abbrev pub sought : Bool → ℕ → ℕ → Bool
sought sharing holds owner = cond sharing (both holds owner) (wrong holds owner)

abbrev pub first_sought : Bool → List ℕ → List ℕ → ℕ
first_sought sharing held second = first_from (λ c. sought sharing (get_or held c 0) (get_or second c 0)) (length second) 0

-- the cell entered for an owner; a later one takes the place of an earlier one
abbrev pub entered : ℕ → ℕ → List ℕ → List ℕ
entered zero cell plan = plan
entered (suc owner) cell plan = set plan (2 * suc owner - 1) cell

-- the cells from c on, falling
abbrev pub entered_from : List ℕ → ℕ → List ℕ → List ℕ
entered_from [] c plan = plan
entered_from (entry ∷ first) c plan = entered entry c (entered_from first (c + 1) plan)

-- the cell entered for an owner is where the copy of this index is from
abbrev pub sourced : ℕ → ℕ → List ℕ → List ℕ
sourced zero copy plan = plan
sourced (suc owner) copy plan = set plan (2 * copy) (get_or plan (2 * suc owner - 1) 0)

-- the copies from one of this index on
abbrev pub sourced_from : List ℕ → ℕ → List ℕ → List ℕ
sourced_from [] copy plan = plan
sourced_from (entry ∷ second) copy plan = sourced_from second (copy + taken entry) (sourced entry copy plan)

-- an occupied cell is where the copy of this index goes
abbrev pub aimed : ℕ → ℕ → ℕ → List ℕ → List ℕ
aimed zero copy cell plan = plan
aimed (suc owner) copy cell plan = set plan (2 * copy + 1) cell

abbrev pub aimed_from : List ℕ → ℕ → ℕ → List ℕ → List ℕ
aimed_from [] copy c plan = plan
aimed_from (entry ∷ second) copy c plan = aimed_from second (copy + taken entry) (c + 1) (aimed entry copy c plan)

-- every entry of a table has its place among the odd ones
abbrev pub Fits : List ℕ → List ℕ → Type 0
Fits table plan = (c : ℕ) → 2 * get_or table c 0 ≤ length plan
