-- A carrier's plan, document 02's request 13: a list of numbers, two a copy, from cell and then to cell. It turns one table of holdings into
-- another. A table has an entry for each cell: 0 where the cell holds nothing, and f + 1 where it holds element f.
use Rattle.std.specs.Prelude.{◌≡◌, Bool, cond, not, ◌&&◌, List, [], ◌∷◌, ℕ, zero, suc, ◌+◌, ◌-◌, ◌≤◌, ◌<◌, eqb, ltb, length, get_or, set}

-- one copy: cell `to` then holds what cell `from` holds
abbrev pub copied : ℕ → ℕ → List ℕ → List ℕ
copied from to table = set table to (get_or table from 0)

-- the copies in order
abbrev pub carried : List ℕ → List ℕ → List ℕ
carried [] table = table
carried (from ∷ []) table = table
carried (from ∷ to ∷ plan) table = carried plan (copied from to table)

-- the first copy, from one of this index on, that names a cell outside, or that an odd number left over is: its index plus 1, and 0 where there is none
abbrev pub outside_from : ℕ → ℕ → List ℕ → ℕ
outside_from cells index [] = 0
outside_from cells index (from ∷ []) = index + 1
outside_from cells index (from ∷ to ∷ plan) =
    cond (ltb from cells && ltb to cells) (outside_from cells (index + 1) plan) (index + 1)

abbrev pub first_outside : ℕ → List ℕ → ℕ
first_outside cells plan = outside_from cells 0 plan

-- the first of so many cells, from c on, for which a test says yes, plus 1, and 0 where there is none
abbrev pub first_from : (ℕ → Bool) → ℕ → ℕ → ℕ
first_from test zero c = 0
first_from test (suc left) c = cond (test c) (c + 1) (first_from test left (c + 1))

-- a cell is wrong where it has an owner in the second table, and holds something else
abbrev pub wrong : ℕ → ℕ → Bool
wrong holds owner = not (eqb owner 0) && not (eqb holds owner)

-- the first wrong cell plus 1, and 0 where every occupied cell of the second holds its owner
abbrev pub first_wrong : List ℕ → List ℕ → ℕ
first_wrong held second = first_from (λ c. wrong (get_or held c 0) (get_or second c 0)) (length second) 0

-- a plan is accepted exactly when no copy is outside and, after the copies, every occupied cell of the second holds its owner
pub record Carries (first second plan : List ℕ) : Type 0 where
  pub inside : first_outside (length second) plan ≡ 0
  pub right : first_wrong (carried plan first) second ≡ 0

-- a cell is shared where it is occupied in both, and the smallest shared one plus 1, 0 where there is none
abbrev pub both : ℕ → ℕ → Bool
both one other = not (eqb one 0) && not (eqb other 0)

abbrev pub first_shared : List ℕ → List ℕ → ℕ
first_shared first second = first_from (λ c. both (get_or first c 0) (get_or second c 0)) (length second) 0

-- the smallest cell with this entry, plus 1, and 0 where no cell has it
abbrev pub cell_holding : List ℕ → ℕ → ℕ
cell_holding table entry = first_from (λ c. eqb (get_or table c 0) entry) (length table) 0

-- the planner's plan: for each occupied cell of the second, rising, a copy from the smallest cell of the first with that owner
abbrev pub plan_from : List ℕ → List ℕ → ℕ → List ℕ
plan_from first [] c = []
plan_from first (zero ∷ second) c = plan_from first second (c + 1)
plan_from first (suc owner ∷ second) c = (cell_holding first (suc owner) - 1) ∷ c ∷ plan_from first second (c + 1)

abbrev pub planned : List ℕ → List ℕ → List ℕ
planned first second = plan_from first second 0

-- a table of the owners of n elements, as an approved card without reuse marks leaves it: no entry above n, and each element has a cell
pub record Complete (n : ℕ) (table : List ℕ) : Type 0 where
  pub entries : (c : ℕ) → get_or table c 0 ≤ n
  pub each : (f : ℕ) → f < n → (c : ℕ) × (get_or table c 0 ≡ f + 1)

-- two tables of the owners of the same elements
pub record Matched (first second : List ℕ) : Type 0 where
  pub elements : ℕ
  pub one : Complete elements first
  pub two : Complete elements second
