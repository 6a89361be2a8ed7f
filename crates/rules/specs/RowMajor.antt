-- Coordinates in a shape or a space, and their number row-major: document 01, rules 1, 2 and 5.
use Rattle.std.specs.Prelude.{ℕ, ◌+◌, ◌*◌, ◌/◌, ◌%◌, Bool, true, false, cond, ◌&&◌, List, [], ◌∷◌, ltb}
use Rattle.card.specs.Lists.{product}
use Rattle.rules.specs.declared.Position.{Position}
use Rattle.rules.specs.declared.Position.TheVariants.{At, Past}

-- row-major: each coordinate times the product of the sizes after it, all added up; coordinates that are not given count as 0
abbrev pub row_major : List ℕ → List ℕ → ℕ
row_major [] xs = 0
row_major (n ∷ after) [] = 0
row_major (n ∷ after) (x ∷ xs) = x * product after + row_major after xs

-- component k is flat divided by the product of the extents after k, modulo extent k
abbrev pub components : List ℕ → ℕ → List ℕ
components [] flat = []
components (extent ∷ after) flat = flat / product after % extent ∷ components after flat

-- as many coordinates as sizes, each below its own
abbrev pub inside : List ℕ → List ℕ → Bool
inside [] [] = true
inside [] (x ∷ xs) = false
inside (n ∷ after) [] = false
inside (n ∷ after) (x ∷ xs) = ltb x n && inside after xs

-- the smallest place at which a coordinate is missing or not below its size, or the number of sizes
abbrev pub first_past : List ℕ → List ℕ → ℕ
first_past [] xs = 0
first_past (n ∷ after) [] = 0
first_past (n ∷ after) (x ∷ xs) = cond (ltb x n) (first_past after xs + 1) 0

-- where coordinates are: at a number, or past a size
unfoldable pub position : List ℕ → List ℕ → Position
position sizes xs = cond (inside sizes xs) (At (row_major sizes xs)) (Past (first_past sizes xs))
