-- The copies of an element: one cell per replica combination, and the smallest axis on which one lies outside the space.
use Rattle.std.specs.Prelude.{ℕ, zero, suc, ◌+◌, min, List, [], ◌∷◌, map, length}
use Rattle.card.specs.Card.{copies}
use Rattle.card.specs.declared.Card.{Card}
use Rattle.rules.specs.Rules.{axes, spot}
use Rattle.rules.specs.declared.Spot.{Spot}
use Rattle.rules.specs.declared.Spot.TheVariants.{Inside, Outside}

-- the cell number of a spot, 0 outside
abbrev pub cell_of : Spot → ℕ
cell_of (Inside cell) = cell.0
cell_of (Outside axis) = 0

-- the smallest axis on which a spot lies outside, or the number of axes
abbrev pub past_axis : Spot → ℕ
past_axis (Inside cell) = length axes
past_axis (Outside axis) = axis

-- n combinations from c on, by number
abbrev pub combinations : ℕ → ℕ → List ℕ
combinations c zero = []
combinations c (suc n) = c ∷ combinations (c + 1) n

-- one cell number per combination, repeats kept
abbrev pub cells_of : (ℕ → Spot) → ℕ → List ℕ
cells_of at n = map (λ combination. cell_of (at combination)) (combinations 0 n)

-- the smallest axis on which one of them lies outside, or the number of axes
abbrev pub smallest : List ℕ → ℕ
smallest [] = length axes
smallest (n ∷ ns) = min n (smallest ns)

abbrev pub outside_of : (ℕ → Spot) → ℕ → ℕ
outside_of at n = smallest (map (λ combination. past_axis (at combination)) (combinations 0 n))

-- the cells of all copies of an element, 0 for one outside, and the smallest axis on which a copy lies outside
unfoldable pub copy_cells : Card → ℕ → List ℕ
copy_cells card flat = cells_of (spot card flat) (copies card)

unfoldable pub outside_axis : Card → ℕ → ℕ
outside_axis card flat = outside_of (spot card flat) (copies card)
