-- The level of a copy: the row-major number of its sums, m left out, as a whole number. Nothing here has to be believed.
use Rattle.std.specs.Prelude.{ℕ, List, [], ◌∷◌, map, ℤ, pos, ◌+ℤ◌, ◌*ℤ◌, get_or, take}
use Rattle.card.specs.Lists.{product}
use Rattle.card.specs.Limits.{last_axis}
use Rattle.card.specs.declared.Card.{Card}
use Rattle.rules.specs.Rules.{part}

-- row-major over whole numbers: each times the product of the sizes after it, all added up; what is not given counts as 0
abbrev pub weighed_sum : List ℕ → List ℤ → ℤ
weighed_sum [] xs = pos 0
weighed_sum (n ∷ after) [] = pos 0
weighed_sum (n ∷ after) (x ∷ xs) = pos (product after) *ℤ x +ℤ weighed_sum after xs

abbrev pub level : List ℕ → List ℤ → ℤ
level lengths sums = weighed_sum lengths (take last_axis sums)

-- the axes before m
abbrev pub seven : List ℕ
seven = 0 ∷ 1 ∷ 2 ∷ 3 ∷ 4 ∷ 5 ∷ 6 ∷ []

abbrev pub level_at : List ℕ → (ℕ → ℤ) → ℤ
level_at lengths f = weighed_sum lengths (map f seven)

-- the base of an element: what shard and offset add up to
abbrev pub base : Card → ℕ → ℕ → ℤ
base card flat axis = part card.shard flat axis +ℤ get_or card.offset axis (pos 0)
