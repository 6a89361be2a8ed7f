-- From element to cell: document 01, rules 2 to 5, for a card, a flat index and a replica combination.
use Rattle.std.specs.Prelude.{ℕ, cond, List, [], ◌∷◌, map, eqb, ℤ, pos, negsuc, ◌+ℤ◌, ◌*ℤ◌, get_or, set}
use Rattle.swizzle.specs.Swizzle.{swizzled}
use Rattle.swizzle.specs.declared.Swizzle.{Swizzle}
use Rattle.card.specs.Limits.{last_axis, most_length}
use Rattle.card.specs.Card.{listed, extent_of}
use Rattle.card.specs.declared.Iter.{Iter}
use Rattle.card.specs.declared.Iters.{Iters}
use Rattle.card.specs.declared.Card.{Card}
use Rattle.rules.specs.RowMajor.{components, position}
use Rattle.rules.specs.declared.Position.{Position}
use Rattle.rules.specs.declared.Position.TheVariants.{At, Past}
use Rattle.rules.specs.declared.Spot.{Spot}
use Rattle.rules.specs.declared.Spot.TheVariants.{Inside, Outside}

-- pid, warpid, laneid, P, F, TLane, TCol, m
abbrev pub axes : List ℕ
axes = 0 ∷ 1 ∷ 2 ∷ 3 ∷ 4 ∷ 5 ∷ 6 ∷ 7 ∷ []

-- rule 3: each component times its stride is added to its axis
abbrev pub added : ℕ → List Iter → List ℕ → ℤ
added axis [] cs = pos 0
added axis (iter ∷ iters) [] = pos 0
added axis (iter ∷ iters) (c ∷ cs) = cond (eqb iter.axis axis) (pos c *ℤ iter.stride) (pos 0) +ℤ added axis iters cs

-- what iters add to an axis at an index, which they split by rule 2: the last iter runs fastest
abbrev pub part : Iters → ℕ → ℕ → ℤ
part iters index axis = added axis (listed iters) (components (map extent_of (listed iters)) index)

-- the shard at a flat index, then the offset, then, for each replica combination, its components times their strides
abbrev pub sum : Card → ℕ → ℕ → ℕ → ℤ
sum card flat combination axis = part card.shard flat axis +ℤ get_or card.offset axis (pos 0) +ℤ part card.replica combination axis

-- rule 4: the swizzle acts on the finished m coordinate, that of the last axis; m below zero is not swizzled
abbrev pub swizzled_z : Swizzle → ℤ → ℤ
swizzled_z w (pos m) = pos (swizzled w.m w.b w.s m)
swizzled_z w (negsuc m) = negsuc m

abbrev pub swizzled_m : Swizzle → List ℤ → List ℤ
swizzled_m w sums = set sums last_axis (swizzled_z w (get_or sums last_axis (pos 0)))

abbrev pub finished : Card → ℕ → ℕ → List ℤ
finished card flat combination = swizzled_m card.swizzle (map (sum card flat combination) axes)

-- a coordinate below zero lies outside the space on its own axis: it counts as the largest length, which no coordinate inside reaches
abbrev pub on_axis : ℤ → ℕ
on_axis (pos n) = n
on_axis (negsuc n) = most_length

unfoldable pub coordinates : Card → ℕ → ℕ → List ℕ
coordinates card flat combination = map on_axis (finished card flat combination)

-- rule 5: the cell number is row-major over the axes, pid first, m last
abbrev pub spot_at : Position → Spot
spot_at (At number) = Inside (record { 0 = number })
spot_at (Past axis) = Outside axis

-- where a copy of an element goes: its cell, or the smallest axis on which it lies outside the space
unfoldable pub spot : Card → ℕ → ℕ → Spot
spot card flat combination = spot_at (position card.lengths (coordinates card flat combination))
