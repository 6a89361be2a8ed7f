-- A copy from the base of its element, and a row of copies. Nothing here has to be believed: proofs/Base.antt shows that a copy from the base is the
-- copy of the card.
use Rattle.std.specs.Prelude.{ℕ, ◌≡◌, List, map, ℤ, pos, ◌+ℤ◌, length, get_or}
use Rattle.swizzle.specs.declared.Swizzle.{Swizzle}
use Rattle.card.specs.declared.Iters.{Iters}
use Rattle.rules.specs.RowMajor.{position}
use Rattle.rules.specs.Rules.{axes, part, swizzled_m, on_axis, spot_at}
use Rattle.rules.specs.Copies.{cells_of, outside_of}
use Rattle.rules.specs.declared.Position.{Position}
use Rattle.rules.specs.declared.Spot.{Spot}

-- sums with what iters add to each axis at an index
unfoldable pub walked : Iters → ℕ → List ℤ → List ℤ
walked iters index sums = map (λ axis. get_or sums axis (pos 0) +ℤ part iters index axis) axes

-- where the copy of a combination goes whose base, shard and offset, is known
abbrev pub position_from : List ℕ → Swizzle → Iters → List ℤ → ℕ → Position
position_from lengths swizzle replica base combination = position lengths (map on_axis (swizzled_m swizzle (walked replica combination base)))

abbrev pub spot_from : List ℕ → Swizzle → Iters → List ℤ → ℕ → Spot
spot_from lengths swizzle replica base combination = spot_at (position_from lengths swizzle replica base combination)

-- a row after it was filled with the cells of as many combinations, and the smallest axis on which one lies outside
pub record PlacedRow (at : ℕ → Spot) (before after : List ℕ) (outside : ℕ) : Type 0 where
  pub cells : after ≡ cells_of at (length before)
  pub smallest_axis : outside ≡ outside_of at (length before)
