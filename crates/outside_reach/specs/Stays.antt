-- A card whose far ends lie inside the space, m below the last whole block of it, which no swizzle leaves. Nothing here has to be believed.
use Rattle.std.specs.Prelude.{ℕ, ◌+◌, ◌^◌, ◌<◌, true, false, pos, get_or, ◌≤ℤ◌, ◌<ℤ◌}
use Rattle.card.specs.Limits.{last_axis}
use Rattle.card.specs.declared.Card.{Card}
use Rattle.outside_reach.specs.Ends.{end_sum, whole_blocks}

pub record Stays (card : Card) : Type 0 where
  pub low : (axis : ℕ) → axis < 8 → pos 0 ≤ℤ end_sum false card axis
  pub high : (axis : ℕ) → axis < last_axis → end_sum true card axis <ℤ pos (get_or card.lengths axis 0)
  pub m_high : end_sum true card last_axis <ℤ pos (whole_blocks (get_or card.lengths last_axis 0) (2 ^ (card.swizzle.m + card.swizzle.b)))
