-- m of an element and of its copies, which the swizzle then moves. Nothing here has to be believed.
use Rattle.std.specs.Prelude.{ℕ, ◌<◌, ◌≡◌, List, ℤ, pos, ◌+ℤ◌, length, get_or}
use Rattle.card.specs.Limits.{last_axis}
use Rattle.card.specs.Card.{copies}
use Rattle.card.specs.Packed.{swizzle_of}
use Rattle.card.specs.declared.Card.{Card}
use Rattle.rules.specs.Rules.{part, swizzled_z}
use Rattle.rules.proofs.Whole.{Lies}

-- what the offset and a replica combination add to m
abbrev pub m_adds : Card → ℕ → ℤ
m_adds card combination = get_or card.offset last_axis (pos 0) +ℤ part card.replica combination last_axis

-- one for each copy
pub record CopiesAdd (card : Card) (adds : List ℤ) : Type 0 where
  pub one_each : length adds ≡ copies card
  pub there : (r : ℕ) → r < length adds → get_or adds r (pos 0) ≡ m_adds card r

-- a finished m, swizzled, lies inside its length
abbrev pub MLies : List ℕ → ℤ → Type 0
MLies numbers m = Lies (get_or numbers 39 0) (swizzled_z (swizzle_of numbers) m)

-- one of the copies has an m that does not
pub record MLeaves (numbers : List ℕ) (adds : List ℤ) (m : ℤ) : Type 0 where
  pub copy : ℕ
  pub below : copy < length adds
  pub off : MLies numbers (m +ℤ get_or adds copy (pos 0)) → ⊥
