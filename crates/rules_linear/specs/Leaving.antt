-- The first of so many at which something holds, and where an element leaves the space. Nothing here has to be believed.
use Rattle.std.specs.Prelude.{ℕ, ◌≤◌, ◌<◌, pos, get_or}
use Rattle.card.specs.Card.{copies}
use Rattle.card.specs.declared.Card.{Card}
use Rattle.rules.specs.Rules.{finished}
use Rattle.rules.proofs.Whole.{Lies}

-- the first of n at which something holds, or n where it holds at none
pub record Sought (P : ℕ → Type 0) (n i : ℕ) : Type 0 where
  pub most : i ≤ n
  pub holds : i < n → P i
  pub least : (j : ℕ) → j < n → P j → i ≤ j

-- a copy of an element lies outside the space on an axis
pub record Leaves (card : Card) (flat axis : ℕ) : Type 0 where
  pub combination : ℕ
  pub copy : combination < copies card
  pub off : Lies (get_or card.lengths axis 0) (get_or (finished card flat combination) axis (pos 0)) → ⊥
