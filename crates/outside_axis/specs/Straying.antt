-- The first element that strays from a bound on an axis. Nothing here has to be believed.
use Rattle.std.specs.Prelude.{ℕ, ◌<◌, Bool, true, false, ℤ, pos, negsuc, ◌-ℤ◌, ◌≤ℤ◌, ◌<ℤ◌}
use Rattle.card.specs.Card.{copies}
use Rattle.card.specs.declared.Card.{Card}
use Rattle.rules.specs.Rules.{sum}
use Rattle.rules.proofs.Whole.{Lies}
use Rattle.outside_reach.specs.Ends.{end_index, end_sum}

-- a copy of an element has a sum on an axis that does not lie from 0 to below a bound
pub record Strays (card : Card) (axis bound flat : ℕ) : Type 0 where
  pub combination : ℕ
  pub copy : combination < copies card
  pub off : Lies bound (sum card flat combination axis) → ⊥

-- the copy of an element that lies furthest up does not lie below the bound, or the one furthest down lies below zero
abbrev pub Reaches : Bool → Card → ℕ → ℕ → ℕ → Type 0
Reaches true card axis bound flat = pos bound ≤ℤ sum card flat (end_index true card.replica) axis
Reaches false card axis bound flat = sum card flat (end_index false card.replica) axis <ℤ pos 0

-- how far beyond the bound, or zero, a far end of the card lies
abbrev pub beyond_end : Bool → Card → ℕ → ℕ → ℤ
beyond_end true card axis bound = end_sum true card axis -ℤ pos bound
beyond_end false card axis bound = negsuc 0 -ℤ end_sum false card axis
