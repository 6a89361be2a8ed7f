-- The first of so many at which something holds: the same where alike things hold, and of a part after which the search goes on.
use mathlib.Core.Path.{◌≡◌}
use Prim.Native.Nat.{ℕ, ◌+◌, ◌-◌, ◌≤◌, ◌<◌}
use native.Mathlib.Decide.{dec_lt}
use native.Mathlib.Omega.{arith}
use Rattle.rules_linear.specs.Leaving.{Sought}

pub sought_alike : {P : ℕ → Type 0} {Q : ℕ → Type 0} {n i : ℕ} → ((c : ℕ) → c < n → P c → Q c) → ((c : ℕ) → c < n → Q c → P c) → Sought P n i → Sought Q n i
sought_alike {P} {Q} {n} {i} to from s = record { most = s.most; holds = λ h. to i h (s.holds h); least = λ j h q. s.least j h (from j h q) }

-- at a place, or none
pub sought_none : {P : ℕ → Type 0} {n : ℕ} → ((j : ℕ) → j < n → P j → ⊥) → Sought P n n
sought_none none = record { most = omega arith; holds = λ h. absurd (omega arith); least = λ j h p. absurd (none j h p) }

pub sought_here : {P : ℕ → Type 0} {n i : ℕ} → i < n → P i → ((j : ℕ) → j < i → P j → ⊥) → Sought P n i
sought_here {P} {n} {i} few here none = record {
  most = omega arith;
  holds = λ h. here;
  least = λ j h p. elim (dec_lt j i) [ yes early ↦ absurd (none j early p) | no late ↦ omega arith ];
}

-- from a place on, below which it holds nowhere
module _ {P : ℕ → Type 0} (from count found : ℕ) (none : (j : ℕ) → j < from → P j → ⊥) (s : Sought (λ c. P (from + c)) count found) where
  pub part_passed : (j : ℕ) → j < from + found → P j → ⊥
  part_passed j h p =
      elim (dec_lt j from) [
        | yes early ↦ none j early p
        | no late ↦
            let same : j ≡ from + (j - from) = omega arith in
            let most = s.most in
            omega (arith, s.least (j - from) (omega arith) (rw (← same) p))
      ]

  pub part_found : (limit : ℕ) → from + count ≤ limit → found < count → Sought P limit (from + found)
  part_found limit few h = sought_here (omega arith) (s.holds h) part_passed
