-- What a walk over a list of a packed card's iters relies on. Nothing here has to be believed.
use Rattle.std.specs.Prelude.{ℕ, ◌+◌, ◌*◌, ◌^◌, ◌≤◌, ◌≡◌, true, List, ℤ, pos, nat_abs, length, get_or}
use Rattle.card.specs.Packed.{iters_of, ListOf}
use Rattle.card.specs.Admission.{iters_fit, iters_on_axes}

-- how far from zero the sums before a walk are at most, with room to spare
abbrev pub roomy : ℕ
roomy = 2 ^ 40

-- a list of iters whose numbers lie within the limits
pub record Walkable (numbers : List ℕ) (strides : List ℤ) (list : ℕ) : Type 0 where
  pub of : ListOf numbers list
  pub fit : iters_fit (iters_of numbers strides list) ≡ true
  pub on_axes : iters_on_axes (iters_of numbers strides list) ≡ true

pub record Sums (sums : List ℤ) : Type 0 where
  pub eight : length sums ≡ 8
  pub small : (axis : ℕ) → nat_abs (get_or sums axis (pos 0)) ≤ roomy

-- a sum, a component and a stride whose product can be added to the sum
pub record Steps (sum : ℤ) (component : ℕ) (stride : ℤ) : Type 0 where
  pub small_component : component ≤ 2 ^ 32
  pub room : nat_abs sum + component * nat_abs stride ≤ 2 ^ 62
