-- What the functions inside promise each other: a position as one number, and what a walk and the copies of an element rely on.
use Rattle.std.specs.Prelude.{ℕ, ◌+◌, ◌*◌, ◌-◌, ◌^◌, ◌≤◌, ◌≡◌, true, cond, List, ltb, ℤ, pos, nat_abs, length, get_or}
use Rattle.std.proofs.Math.Seq.{slice}
use Rattle.swizzle.specs.Swizzle.{permitted}
use Rattle.card.specs.Lists.{product}
use Rattle.card.specs.Limits.{most_extent}
use Rattle.card.specs.Packed.{beyond, farthest, iters_of, ListOf}
use Rattle.card.specs.Admission.{iters_fit, iters_on_axes, space_fits}
use Rattle.rules.specs.Rules.{axes}
use Rattle.copies_sums.specs.Walks.{Walkable, Sums}
use Rattle.rules.specs.declared.Position.{Position}
use Rattle.rules.specs.declared.Position.TheVariants.{At, Past}

-- a position as one number: that of the coordinates, or from beyond on the place past its size
abbrev pub number_of : Position → ℕ
number_of (At number) = number
number_of (Past k) = beyond + k

-- the position that such a number stands for, the cell that it names, 0 outside, and the axis on which it lies outside, or the number of axes
abbrev pub position_of : ℕ → Position
position_of number = cond (ltb number beyond) (At number) (Past (number - beyond))

abbrev pub cell_from : ℕ → ℕ
cell_from number = cond (ltb number beyond) number 0

abbrev pub axis_from : ℕ → ℕ
axis_from number = cond (ltb number beyond) (length axes) (number - beyond)

-- the swizzle numbers are permitted
abbrev pub Permits : List ℕ → Type 0
Permits numbers = permitted (get_or numbers 42 0) (get_or numbers 43 0) (get_or numbers 44 0) ≡ true

-- sizes that coordinates can be numbered among: up to eight, none 0, and their product can be told apart
pub record Numerable (sizes : List ℕ) (from count : ℕ) : Type 0 where
  pub there : from + count ≤ length sizes
  pub few : count ≤ 8
  pub some : 1 ≤ product (slice from (from + count) sizes)
  pub small : product (slice from (from + count) sizes) ≤ beyond

-- what the copies of an element are placed by: its base, the replica, the space and a permitted swizzle
pub record Ready (base : List ℤ) (numbers : List ℕ) (strides : List ℤ) : Type 0 where
  pub sums : Sums base
  pub iters : Walkable numbers strides 1
  pub space : space_fits (slice 32 40 numbers) ≡ true
  pub swizzles : Permits numbers
