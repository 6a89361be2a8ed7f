-- What the functions inside speak of: a shape that can be numbered, the element that coordinates in it name, and its copies. Nothing here has
-- to be believed.
use Rattle.std.specs.Prelude.{ℕ, ◌≤◌, ◌<◌, ◌≡◌, cond, List, length, Option, Some, None}
use Rattle.answers.specs.declared.Flat.{Flat}
use Rattle.card.specs.Lists.{product}
use Rattle.card.specs.Packed.{beyond}
use Rattle.card.specs.declared.Card.{Card}
use Rattle.rules.specs.Rules.{axes}
use Rattle.rules.specs.Copies.{copy_cells, outside_axis}
use Rattle.placement_judged.specs.Placement.{entries, coordinates_fit, flatten}
use Rattle.placement_judged.specs.declared.Tuple.{Tuple}

-- a shape that can be numbered
pub record Shaped (shape : Tuple) : Type 0 where
  pub few_dimensions : shape.count ≤ 8
  pub some : 1 ≤ product (entries shape)
  pub small : product (entries shape) ≤ beyond

-- the element that coordinates in a shape name
abbrev pub element : Tuple → Tuple → Option Flat
element shape coordinates = cond (coordinates_fit shape coordinates) (Some (record { 0 = flatten shape coordinates })) None

-- memory as long as there are copies, before and after their cells were made, and the smallest axis on which one lies outside
pub record Placed (card : Card) (flat : ℕ) (before after : List ℕ) (axis : ℕ) : Type 0 where
  pub smallest_axis : axis ≡ outside_axis card flat
  pub refused : axis < length axes → after ≡ before
  pub placed : length axes ≤ axis → after ≡ copy_cells card flat
