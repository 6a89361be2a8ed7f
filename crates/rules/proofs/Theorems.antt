-- What rules 1 to 5 mean, and which axis refusal 7 names, in plain for-alls.
use mathlib.Core.Path.{◌≡◌, refl, ap, ◌∙◌, fun_ext}
use mathlib.Core.Bool.{true}
use mathlib.Core.List.{List, map}
use Prim.Native.Nat.{ℕ, ◌≤◌, ◌<◌}
use native.Mathlib.Nat.{ne_of_lt}
use native.Mathlib.Omega.{arith}
use lib.IntN.{pos, negsuc}
use lib.ListN.{length, get_or}
use lib.Seq.{get_or-set_other}
use Rattle.card.specs.Lists.{product}
use Rattle.card.specs.Limits.{last_axis}
use Rattle.card.specs.Card.{listed, extent_of, elements, copies, cells}
use Rattle.card.specs.declared.Card.{Card}
use Rattle.card.proofs.Theorems.{AlikeCards}
use Rattle.rules.specs.RowMajor.{row_major, components, inside}
use Rattle.rules.specs.Rules.{axes, sum, swizzled_z, finished, coordinates, spot}
use Rattle.rules.specs.Copies.{cell_of, past_axis, outside_axis}
use Rattle.rules.specs.Reuse.{leader}
use Rattle.rules.specs.declared.Spot.{Spot}
use Rattle.rules.specs.declared.Spot.TheVariants.{Inside, Outside}
use Rattle.rules.proofs.RowMajor.{row_major_below, row_major_one_to_one, components_inside, components_give_back}
use Rattle.card.proofs.ReadBack.{eight_at}
use Rattle.rules.proofs.Spots.{spot_inside, cell_below}
use Rattle.rules.proofs.Filling.{outside_least, outside_found}

-- row-major numbers are one-to-one from the coordinates inside the sizes onto the numbers below their product
pub record OneToOne (sizes : List ℕ) : Type 0 where
  pub below : (xs : List ℕ) → inside sizes xs ≡ true → row_major sizes xs < product sizes
  -- each number below the product is hit, by its components
  pub hit : (n : ℕ) → n < product sizes → (inside sizes (components sizes n) ≡ true) × (row_major sizes (components sizes n) ≡ n)
  -- and hit once
  pub once : (xs ys : List ℕ) → inside sizes xs ≡ true → inside sizes ys ≡ true → row_major sizes xs ≡ row_major sizes ys → xs ≡ ys

pub one_to_one : (sizes : List ℕ) → OneToOne sizes
one_to_one sizes = record {
  below = row_major_below sizes;
  hit = λ n h. (components_inside sizes n (omega arith), components_give_back sizes n h);
  once = row_major_one_to_one sizes;
}

-- rule 2: the components of a flat index give it back
pub components_of_flat : (card : Card) (flat : ℕ) → flat < elements card
    → row_major (map extent_of (listed card.shard)) (components (map extent_of (listed card.shard)) flat) ≡ flat
components_of_flat card flat h = components_give_back (map extent_of (listed card.shard)) flat h

-- rule 3: the numbers below the copies name each replica combination once
pub combination_one_to_one : (card : Card) → OneToOne (map extent_of (listed card.replica))
combination_one_to_one card = one_to_one (map extent_of (listed card.replica))

-- rule 5: cell numbers name each cell below the cells by one coordinate tuple inside the space
pub cell_one_to_one : (card : Card) → OneToOne card.lengths
cell_one_to_one card = one_to_one card.lengths

-- rules 3 and 4: on every axis but m the coordinate is the sum of its three parts, and on m the swizzle of that sum
pub coordinate_at : (card : Card) (flat combination axis : ℕ) → axis < last_axis → get_or (finished card flat combination) axis (pos 0) ≡ sum card flat combination axis
coordinate_at card flat combination axis h =
    get_or-set_other (map (sum card flat combination) axes) last_axis axis _ (pos 0) (ne_of_lt h) ∙ eight_at (sum card flat combination) (pos 0) axis (omega arith)

pub m_coordinate : (card : Card) (flat combination : ℕ)
    → get_or (finished card flat combination) last_axis (pos 0) ≡ swizzled_z card.swizzle (sum card flat combination last_axis)
m_coordinate card flat combination = refl

-- m below zero is not swizzled
pub m_below_zero : (card : Card) (flat combination n : ℕ) → sum card flat combination last_axis ≡ negsuc n
    → get_or (finished card flat combination) last_axis (pos 0) ≡ negsuc n
m_below_zero card flat combination n e = ap (swizzled_z card.swizzle) e

-- the axis that refusal 7 names: a copy lies outside on it, and none on a smaller one
pub record SmallestOutside (card : Card) (flat axis : ℕ) : Type 0 where
  pub somewhere : (combination : ℕ) × (combination < copies card) × (spot card flat combination ≡ Outside axis)
  pub none_smaller : (combination other : ℕ) → combination < copies card → spot card flat combination ≡ Outside other → axis ≤ other

past_is_outside : (p : Spot) → past_axis p < length axes → p ≡ Outside (past_axis p)
past_is_outside (Inside cell) h = absurd (omega arith)
past_is_outside (Outside axis) h = refl

pub outside_axis_smallest : (card : Card) (flat : ℕ) → outside_axis card flat < length axes → SmallestOutside card flat (outside_axis card flat)
unfolding outside_axis
outside_axis_smallest card flat h =
    let at = spot card flat in
    let f = outside_found at (copies card) h in
    record {
      somewhere = (f.0, f.1, past_is_outside (at f.0) (omega (arith, f.2)) ∙ ap Outside f.2);
      none_smaller = λ r other below e. omega (arith, outside_least at (copies card) r below, ap past_axis e);
    }

-- and where it names none, every copy has its cell, below the cells
pub outside_axis_none : (card : Card) (flat : ℕ) → length card.lengths ≡ 8 → length axes ≤ outside_axis card flat
    → (combination : ℕ) → combination < copies card
    → (spot card flat combination ≡ Inside (record { 0 = cell_of (spot card flat combination) })) × (cell_of (spot card flat combination) < cells card)
unfolding outside_axis
outside_axis_none card flat eight h r below =
    let inside = spot_inside card flat r eight (omega (arith, outside_least (spot card flat) (copies card) r below)) in
    (inside, cell_below card flat r (record { 0 = cell_of (spot card flat r) }) inside)

-- iters past a count play no part in where a copy goes
pub past_the_count_placed : (a b : Card) → AlikeCards a b → (flat combination : ℕ) → spot a flat combination ≡ spot b flat combination
unfolding spot coordinates
past_the_count_placed a b k flat combination = rw (k.shard.iters, k.replica.iters, k.offset, k.lengths, k.swizzle)

-- nor in who leads
pub same_led : (a b : Card) → AlikeCards a b → leader a ≡ leader b
unfolding leader
same_led a b k = fun_ext led
  where
    led : (flat : ℕ) → leader a flat ≡ leader b flat
    led flat = rw (k.shard.iters, k.marks)

pub same_spot : (a b : Card) → AlikeCards a b → spot a ≡ spot b
same_spot a b k = fun_ext (λ flat. fun_ext (λ r. past_the_count_placed a b k flat r))
