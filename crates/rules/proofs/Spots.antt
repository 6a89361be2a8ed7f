-- What a spot says: inside, its cell is the number of its coordinates, and so below the cells; two cells are equal exactly when all coordinates are.
use mathlib.Core.Path.{◌≡◌, refl, sym, ap, ◌∙◌, subst}
use mathlib.Core.Bool.{Bool, true, false, cond}
use mathlib.Core.Logic.{◌↔◌}
use mathlib.Core.List.{List}
use Prim.Native.Nat.{ℕ, ◌≤◌, ◌<◌}
use native.Mathlib.Omega.{arith}
use lib.ListN.{length}
use Rattle.laws.proofs.Rungs.{apart}
use Rattle.answers.specs.declared.Cell.{Cell}
use Rattle.card.specs.Lists.{product}
use Rattle.card.specs.Card.{cells}
use Rattle.card.specs.declared.Card.{Card}
use Rattle.rules.specs.RowMajor.{row_major, inside, first_past, position}
use Rattle.rules.specs.Rules.{axes, coordinates, spot_at, spot}
use Rattle.rules.specs.Copies.{cell_of, past_axis}
use Rattle.rules.specs.declared.Position.{Position}
use Rattle.rules.specs.declared.Position.TheVariants.{At, Past}
use Rattle.rules.specs.declared.Spot.{Spot}
use Rattle.rules.specs.declared.Spot.TheVariants.{Inside, Outside}
use Rattle.rules.proofs.RowMajor.{row_major_below, row_major_one_to_one, FirstPast, first_past_lem}

-- coordinates that have a number are inside, and it is theirs
pub record Numbered (sizes xs : List ℕ) (n : ℕ) : Type 0 where
  pub within : inside sizes xs ≡ true
  pub number : row_major sizes xs ≡ n

module _ (sizes xs : List ℕ) where
  pub position_at : (n : ℕ) → position sizes xs ≡ At n → Numbered sizes xs n
  unfolding position
  position_at n = split (inside sizes xs) refl
    where
      split : (b : Bool) → inside sizes xs ≡ b → cond b (At (row_major sizes xs)) (Past (first_past sizes xs)) ≡ At n → Numbered sizes xs n
      split true t e = record { within = t; number = cc }
      split false t e = absurd (apart (cc))

  pub position_past : (k : ℕ) → position sizes xs ≡ Past k → (inside sizes xs ≡ false) × (first_past sizes xs ≡ k)
  unfolding position
  position_past k = split (inside sizes xs) refl
    where
      split : (b : Bool) → inside sizes xs ≡ b → cond b (At (row_major sizes xs)) (Past (first_past sizes xs)) ≡ Past k
          → (inside sizes xs ≡ false) × (first_past sizes xs ≡ k)
      split true t e = absurd (apart (cc))
      split false t e = (t, cc)

-- a spot inside is that of a number
inside_at : (p : Position) (cell : Cell) → spot_at p ≡ Inside cell → p ≡ At cell.0
inside_at (At n) cell e = let same : record { 0 = n } ≡ cell = cc in ap (λ (c : Cell). At c.0) same
inside_at (Past k) cell e = absurd (apart (cc))

-- and one outside is that of a place past its size
pub outside_past : (p : Position) (axis : ℕ) → spot_at p ≡ Outside axis → p ≡ Past axis
outside_past (At n) axis e = absurd (apart (cc))
outside_past (Past k) axis e = ap Past (cc)

-- the smallest axis on which the copy lies outside
pub spot_outside : (card : Card) (flat combination axis : ℕ) → length card.lengths ≡ 8 → spot card flat combination ≡ Outside axis
    → FirstPast card.lengths (coordinates card flat combination) axis
unfolding spot coordinates
spot_outside card flat combination axis eight e =
    let xs = coordinates card flat combination in
    let p = position_past card.lengths xs axis (outside_past (position card.lengths xs) axis e) in
    rw (sym p.1) (first_past_lem card.lengths xs (sym eight) p.0)

-- a spot that is past no axis is inside
pub spot_inside : (card : Card) (flat combination : ℕ) → length card.lengths ≡ 8 → length axes ≤ past_axis (spot card flat combination)
    → spot card flat combination ≡ Inside (record { 0 = cell_of (spot card flat combination) })
spot_inside card flat combination eight = split (spot card flat combination) refl
  where
    split : (p : Spot) → spot card flat combination ≡ p → length axes ≤ past_axis p → p ≡ Inside (record { 0 = cell_of p })
    split (Inside cell) e h = refl
    split (Outside axis) e h = let f = spot_outside card flat combination axis eight e in absurd (omega (arith, f.a_place))

module _ (card : Card) (flat combination : ℕ) (cell : Cell) (e : spot card flat combination ≡ Inside cell) where
  pub spot_numbered : Numbered card.lengths (coordinates card flat combination) cell.0
  unfolding spot
  spot_numbered = position_at card.lengths (coordinates card flat combination) cell.0 (inside_at _ cell e)

  -- a cell is below the cells
  pub cell_below : cell.0 < cells card
  cell_below = subst (λ (n : ℕ). n < cells card) spot_numbered.number (row_major_below card.lengths (coordinates card flat combination) spot_numbered.within)

-- two cells are equal exactly when all coordinates are
pub cells_equal : (card : Card) (f r g s : ℕ) (p q : Cell) → spot card f r ≡ Inside p → spot card g s ≡ Inside q
    → (p ≡ q) ↔ (coordinates card f r ≡ coordinates card g s)
cells_equal card f r g s p q e d =
    let a = spot_numbered card f r p e in
    let b = spot_numbered card g s q d in (
      (λ same.
          row_major_one_to_one card.lengths (coordinates card f r) (coordinates card g s) a.within b.within
          (a.number ∙ ap (λ (c : Cell). c.0) same ∙ sym b.number)),
      (λ same.
          ap (λ (n : ℕ). record { 0 = n }) (sym a.number ∙ ap (row_major card.lengths) same ∙ b.number)),
    )

-- the number of a spot, inside or not, is below what the cells are below
pub cell_small : (lengths xs : List ℕ) (limit : ℕ) → 0 < product lengths → product lengths ≤ limit → cell_of (spot_at (position lengths xs)) < limit
unfolding position
cell_small lengths xs limit some few = split (inside lengths xs) refl
  where
    split : (b : Bool) → inside lengths xs ≡ b → cell_of (spot_at (cond b (At (row_major lengths xs)) (Past (first_past lengths xs)))) < limit
    split true t = let below = row_major_below lengths xs t in omega arith
    split false t = omega arith
