-- Inside and outside exactly, over whole numbers: a copy is in a cell exactly when each of its finished coordinates lies from 0 to below its length and the
-- cell is their row-major number, and outside on an axis exactly when it is the smallest on which that fails; the two cases shut each other out.
use mathlib.Core.Path.{◌≡◌, refl, sym, ap, ◌∙◌}
use mathlib.Core.Bool.{true}
use mathlib.Core.Logic.{◌↔◌, ⊎_elim}
use mathlib.Core.List.{List, [], ◌∷◌, map}
use Prim.Native.Nat.{ℕ, zero, suc, ◌≤◌, ◌<◌, suc-le-suc}
use native.Mathlib.Omega.{arith}
use lib.IntN.{ℤ, pos, negsuc, ◌+ℤ◌, ◌*ℤ◌}
use lib.ListN.{length, get_or, get_or-map}
use lib.Seq.{ext_get_or}
use lib.Signed.{◌≤ℤ◌}
use Rattle.laws.proofs.Order.{le_or_lt}
use Rattle.answers.specs.declared.Cell.{Cell}
use Rattle.card.specs.Lists.{product}
use Rattle.card.specs.Admission.{space_fits}
use Rattle.card.specs.declared.Card.{Card}
use Rattle.card.proofs.Within.{SpaceWithin, space_exactly}
use Rattle.rules.specs.RowMajor.{row_major}
use Rattle.rules.specs.Rules.{finished, on_axis, coordinates, spot}
use Rattle.rules.specs.declared.Spot.{Spot}
use Rattle.rules.specs.declared.Spot.TheVariants.{Inside, Outside}
use Rattle.rules.proofs.Spots.{spot_numbered, cells_equal}
use Rattle.rules.proofs.Whole.{Lies, on_every_axis, off_smallest_axis}

-- row-major over whole numbers: each coordinate times the product of the lengths after it, all added up
abbrev pub whole_row_major : List ℕ → List ℤ → ℤ
whole_row_major [] zs = pos 0
whole_row_major (n ∷ after) [] = pos 0
whole_row_major (n ∷ after) (z ∷ zs) = z *ℤ pos (product after) +ℤ whole_row_major after zs

-- a finished coordinate of a copy lies from 0 to below its length
abbrev pub LiesOn : Card → ℕ → ℕ → ℕ → Type 0
LiesOn card flat combination axis = Lies (get_or card.lengths axis 0) (get_or (finished card flat combination) axis (pos 0))

-- a copy is in a cell
pub record InCell (card : Card) (flat combination cell : ℕ) : Type 0 where
  -- every finished coordinate lies from 0 to below its length
  pub each : (axis : ℕ) → axis < 8 → LiesOn card flat combination axis
  -- and the cell is their number, pid first, m last
  pub number : pos cell ≡ whole_row_major card.lengths (finished card flat combination)

-- a copy lies outside the space, on no smaller axis than this one
pub record OutsideOn (card : Card) (flat combination axis : ℕ) : Type 0 where
  pub an_axis : axis < 8
  pub off : LiesOn card flat combination axis → ⊥
  pub on_smaller : (smaller : ℕ) → smaller < axis → LiesOn card flat combination smaller

-- coordinates from 0 on have the number that they have as such
whole_number : (ns : List ℕ) (zs : List ℤ) → ((k : ℕ) → k < length ns → Lies (get_or ns k 0) (get_or zs k (pos 0)))
    → pos (row_major ns (map on_axis zs)) ≡ whole_row_major ns zs
whole_number [] zs lies = refl
whole_number (n ∷ ns) [] lies = refl
whole_number (n ∷ ns) (pos x ∷ zs) lies =
    ap (λ (w : ℤ). pos x *ℤ pos (product ns) +ℤ w) (whole_number ns zs (λ k h. lies (suc k) (suc-le-suc h)))
whole_number (n ∷ ns) (negsuc x ∷ zs) lies = absurd (lies zero (omega arith)).0.le

-- a card whose space lies within the limits, and one copy of an element
module _ (card : Card) (eight : length card.lengths ≡ 8) (within : SpaceWithin card.lengths) (flat combination : ℕ) where
  fits : space_fits card.lengths ≡ true
  fits = (space_exactly card.lengths).1 within

  in_cell : (cell : Cell) → spot card flat combination ≡ Inside cell → InCell card flat combination cell.0
  unfolding coordinates
  in_cell cell e =
      let on = on_every_axis card eight fits flat combination cell e in
      record {
        each = on;
        number =
            sym (ap pos (spot_numbered card flat combination cell e).number)
            ∙ whole_number card.lengths (finished card flat combination) (λ k h. on k (omega arith));
      }

  pub inside_exactly : (cell : Cell) → (spot card flat combination ≡ Inside cell) ↔ InCell card flat combination cell.0
  inside_exactly cell = (in_cell cell, λ i. split i (spot card flat combination) refl)
    where
      split : InCell card flat combination cell.0 → (s : Spot) → spot card flat combination ≡ s → spot card flat combination ≡ Inside cell
      split i (Inside c) e = e ∙ ap (λ (n : ℕ). Inside (record { 0 = n })) (ap on_axis ((in_cell c e).number ∙ sym i.number))
      split i (Outside axis) e =
          let o = off_smallest_axis card eight fits flat combination axis e in absurd (o.off (i.each axis o.an_axis))

  out : (axis : ℕ) → spot card flat combination ≡ Outside axis → OutsideOn card flat combination axis
  out axis e =
      let o = off_smallest_axis card eight fits flat combination axis e in record { an_axis = o.an_axis; off = o.off; on_smaller = o.on_smaller }

  pub outside_exactly : (axis : ℕ) → (spot card flat combination ≡ Outside axis) ↔ OutsideOn card flat combination axis
  outside_exactly axis = (out axis, λ o. split o (spot card flat combination) refl)
    where
      split : OutsideOn card flat combination axis → (s : Spot) → spot card flat combination ≡ s → spot card flat combination ≡ Outside axis
      split o (Inside c) e = absurd (o.off ((in_cell c e).each axis o.an_axis))
      split o (Outside other) e =
          let named = out other e in
          let least : axis ≤ other =
          ⊎_elim (λ (h : axis ≤ other). h) (λ (h : other < axis). absurd (named.off (o.on_smaller other h))) (le_or_lt axis other) in
          let most : other ≤ axis =
          ⊎_elim (λ (h : other ≤ axis). h) (λ (h : axis < other). absurd (o.off (named.on_smaller axis h))) (le_or_lt other axis) in
          e ∙ ap Outside (omega arith)

from_zero : (z w : ℤ) → pos 0 ≤ℤ z → pos 0 ≤ℤ w → on_axis z ≡ on_axis w → z ≡ w
from_zero (pos a) (pos b) h k e = ap pos e
from_zero (pos a) (negsuc b) h k e = absurd k.le
from_zero (negsuc a) w h k e = absurd h.le

-- two copies inside are in one cell exactly when all their finished coordinates are the same
pub same_cell_exactly : (card : Card) → length card.lengths ≡ 8 → SpaceWithin card.lengths → (f r g s : ℕ) (p q : Cell)
    → spot card f r ≡ Inside p → spot card g s ≡ Inside q
    → (p ≡ q) ↔ ((axis : ℕ) → axis < 8 → get_or (finished card f r) axis (pos 0) ≡ get_or (finished card g s) axis (pos 0))
unfolding coordinates
same_cell_exactly card eight within f r g s p q e d =
    let a = in_cell card eight within f r p e in
    let b = in_cell card eight within g s q d in (
      λ one axis h.
          from_zero (get_or (finished card f r) axis (pos 0)) (get_or (finished card g s) axis (pos 0)) (a.each axis h).0 (b.each axis h).0
          (sym (get_or-map on_axis (finished card f r) axis (pos 0))
          ∙ ap (λ (xs : List ℕ). get_or xs axis 0) ((cells_equal card f r g s p q e d).0 one)
          ∙ get_or-map on_axis (finished card g s) axis (pos 0)),
      λ same.
          let coordinates-same = ext_get_or (pos 0) (finished card f r) (finished card g s) refl (λ k h. same k h) in
          ap (λ (n : ℕ). record { 0 = n })
          (ap on_axis (a.number ∙ ap (whole_row_major card.lengths) coordinates-same ∙ sym b.number)),
    )
