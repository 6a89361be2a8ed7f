-- The element that coordinates name, by where they are among the dimensions.
use Rattle.std.specs.Prelude.{None, Some, Option}
use mathlib.Core.Path.{◌≡◌, refl, sym, ap, ◌∙◌}
use mathlib.Core.Bool.{Bool, true, false, cond, and-eq-true_iff}
use Prim.Native.Nat.{ℕ, ◌≤◌}
use native.Mathlib.Omega.{arith}
use borrow.Author.Tests.{eq-eqb, ne_eqb, eqb-true}
use lib.Dec.{eqb}
use lib.ListN.{take}
use Rattle.laws.proofs.Rungs.{apart}
use Rattle.answers.specs.declared.Flat.{Flat}
use Rattle.card.specs.Lists.{within, product}
use Rattle.card.specs.Limits.{most_elements}
use Rattle.card.proofs.Lists.{within_numbers}
use Rattle.rules.specs.RowMajor.{position}
use Rattle.placement_judged.specs.Placement.{entries, most_dimensions, shape_admitted, coordinates_fit, flatten}
use Rattle.placement.specs.Clauses.{Shaped, element}
use Rattle.placement_judged.specs.declared.Tuple.{Tuple}
use Rattle.rules.specs.declared.Position.TheVariants.{At, Past}
use Rattle.rules.proofs.Spots.{position_at, position_past}

module _ (shape coordinates : Tuple) where
  pub element_uncounted : (coordinates.count ≡ shape.count → ⊥) → None ≡ element shape coordinates
  element_uncounted h = rw (ne_eqb coordinates.count shape.count h)

  module _ (same : coordinates.count ≡ shape.count) where
    asked : position (entries shape) (take shape.count coordinates.at) ≡ position (entries shape) (entries coordinates)
    asked = ap (λ (n : ℕ). position (entries shape) (take n coordinates.at)) (sym same)

    pub element_found : (n : ℕ) → position (entries shape) (take shape.count coordinates.at) ≡ At n → Some (record { 0 = n }) ≡ element shape coordinates
    element_found n e =
        let p = position_at (entries shape) (entries coordinates) n (sym asked ∙ e) in
        rw (eq-eqb coordinates.count shape.count same, p.within, p.number)

    pub element_past : (k : ℕ) → position (entries shape) (take shape.count coordinates.at) ≡ Past k → None ≡ element shape coordinates
    element_past k e =
        rw (eq-eqb coordinates.count shape.count same, (position_past (entries shape) (entries coordinates) k (sym asked ∙ e)).0)

  -- and back: the coordinates fit exactly where they name an element, and it is the one they flatten to
  pub named : (flat : Flat) → element shape coordinates ≡ Some flat → (coordinates_fit shape coordinates ≡ true) × (flatten shape coordinates ≡ flat.0)
  named flat = split (coordinates_fit shape coordinates) refl
    where
      split : (b : Bool) → coordinates_fit shape coordinates ≡ b → cond {A = Option Flat} b (Some (record { 0 = flatten shape coordinates })) None ≡ Some flat
          → (coordinates_fit shape coordinates ≡ true) × (flatten shape coordinates ≡ flat.0)
      split true t e = let same : record { 0 = flatten shape coordinates } ≡ flat = cc in (t, ap (λ (f : Flat). f.0) same)
      split false t e = absurd (apart (cc))

  pub unnamed : element shape coordinates ≡ None → coordinates_fit shape coordinates ≡ false
  unnamed = split (coordinates_fit shape coordinates) refl
    where
      split : (b : Bool) → coordinates_fit shape coordinates ≡ b → cond {A = Option Flat} b (Some (record { 0 = flatten shape coordinates })) None ≡ None
          → coordinates_fit shape coordinates ≡ false
      split true t e = absurd (apart (cc))
      split false t e = t

-- an admitted shape can be numbered
pub shaped : (shape : Tuple) (elements : ℕ) → 1 ≤ elements → elements ≤ most_elements → shape_admitted shape elements ≡ true → Shaped shape
shaped shape elements some few t =
    let both = (and-eq-true_iff (within 1 most_dimensions shape.count) (eqb (product (entries shape)) elements)).0 t in
    let equal = eqb-true (product (entries shape)) elements both.1 in
    record { few_dimensions = (within_numbers 1 most_dimensions shape.count both.0).1; some = omega arith; small = omega arith }
