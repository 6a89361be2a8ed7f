-- What inside and outside mean over whole numbers: a copy lies inside exactly when each finished coordinate is from 0 to below its length, and
-- outside it is on the smallest axis where that fails.
use mathlib.Core.Path.{◌≡◌}
use mathlib.Core.Bool.{true, and-eq-true_iff}
use mathlib.Core.List.{List, [], ◌∷◌}
use Prim.Native.Nat.{ℕ, zero, suc, ◌≤◌, ◌<◌, zero-le}
use native.Mathlib.Nat.{not-suc-le-zero, le_of_suc-le-suc}
use native.Mathlib.Omega.{arith}
use borrow.Author.Tests.{ltb-true}
use lib.Dec.{leb, ltb, le→leb, lt→ltb, ltb→lt}
use lib.IntN.{ℤ, pos, negsuc}
use lib.ListN.{length, get_or, get_or-map}
use lib.Signed.{◌≤ℤ◌, ◌<ℤ◌, le_z_yes, lt_z_yes}
use Rattle.laws.proofs.Rungs.{apart}
use Rattle.answers.specs.declared.Cell.{Cell}
use Rattle.card.specs.Lists.{all, within, product}
use Rattle.card.specs.Limits.{most_length, most_cells}
use Rattle.card.specs.Admission.{space_fits}
use Rattle.card.specs.declared.Card.{Card}
use Rattle.card.proofs.Lists.{all_at, within_numbers}
use Rattle.rules.specs.RowMajor.{inside}
use Rattle.rules.specs.Rules.{finished, on_axis, coordinates, spot}
use Rattle.rules.specs.declared.Spot.TheVariants.{Inside, Outside}
use Rattle.rules.proofs.Spots.{spot_outside, spot_numbered}

-- from 0 to below a length
abbrev pub Lies : ℕ → ℤ → Type 0
Lies n z = (pos 0 ≤ℤ z) × (z <ℤ pos n)

lies : (n : ℕ) (z : ℤ) → n ≤ most_length → on_axis z < n → Lies n z
lies n (pos k) few h = (le_z_yes (le→leb 0 k zero-le), lt_z_yes (lt→ltb k n h))
lies n (negsuc k) few h = absurd (omega arith)

lies_on_axis : (n : ℕ) (z : ℤ) → Lies n z → on_axis z < n
lies_on_axis n (pos k) l = ltb→lt k n l.1.lt
lies_on_axis n (negsuc k) l = absurd l.0.le

pub inside_each : (sizes xs : List ℕ) → inside sizes xs ≡ true → (k : ℕ) → k < length sizes → get_or xs k 0 < get_or sizes k 0
inside_each [] xs t k h = absurd (not-suc-le-zero h)
inside_each (n ∷ ns) [] t k h = absurd (apart (cc))
inside_each (n ∷ ns) (x ∷ xs) t zero h = ltb-true x n ((and-eq-true_iff (ltb x n) (inside ns xs)).0 t).0
inside_each (n ∷ ns) (x ∷ xs) t (suc k) h = inside_each ns xs ((and-eq-true_iff (ltb x n) (inside ns xs)).0 t).1 k (le_of_suc-le-suc h)

-- a card whose space fits, and one copy of an element
module _ (card : Card) (eight : length card.lengths ≡ 8) (fits : space_fits card.lengths ≡ true) (flat combination : ℕ) where
  -- the finished coordinate lies on this axis
  abbrev pub On : ℕ → Type 0
  On axis = Lies (get_or card.lengths axis 0) (get_or (finished card flat combination) axis (pos 0))

  short : (axis : ℕ) → axis < 8 → get_or card.lengths axis 0 ≤ most_length
  short axis h =
      let all_fit = ((and-eq-true_iff (all (within 1 most_length) card.lengths) (leb (product card.lengths) most_cells)).0 fits).0 in
      let most = within_numbers 1 most_length (get_or card.lengths axis 0) (all_at (within 1 most_length) card.lengths axis 0 all_fit (omega arith)) in
      omega (arith, most.1)

  same : (axis : ℕ) → get_or (coordinates card flat combination) axis 0 ≡ on_axis (get_or (finished card flat combination) axis (pos 0))
  unfolding coordinates
  same axis = get_or-map on_axis (finished card flat combination) axis (pos 0)

  pub on_every_axis : (cell : Cell) → spot card flat combination ≡ Inside cell → (axis : ℕ) → axis < 8 → On axis
  on_every_axis cell e axis h =
      let below = inside_each card.lengths (coordinates card flat combination) (spot_numbered card flat combination cell e).within axis (omega arith) in
      lies (get_or card.lengths axis 0) (get_or (finished card flat combination) axis (pos 0)) (short axis h) (omega (arith, below, same axis))

  pub record OffAxis (axis : ℕ) : Type 0 where
    pub an_axis : axis < 8
    pub off : On axis → ⊥
    pub on_smaller : (smaller : ℕ) → smaller < axis → On smaller

  pub off_smallest_axis : (axis : ℕ) → spot card flat combination ≡ Outside axis → OffAxis axis
  off_smallest_axis axis e =
      let f = spot_outside card flat combination axis eight e in
      record {
        an_axis = omega (arith, f.a_place);
        off = λ on.
            let below = lies_on_axis (get_or card.lengths axis 0) (get_or (finished card flat combination) axis (pos 0)) on in
            omega (arith, f.past, same axis);
        on_smaller = λ k h.
            lies (get_or card.lengths k 0) (get_or (finished card flat combination) k (pos 0)) (short k (omega (arith, f.a_place)))
            (omega (arith, f.before_it k h, same k));
      }
