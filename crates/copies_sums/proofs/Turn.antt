-- What one turn of a walk over a packed list of iters meets: numbers within their limits, and sums with room.
use mathlib.Core.Path.{◌≡◌, refl, sym, ap, ◌∙◌}
use mathlib.Core.Bool.{Bool, true, and-eq-true_iff}
use mathlib.Core.List.{List, [], ◌∷◌, map}
use Prim.Native.Nat.{ℕ, zero, suc, ◌+◌, ◌*◌, ◌%◌, ◌≤◌, ◌<◌}
use native.Mathlib.Nat.{mul-le-mul_right, mod-lt, le_trans}
use native.Mathlib.Omega.{arith}
use lib.IntN.{ℤ, nat_abs}
use lib.ListN.{length, get_or, take, drop, length-map, length-take, length-drop, get_or-map}
use lib.Seq.{slice, get_or-take}
use Rattle.laws.proofs.Lists.{slice_next}
use Rattle.card.specs.Lists.{all, within, within_z, slots}
use Rattle.card.specs.Limits.{most_extent, least_stride, most_stride, last_axis}
use Rattle.card.specs.Card.{listed, extent_of, stride_of, axis_of, none}
use Rattle.card.specs.Packed.{farthest, iter_at, iters_of}
use Rattle.card.specs.declared.Iter.{Iter}
use Rattle.card.proofs.Lists.{all_at, within_numbers, stride_far}
use Rattle.card.proofs.Admitted.{Fitting, fitting}
use Rattle.card.proofs.ReadBack.{eight_at}
use Rattle.copies_sums.specs.Walks.{Walkable}
use Rattle.rules.proofs.Along.{along, step, along_small}

all_drop : {A B : Type 0} (f : A → B) (p : B → Bool) (k : ℕ) (l : List A) → all p (map f l) ≡ true → all p (map f (drop k l)) ≡ true
all_drop f p zero l t = t
all_drop f p (suc k) [] t = t
all_drop f p (suc k) (x ∷ l) t = all_drop f p k l ((and-eq-true_iff (p (f x)) (all p (map f l))).0 t).1

-- the numbers of an iter within their limits
pub record Meets (iter : Iter) : Type 0 where
  pub some_extent : 1 ≤ iter.extent
  pub most_extent_lem : iter.extent ≤ most_extent
  pub most_stride_lem : nat_abs iter.stride ≤ farthest
  pub an_axis : iter.axis ≤ last_axis

module _ (numbers : List ℕ) (strides : List ℤ) (list : ℕ) (w : Walkable numbers strides list) where
  abbrev count : ℕ
  count = get_or numbers (40 + list) 0

  -- its eight slots
  abbrev at : List Iter
  at = map (iter_at numbers strides list) slots

  eight : length at ≡ 8
  eight = refl

  pub iters_next : (k : ℕ) → k < count → slice k count at ≡ iter_at numbers strides list k ∷ slice (k + 1) count at
  iters_next k h =
      slice_next at k count none h (omega (arith, w.of.few, eight))
      ∙ ap (λ (i : Iter). i ∷ slice (k + 1) count at) (eight_at (iter_at numbers strides list) none k (omega (arith, w.of.few)))

  -- what all iters pass, the iter at k passes
  passes : {A : Type 0} (f : Iter → A) (p : A → Bool) → all p (map f (listed (iters_of numbers strides list))) ≡ true → (k : ℕ) → k < count → p (f (iter_at numbers strides list k)) ≡ true
  passes f p t k h =
      let l = take count at in
      let long : k < length (map f l) = simp (length-map, length-take) (omega (arith, w.of.few, eight)) in
      rw (sym (eight_at (iter_at numbers strides list) none k (omega (arith, w.of.few))), sym (get_or-take count at k none h), sym (get_or-map f l k none))
      (all_at p (map f l) k (f none) t long)

  fits : Fitting (iters_of numbers strides list)
  fits = fitting (iters_of numbers strides list) w.fit

  pub meets : (k : ℕ) → k < count → Meets (iter_at numbers strides list k)
  meets k h =
      let i = iter_at numbers strides list k in
      let e = within_numbers 1 most_extent i.extent (passes extent_of (within 1 most_extent) fits.extents k h) in
      let s = stride_far i.stride (passes stride_of (within_z least_stride most_stride) fits.strides k h) in
      let x = within_numbers 0 last_axis i.axis (passes axis_of (within 0 last_axis) w.on_axes k h) in
      record { some_extent = e.0; most_extent_lem = e.1; most_stride_lem = s; an_axis = x.1 }

  -- a walk so far adds no more than eight steps
  pub along_room : (k index axis : ℕ) → nat_abs (along (slice k count at) index axis) ≤ 8 * step
  along_room k index axis =
      let l = take count at in
      let few : length (drop k l) ≤ 8 = simp (length-drop, length-take) (omega (arith, eight)) in
      le_trans
      (along_small (drop k l) index axis (all_drop extent_of (within 1 most_extent) k l fits.extents) (all_drop stride_of (within_z least_stride most_stride) k l fits.strides))
      (mul-le-mul_right step few)

-- a component of an iter is below the largest extent
pub component_small : (rest : ℕ) (iter : Iter) → Meets iter → rest % iter.extent ≤ most_extent
component_small rest iter m = let below : rest % iter.extent < iter.extent = mod-lt rest m.some_extent in omega (arith, m.most_extent_lem)
