-- A kind is a layout: what a register holds is placed in that warp, lane and register, for the digits of the register are those of its place.
use mathlib.Core.Path.{◌≡◌, refl, sym, ap, ap₂, subst, ◌∙◌}
use mathlib.Core.Bool.{Bool, true, false, cond}
use mathlib.Core.List.{List, [], ◌∷◌, ◌++◌, map}
use Prim.Native.Nat.{ℕ, ◌+◌, ◌*◌, ◌<◌}
use native.Mathlib.Omega.{arith}
use borrow.Author.Tests.{lt-ltb, ltb-true}
use lib.Dec.{ltb, eqb}
use lib.IntN.{ℤ, pos, ◌+ℤ◌, +ℤ_idr}
use lib.ListN.{get_or, replicate}
use Rattle.laws.proofs.Tests.{three_of}
use Rattle.swizzle.specs.Swizzle.{swizzled}
use Rattle.swizzle.proofs.Theorems.{no_swizzle}
use Rattle.card.specs.Lists.{product}
use Rattle.card.specs.Card.{extent_of, listed, counted}
use Rattle.card.specs.declared.Iter.{Iter}
use Rattle.rules.specs.RowMajor.{row_major, components, inside, position}
use Rattle.rules.specs.Rules.{added, part, sum, swizzled_m, on_axis, coordinates, spot_at, spot}
use Rattle.rules.specs.declared.Spot.TheVariants.{Inside}
use Rattle.rules.proofs.Reuse.{components_back}
use Rattle.mma_kinds.specs.declared.KindForm.{KindForm}
use Rattle.mma_kinds.specs.declared.MmaPlace.{MmaPlace}
use Rattle.mma_kinds.specs.declared.MmaSlot.{MmaSlot}
use Rattle.mma_kinds.specs.Kinds.{mma_at, kind_of}
use Rattle.mma_kinds.specs.Layouts.{cut, mma_lengths, mma_card, mma_element, mma_cell}
use Rattle.mma_kinds.specs.Mma.{is_mma_slot, mma_place}
use Rattle.mma_kinds.specs.Forms.{FormDigits, in_down, in_across, down_sizes, across_sizes, turned_at, of_slot, slot_of, place_of, held_in}
use Rattle.mma_kinds.proofs.Digits.{Fit, SlotFits, digits_fit, slot_of_slot, slot_fits}
use Rattle.mma_kinds.proofs.Agree.{Agrees, every_kind_agrees}
use Rattle.mma_kinds.proofs.Cut.{extents, listed_all, cut_adds, flat_of_digits}
use Rattle.mma_kinds.proofs.Strides.{iters_by, sizes_by, digits_by, on_register, on_lane, on_warp, on_no_other}

-- a form, and digits that fit it, in either order
module _ (f : KindForm) (d : FormDigits) (fit : Fit f d) where
  its_sizes : (b : Bool) → extents (iters_by f d b) ≡ sizes_by f d b
  its_sizes true = refl
  its_sizes false = refl

  all_inside : (b : Bool) → inside (sizes_by f d b) (digits_by f d b) ≡ true
  all_inside true = rw (lt-ltb d.matrix f.matrices fit.matrix, lt-ltb d.warp f.warps fit.warp, lt-ltb d.half f.halves fit.half, lt-ltb d.group 8 fit.group, lt-ltb d.repeat f.repeats fit.repeat, lt-ltb d.thread 4 fit.thread, lt-ltb d.next f.next fit.next)
  all_inside false = rw (lt-ltb d.matrix f.matrices fit.matrix, lt-ltb d.warp f.warps fit.warp, lt-ltb d.half f.halves fit.half, lt-ltb d.group 8 fit.group, lt-ltb d.repeat f.repeats fit.repeat, lt-ltb d.thread 4 fit.thread, lt-ltb d.next f.next fit.next)

  -- what the cut iters add at the index of the digits
  adds : (b : Bool) (axis : ℕ) → part (counted (cut (iters_by f d b))) (row_major (sizes_by f d b) (digits_by f d b)) axis ≡ added axis (iters_by f d b) (digits_by f d b)
  adds b axis =
      let flat = row_major (sizes_by f d b) (digits_by f d b) in
      ap (λ (l : List Iter). added axis l (components (map extent_of l) flat)) (listed_all (cut (iters_by f d b)))
      ∙ cut_adds axis flat (iters_by f d b)
      ∙ ap (λ (l : List ℕ). added axis (iters_by f d b) (components l flat)) (its_sizes b)
      ∙ ap (added axis (iters_by f d b)) (components_back (sizes_by f d b) (digits_by f d b) (all_inside b))

  -- the index of the digits is that of their place
  flat_by : (b : Bool)
      → row_major (f.matrices ∷ (turned_at b 0 (product (down_sizes f)) (product (across_sizes f))).row ∷ (turned_at b 0 (product (down_sizes f)) (product (across_sizes f))).column ∷ [])
      ((turned_at b d.matrix (row_major (down_sizes f) (in_down d)) (row_major (across_sizes f) (in_across d))).matrix
      ∷ (turned_at b d.matrix (row_major (down_sizes f) (in_down d)) (row_major (across_sizes f) (in_across d))).row
      ∷ (turned_at b d.matrix (row_major (down_sizes f) (in_down d)) (row_major (across_sizes f) (in_across d))).column ∷ [])
      ≡ row_major (sizes_by f d b) (digits_by f d b)
  flat_by true = flat_of_digits f.matrices d.matrix (across_sizes f) (down_sizes f) (in_across d) (in_down d) refl
  flat_by false = flat_of_digits f.matrices d.matrix (down_sizes f) (across_sizes f) (in_down d) (in_across d) refl

module _ (kind : ℕ) where
  -- digits that fit a kind's form
  module _ (d : FormDigits) (fit : Fit (kind_of kind).form d) where
    flat : ℕ
    flat = mma_element kind (place_of (kind_of kind).form d)

    flat_is : flat ≡ row_major (sizes_by (kind_of kind).form d (kind_of kind).form.turned) (digits_by (kind_of kind).form d (kind_of kind).form.turned)
    unfolding flat
    flat_is =
        let a = every_kind_agrees kind in
        let p = place_of (kind_of kind).form d in
        (λ j. row_major (a.its_matrices j ∷ (a.its_shape j).row ∷ (a.its_shape j).column ∷ []) (p.matrix ∷ p.row ∷ p.column ∷ []))
        ∙ flat_by (kind_of kind).form d fit (kind_of kind).form.turned

    its_sum : (r axis n : ℕ)
        → added axis (iters_by (kind_of kind).form d (kind_of kind).form.turned) (digits_by (kind_of kind).form d (kind_of kind).form.turned) ≡ pos n
        → get_or (replicate 8 (pos 0)) axis (pos 0) ≡ pos 0 → sum (mma_card kind) flat r axis ≡ pos n
    its_sum r axis n e none =
        let shard : part (mma_card kind).shard flat axis ≡ pos n =
        ap (λ (m : ℕ). part (mma_card kind).shard m axis) flat_is ∙ adds (kind_of kind).form d fit (kind_of kind).form.turned axis ∙ e in
        ap₂ ◌+ℤ◌ (ap₂ ◌+ℤ◌ shard none ∙ +ℤ_idr (pos n)) refl ∙ +ℤ_idr (pos n)

    -- the coordinates of the element in the place of the digits are those of the register of the digits
    its_coordinates : (r : ℕ) → coordinates (mma_card kind) flat r
        ≡ 0 ∷ d.warp ∷ (slot_of (kind_of kind).form d).lane ∷ 0 ∷ 0 ∷ 0 ∷ 0 ∷ (slot_of (kind_of kind).form d).register ∷ []
    unfolding coordinates
    its_coordinates r =
        let b = (kind_of kind).form.turned in
        let other = on_no_other (kind_of kind).form d in
        let slot = slot_of (kind_of kind).form d in
        ap (λ (s : List ℤ). map on_axis (swizzled_m (mma_card kind).swizzle s))
        (λ j.
        its_sum r 0 0 (other 0 (refl, refl, refl) b) refl j
        ∷ its_sum r 1 d.warp (on_warp (kind_of kind).form d b) refl j
        ∷ its_sum r 2 slot.lane (on_lane (kind_of kind).form d b) refl j
        ∷ its_sum r 3 0 (other 3 (refl, refl, refl) b) refl j
        ∷ its_sum r 4 0 (other 4 (refl, refl, refl) b) refl j
        ∷ its_sum r 5 0 (other 5 (refl, refl, refl) b) refl j
        ∷ its_sum r 6 0 (other 6 (refl, refl, refl) b) refl j
        ∷ its_sum r 7 slot.register (on_register (kind_of kind).form d b) refl j
        ∷ [])
        ∙ ap (λ (m : ℕ). 0 ∷ d.warp ∷ slot.lane ∷ 0 ∷ 0 ∷ 0 ∷ 0 ∷ m ∷ []) (no_swizzle 0 3 slot.register)

  -- a register of the kind, in numbers
  pub slot_numbers : (warp lane i : ℕ) → is_mma_slot kind warp lane i ≡ true → SlotFits (kind_of kind).form warp lane i
  slot_numbers warp lane i e =
      let a = every_kind_agrees kind in
      let t = three_of (ltb warp (kind_of kind).warps) (ltb lane 32) (ltb i (kind_of kind).registers) e in
      record {
        warp_below = subst (λ (n : ℕ). warp < n) a.its_warps (ltb-true warp (kind_of kind).warps t.0);
        lane_below = ltb-true lane 32 t.1;
        register_below = subst (λ (n : ℕ). i < n) a.its_registers (ltb-true i (kind_of kind).registers t.2);
      }

  module _ (warp lane i : ℕ) (e : is_mma_slot kind warp lane i ≡ true) where
    fits : SlotFits (kind_of kind).form warp lane i
    fits = slot_numbers warp lane i e

    -- what it holds is what its digits say
    pub held_by_form : mma_place kind warp lane i ≡ held_in (kind_of kind).form warp lane i
    held_by_form =
        let t = three_of (ltb warp (kind_of kind).warps) (ltb lane 32) (ltb i (kind_of kind).registers) e in
        (every_kind_agrees kind).its_rule warp lane i (ltb-true warp (kind_of kind).warps t.0) (ltb-true lane 32 t.1) (ltb-true i (kind_of kind).registers t.2)

    in_space : inside (mma_lengths kind) (0 ∷ warp ∷ lane ∷ 0 ∷ 0 ∷ 0 ∷ 0 ∷ i ∷ []) ≡ true
    in_space =
        let t = three_of (ltb warp (kind_of kind).warps) (ltb lane 32) (ltb i (kind_of kind).registers) e in
        rw (t.0, t.1, t.2)

    pub slot_coordinates : (r : ℕ) → coordinates (mma_card kind) (mma_element kind (mma_place kind warp lane i)) r ≡ 0 ∷ warp ∷ lane ∷ 0 ∷ 0 ∷ 0 ∷ 0 ∷ i ∷ []
    unfolding flat
    slot_coordinates r =
        let d = of_slot (kind_of kind).form warp lane i in
        let back = slot_of_slot (kind_of kind).form warp lane i fits in
        ap (λ (p : MmaPlace). coordinates (mma_card kind) (mma_element kind p) r) held_by_form
        ∙ its_coordinates d (digits_fit (kind_of kind).form warp lane i fits) r
        ∙ (λ j. 0 ∷ warp ∷ (back j).lane ∷ 0 ∷ 0 ∷ 0 ∷ 0 ∷ (back j).register ∷ [])

    -- the element that the register holds is placed in its cell
    pub slot_spot : (r : ℕ) → spot (mma_card kind) (mma_element kind (mma_place kind warp lane i)) r ≡ Inside (record { 0 = mma_cell kind warp lane i })
    unfolding spot position
    slot_spot r = ap (λ (xs : List ℕ). spot_at (position (mma_lengths kind) xs)) (slot_coordinates r) ∙ rw in_space
