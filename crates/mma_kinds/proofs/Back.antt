-- From a place of a kind to the register that holds it, and back: PTX's rule is what the kind's form says, and a form's digits lead both ways.
use mathlib.Core.Path.{◌≡◌, refl, sym, ap, subst, ◌∙◌}
use mathlib.Core.Logic.{◌↔◌}
use mathlib.Core.Bool.{Bool, true, false}
use Prim.Native.Nat.{ℕ, ◌<◌}
use borrow.Author.Tests.{lt-ltb, ltb-true}
use lib.Dec.{ltb}
use Rattle.laws.proofs.Tests.{three_of}
use Rattle.card.specs.Lists.{product}
use Rattle.mma_kinds.specs.declared.MmaPlace.{MmaPlace}
use Rattle.mma_kinds.specs.declared.MmaSlot.{MmaSlot}
use Rattle.mma_kinds.specs.Kinds.{mma_at, kind_of}
use Rattle.mma_kinds.specs.Mma.{is_mma_slot, is_mma_place, mma_place}
use Rattle.mma_kinds.specs.Forms.{FormDigits, down_sizes, across_sizes, turned_at, down_in, across_in, of_slot, of_place, slot_of, place_of, holder_in}
use Rattle.mma_kinds.proofs.Digits.{SlotFits, PlaceFits, slot_fits, of_slot_of, digits_fit, slot_of_slot, place_fits, of_place_of, place_digits_fit, place_of_place}
use Rattle.mma_kinds.proofs.Agree.{every_kind_agrees}
use Rattle.mma_kinds.proofs.Placed.{slot_numbers, held_by_form}

-- rows and columns, or down and across
below_shape : (b : Bool) (p : MmaPlace) (R C D A : ℕ) → mma_at 0 R C ≡ turned_at b 0 D A → ((p.row < R) × (p.column < C)) ↔ ((down_in b p < D) × (across_in b p < A))
below_shape true p R C D A e =
    let r : R ≡ A = ap (λ (q : MmaPlace). q.row) e in
    let c : C ≡ D = ap (λ (q : MmaPlace). q.column) e in (
      λ h. (subst (λ (n : ℕ). p.column < n) c h.1, subst (λ (n : ℕ). p.row < n) r h.0),
      λ h. (subst (λ (n : ℕ). p.row < n) (sym r) h.1, subst (λ (n : ℕ). p.column < n) (sym c) h.0),
    )
below_shape false p R C D A e =
    let r : R ≡ D = ap (λ (q : MmaPlace). q.row) e in
    let c : C ≡ A = ap (λ (q : MmaPlace). q.column) e in (
      λ h. (subst (λ (n : ℕ). p.row < n) r h.0, subst (λ (n : ℕ). p.column < n) c h.1),
      λ h. (subst (λ (n : ℕ). p.row < n) (sym r) h.0, subst (λ (n : ℕ). p.column < n) (sym c) h.1),
    )

module _ (kind : ℕ) where
  -- the register to which a place leads
  abbrev pub back : MmaPlace → MmaSlot
  back p = holder_in (kind_of kind).form p

  shape : (p : MmaPlace)
      → ((p.row < (kind_of kind).rows) × (p.column < (kind_of kind).columns))
      ↔ ((down_in (kind_of kind).form.turned p < product (down_sizes (kind_of kind).form)) × (across_in (kind_of kind).form.turned p < product (across_sizes (kind_of kind).form)))
  shape p = below_shape (kind_of kind).form.turned p (kind_of kind).rows (kind_of kind).columns _ _ (every_kind_agrees kind).its_shape

  place_numbers : (p : MmaPlace) → is_mma_place kind p ≡ true → PlaceFits (kind_of kind).form p
  place_numbers p e =
      let t = three_of (ltb p.matrix (kind_of kind).matrices) (ltb p.row (kind_of kind).rows) (ltb p.column (kind_of kind).columns) e in
      let s = (shape p).0 (ltb-true p.row (kind_of kind).rows t.1, ltb-true p.column (kind_of kind).columns t.2) in
      record {
        matrix_below = subst (λ (n : ℕ). p.matrix < n) (every_kind_agrees kind).its_matrices (ltb-true p.matrix (kind_of kind).matrices t.0);
        down_below = s.0;
        across_below = s.1;
      }

  numbers_place : (p : MmaPlace) → PlaceFits (kind_of kind).form p → is_mma_place kind p ≡ true
  numbers_place p fits =
      let s = (shape p).1 (fits.down_below, fits.across_below) in
      let m = subst (λ (n : ℕ). p.matrix < n) (sym (every_kind_agrees kind).its_matrices) fits.matrix_below in
      rw (lt-ltb p.matrix (kind_of kind).matrices m, lt-ltb p.row (kind_of kind).rows s.0, lt-ltb p.column (kind_of kind).columns s.1)

  numbers_slot : (warp lane i : ℕ) → SlotFits (kind_of kind).form warp lane i → is_mma_slot kind warp lane i ≡ true
  numbers_slot warp lane i fits =
      let a = every_kind_agrees kind in
      let w = subst (λ (n : ℕ). warp < n) (sym a.its_warps) fits.warp_below in
      let r = subst (λ (n : ℕ). i < n) (sym a.its_registers) fits.register_below in
      rw (lt-ltb warp (kind_of kind).warps w, lt-ltb lane 32 fits.lane_below, lt-ltb i (kind_of kind).registers r)

  -- what a register holds is a place of the kind, and leads back to the register
  pub slot_back : (warp lane i : ℕ) → is_mma_slot kind warp lane i ≡ true
      → (is_mma_place kind (mma_place kind warp lane i) ≡ true) × (back (mma_place kind warp lane i) ≡ record { warp = warp; lane = lane; register = i })
  slot_back warp lane i e =
      let f = (kind_of kind).form in
      let fits = slot_numbers kind warp lane i e in
      let d = of_slot f warp lane i in
      let fit = digits_fit f warp lane i fits in
      let held = held_by_form kind warp lane i e in (
        ap (is_mma_place kind) held ∙ numbers_place (place_of f d) (place_fits f d fit),
        ap back held ∙ ap (slot_of f) (of_place_of f d fit) ∙ slot_of_slot f warp lane i fits,
      )

  -- a place of the kind leads to a register, which holds that place
  pub place_back : (p : MmaPlace) → is_mma_place kind p ≡ true
      → (is_mma_slot kind (back p).warp (back p).lane (back p).register ≡ true) × (mma_place kind (back p).warp (back p).lane (back p).register ≡ p)
  place_back p e =
      let f = (kind_of kind).form in
      let fits = place_numbers p e in
      let d = of_place f p in
      let fit = place_digits_fit f p fits in
      let there = numbers_slot (back p).warp (back p).lane (back p).register (slot_fits f d fit) in (
        there,
        held_by_form kind (back p).warp (back p).lane (back p).register there ∙ ap (place_of f) (of_slot_of f d fit) ∙ place_of_place f p fits,
      )
