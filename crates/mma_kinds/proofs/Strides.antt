-- The strides of a form's card lead each digit to its warp, lane or register, and to no other axis.
use mathlib.Core.Path.{◌≡◌, refl, sym, ap, ap₂, ◌∙◌}
use mathlib.Core.Bool.{Bool, true, false, cond}
use mathlib.Core.List.{List, [], ◌∷◌, ◌++◌, map}
use Prim.Native.Nat.{ℕ, ◌+◌, ◌*◌, ◌<◌}
use native.Mathlib.Nat.{add-zero, mul-one}
use native.Mathlib.Omega.{arith}
use lib.Dec.{eqb}
use lib.IntN.{ℤ, pos, pos-+ℤ-pos}
use Rattle.card.specs.declared.Iter.{Iter}
use Rattle.rules.specs.RowMajor.{row_major}
use Rattle.rules.specs.Rules.{added}
use Rattle.fragment_layouts.specs.Layouts.{register}
use Rattle.mma_kinds.specs.declared.KindForm.{KindForm}
use Rattle.mma_kinds.specs.Layouts.{down, across}
use Rattle.mma_kinds.specs.Forms.{FormDigits, in_register, in_lane, in_down, in_across, register_sizes, lane_sizes, down_sizes, across_sizes}

module _ (f : KindForm) (d : FormDigits) where
  -- the iters and the digits in their order
  abbrev pub iters_by : Bool → List Iter
  iters_by b = register f.matrices (f.repeats * (f.halves * f.next)) ∷ cond b (across f ++ down f) (down f ++ across f)

  abbrev pub sizes_by : Bool → List ℕ
  sizes_by b = f.matrices ∷ cond b (across_sizes f ++ down_sizes f) (down_sizes f ++ across_sizes f)

  abbrev pub digits_by : Bool → List ℕ
  digits_by b = d.matrix ∷ cond b (in_across d ++ in_down d) (in_down d ++ in_across d)

  -- the register's own order
  in_order : d.matrix * (f.repeats * (f.halves * f.next)) + (d.repeat * (f.halves * f.next) + (d.half * f.next + d.next))
      ≡ row_major (register_sizes f) (in_register d)
  in_order =
      ap₂ (λ (p n : ℕ). d.matrix * (f.repeats * (f.halves * p)) + (d.repeat * (f.halves * p) + (d.half * p + n)))
      (sym (mul-one f.next)) (sym (add-zero (d.next * 1) ∙ mul-one d.next))

  sum_in_order : (a b c n : ℕ) → a + (0 + (b + (0 + (c + (0 + (n * 1 + 0)))))) ≡ a + (c + (b + n))
  sum_in_order a b c n = omega arith

  sum_turned : (a b c n : ℕ) → a + (c + (0 + (n * 1 + (0 + (b + 0))))) ≡ a + (c + (b + n))
  sum_turned a b c n = omega arith

  pub on_register : (b : Bool) → added 7 (iters_by b) (digits_by b) ≡ pos (row_major (register_sizes f) (in_register d))
  on_register false = simp pos-+ℤ-pos (ap pos (sum_in_order _ _ _ d.next ∙ in_order))
  on_register true = simp pos-+ℤ-pos (ap pos (sum_turned _ _ _ d.next ∙ in_order))

  pub on_lane : (b : Bool) → added 2 (iters_by b) (digits_by b) ≡ pos (row_major lane_sizes (in_lane d))
  on_lane false = simp pos-+ℤ-pos (ap pos (omega arith))
  on_lane true = simp pos-+ℤ-pos (ap pos (omega arith))

  pub on_warp : (b : Bool) → added 1 (iters_by b) (digits_by b) ≡ pos d.warp
  on_warp false = simp pos-+ℤ-pos (ap pos (omega arith))
  on_warp true = simp pos-+ℤ-pos (ap pos (omega arith))

  -- the other axes
  abbrev Other : ℕ → Type 0
  Other axis = (eqb 1 axis ≡ false) × (eqb 2 axis ≡ false) × (eqb 7 axis ≡ false)

  pub on_no_other : (axis : ℕ) → Other axis → (b : Bool) → added axis (iters_by b) (digits_by b) ≡ pos 0
  on_no_other axis other false = rw (other.0, other.1, other.2)
  on_no_other axis other true = rw (other.0, other.1, other.2)
