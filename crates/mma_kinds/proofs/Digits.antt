-- A register and a place have one list of digits: what comes back from the digits is what went out, size by size, by mixed radix.
use mathlib.Core.Path.{◌≡◌, refl, sym, ap, ap₂, ◌∙◌}
use mathlib.Core.Bool.{Bool, true, false, and-eq-true_iff}
use mathlib.Core.List.{List, [], ◌∷◌}
use Prim.Native.Nat.{ℕ, ◌+◌, ◌*◌, ◌/◌, ◌%◌, ◌<◌}
use native.Mathlib.Omega.{arith}
use borrow.Author.Tests.{lt-ltb}
use lib.Dec.{ltb}
use lib.ListN.{get_or}
use Rattle.card.specs.Lists.{product}
use Rattle.rules.specs.RowMajor.{row_major, components, inside}
use Rattle.rules.proofs.RowMajor.{row_major_below, components_inside, components_give_back}
use Rattle.rules.proofs.Reuse.{components_back}
use Rattle.rules.proofs.Whole.{inside_each}
use Rattle.mma_kinds.specs.declared.KindForm.{KindForm}
use Rattle.mma_kinds.specs.declared.MmaPlace.{MmaPlace}
use Rattle.mma_kinds.specs.declared.MmaSlot.{MmaSlot}
use Rattle.mma_kinds.specs.Forms.{FormDigits, in_register, in_lane, in_down, in_across, register_sizes, lane_sizes, down_sizes, across_sizes, turned_at, down_in, across_in, of_slot, of_place, slot_of, place_of}

-- each digit is below its size
pub record Fit (f : KindForm) (d : FormDigits) : Type 0 where
  pub matrix : d.matrix < f.matrices
  pub warp : d.warp < f.warps
  pub half : d.half < f.halves
  pub group : d.group < 8
  pub repeat : d.repeat < f.repeats
  pub thread : d.thread < 4
  pub next : d.next < f.next

module _ (f : KindForm) where
  pub record SlotFits (warp lane i : ℕ) : Type 0 where
    pub warp_below : warp < f.warps
    pub lane_below : lane < 32
    pub register_below : i < product (register_sizes f)

  pub record PlaceFits (p : MmaPlace) : Type 0 where
    pub matrix_below : p.matrix < f.matrices
    pub down_below : down_in f.turned p < product (down_sizes f)
    pub across_below : across_in f.turned p < product (across_sizes f)

  module _ (d : FormDigits) (fit : Fit f d) where
    in_register_lem : inside (register_sizes f) (in_register d) ≡ true
    in_register_lem =
        rw (lt-ltb d.matrix f.matrices fit.matrix, lt-ltb d.repeat f.repeats fit.repeat, lt-ltb d.half f.halves fit.half, lt-ltb d.next f.next fit.next)

    pub in_down_lem : inside (down_sizes f) (in_down d) ≡ true
    in_down_lem = rw (lt-ltb d.warp f.warps fit.warp, lt-ltb d.half f.halves fit.half, lt-ltb d.group 8 fit.group)

    pub in_across_lem : inside (across_sizes f) (in_across d) ≡ true
    in_across_lem = rw (lt-ltb d.repeat f.repeats fit.repeat, lt-ltb d.thread 4 fit.thread, lt-ltb d.next f.next fit.next)

    -- a register of digits that fit is one of the form's, and has these digits
    pub slot_fits : SlotFits d.warp (slot_of f d).lane (slot_of f d).register
    slot_fits = record {
      warp_below = fit.warp;
      lane_below = omega (arith, fit.group, fit.thread);
      register_below = row_major_below (register_sizes f) (in_register d) in_register_lem;
    }

    pub of_slot_of : of_slot f d.warp (slot_of f d).lane (slot_of f d).register ≡ d
    of_slot_of =
        let r = components_back (register_sizes f) (in_register d) in_register_lem in
        let g : (slot_of f d).lane / 4 ≡ d.group = omega (arith, fit.thread) in
        let t : (slot_of f d).lane % 4 ≡ d.thread = omega (arith, fit.thread) in
        λ k. record {
          matrix = ap (λ (l : List ℕ). get_or l 0 0) r k;
          warp = d.warp;
          half = ap (λ (l : List ℕ). get_or l 2 0) r k;
          group = g k;
          repeat = ap (λ (l : List ℕ). get_or l 1 0) r k;
          thread = t k;
          next = ap (λ (l : List ℕ). get_or l 3 0) r k;
        }

  -- the digits of a register of the form fit, and give it back
  module _ (warp lane i : ℕ) (s : SlotFits warp lane i) where
    pub digits_fit : Fit f (of_slot f warp lane i)
    digits_fit =
        let each = inside_each (register_sizes f) (components (register_sizes f) i) (components_inside (register_sizes f) i (omega (arith, s.register_below))) in
        record {
          matrix = each 0 (omega arith);
          warp = s.warp_below;
          half = each 2 (omega arith);
          group = omega (arith, s.lane_below);
          repeat = each 1 (omega arith);
          thread = omega arith;
          next = each 3 (omega arith);
        }

    pub slot_of_slot : slot_of f (of_slot f warp lane i) ≡ record { warp = warp; lane = lane; register = i }
    slot_of_slot =
        let r : (slot_of f (of_slot f warp lane i)).register ≡ i = components_give_back (register_sizes f) i s.register_below in
        let l : (slot_of f (of_slot f warp lane i)).lane ≡ lane = omega arith in
        λ k. record { warp = warp; lane = l k; register = r k }

  -- rows and columns exchanged, and back
  down_at : (b : Bool) (m d a : ℕ) → down_in b (turned_at b m d a) ≡ d
  down_at true m d a = refl
  down_at false m d a = refl

  across_at : (b : Bool) (m d a : ℕ) → across_in b (turned_at b m d a) ≡ a
  across_at true m d a = refl
  across_at false m d a = refl

  matrix_at : (b : Bool) (m d a : ℕ) → (turned_at b m d a).matrix ≡ m
  matrix_at true m d a = refl
  matrix_at false m d a = refl

  turned_back : (b : Bool) (p : MmaPlace) → turned_at b p.matrix (down_in b p) (across_in b p) ≡ p
  turned_back true p = refl
  turned_back false p = refl

  -- a place of digits that fit is one of the form's, and has these digits
  module _ (d : FormDigits) (fit : Fit f d) where
    its_down : down_in f.turned (place_of f d) ≡ row_major (down_sizes f) (in_down d)
    its_down = down_at f.turned d.matrix _ _

    its_across : across_in f.turned (place_of f d) ≡ row_major (across_sizes f) (in_across d)
    its_across = across_at f.turned d.matrix _ _

    pub place_fits : PlaceFits (place_of f d)
    place_fits = record {
      matrix_below = rw (matrix_at f.turned d.matrix (row_major (down_sizes f) (in_down d)) (row_major (across_sizes f) (in_across d))) fit.matrix;
      down_below = rw its_down (row_major_below (down_sizes f) (in_down d) (in_down_lem d fit));
      across_below = rw its_across (row_major_below (across_sizes f) (in_across d) (in_across_lem d fit));
    }

    pub of_place_of : of_place f (place_of f d) ≡ d
    of_place_of =
        let m = matrix_at f.turned d.matrix (row_major (down_sizes f) (in_down d)) (row_major (across_sizes f) (in_across d)) in
        let e = ap (components (down_sizes f)) its_down ∙ components_back (down_sizes f) (in_down d) (in_down_lem d fit) in
        let a = ap (components (across_sizes f)) its_across ∙ components_back (across_sizes f) (in_across d) (in_across_lem d fit) in
        λ k. record {
          matrix = m k;
          warp = ap (λ (l : List ℕ). get_or l 0 0) e k;
          half = ap (λ (l : List ℕ). get_or l 1 0) e k;
          group = ap (λ (l : List ℕ). get_or l 2 0) e k;
          repeat = ap (λ (l : List ℕ). get_or l 0 0) a k;
          thread = ap (λ (l : List ℕ). get_or l 1 0) a k;
          next = ap (λ (l : List ℕ). get_or l 2 0) a k;
        }

  -- the digits of a place of the form fit, and give it back
  module _ (p : MmaPlace) (s : PlaceFits p) where
    pub place_digits_fit : Fit f (of_place f p)
    place_digits_fit =
        let d = down_in f.turned p in
        let a = across_in f.turned p in
        let downs = inside_each (down_sizes f) (components (down_sizes f) d) (components_inside (down_sizes f) d (omega (arith, s.down_below))) in
        let across = inside_each (across_sizes f) (components (across_sizes f) a) (components_inside (across_sizes f) a (omega (arith, s.across_below))) in
        record {
          matrix = s.matrix_below;
          warp = downs 0 (omega arith);
          half = downs 1 (omega arith);
          group = downs 2 (omega arith);
          repeat = across 0 (omega arith);
          thread = across 1 (omega arith);
          next = across 2 (omega arith);
        }

    pub place_of_place : place_of f (of_place f p) ≡ p
    place_of_place =
        ap₂ (turned_at f.turned p.matrix)
        (components_give_back (down_sizes f) (down_in f.turned p) s.down_below)
        (components_give_back (across_sizes f) (across_in f.turned p) s.across_below)
        ∙ turned_back f.turned p
