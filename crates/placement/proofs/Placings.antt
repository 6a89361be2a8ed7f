-- The promise of a placement, rung by rung of its ladder: a refusal leaves the memory, and copies stand before what is left of it.
use Rattle.std.specs.Prelude.{Err, Result, Ok}
use mathlib.Core.Path.{◌≡◌, sym, ap, ap₂, ◌∙◌}
use mathlib.Core.Bool.{true, false}
use mathlib.Core.List.{List, ◌++◌}
use Prim.Native.Nat.{ℕ, ◌≤◌, ◌<◌}
use borrow.Author.Tests.{le-leb, lt-leb, lt-ltb, le-ltb}
use lib.ListN.{length, drop}
use Rattle.answers.specs.Refusals.{no_refusal}
use Rattle.answers.specs.declared.Flat.{Flat}
use Rattle.answers.specs.declared.Refusal.{Refusal}
use Rattle.answers.specs.declared.Refusal.TheVariants.{Shape, Coordinate, TooShort, CopyOutside}
use Rattle.card.specs.Card.{elements, copies}
use Rattle.card.specs.declared.Card.{Card}
use Rattle.rules.specs.Copies.{copy_cells, outside_axis}
use Rattle.idle.specs.Admission.{full_admission}
use Rattle.placement_judged.specs.Placement.{shape_admitted, coordinates_fit, flatten, placement_answer, placement_memory, written, Placing}
use Rattle.placement_judged.specs.declared.Tuple.{Tuple}

module _ (card : Card) (shape coordinates : Tuple) (before : List ℕ) where
  refused : (refusal : Refusal) → placement_answer card shape coordinates (length before) ≡ Err refusal
      → Placing card shape coordinates before before (Err refusal)
  unfolding placement_memory
  refused refusal e = record {
    answer_is = sym e;
    memory_is = sym (ap (λ (p : Result ℕ Refusal). written p (copy_cells card (flatten shape coordinates)) before) e);
  }

  pub not_admitted : (refusal : Refusal) → full_admission card ≡ Err refusal → Placing card shape coordinates before before (Err refusal)
  unfolding placement_answer
  not_admitted refusal a = refused refusal (rw a)

  module _ (a : full_admission card ≡ no_refusal) where
    pub not_shaped : shape_admitted shape (elements card) ≡ false → Placing card shape coordinates before before (Err Shape)
    unfolding placement_answer
    not_shaped s = refused Shape (rw (a, s))

    module _ (s : shape_admitted shape (elements card) ≡ true) where
      pub not_fitting : coordinates_fit shape coordinates ≡ false → Placing card shape coordinates before before (Err Coordinate)
      unfolding placement_answer
      not_fitting k = refused Coordinate (rw (a, s, k))

      module _ (flat : Flat) (k : (coordinates_fit shape coordinates ≡ true) × (flatten shape coordinates ≡ flat.0)) where
        pub too_short : (n : ℕ) → n ≡ copies card → length before < n → Placing card shape coordinates before before (Err (TooShort n))
        unfolding placement_answer
        too_short n e h = refused (TooShort n) (rw (a, s, k.0, sym e, lt-leb n (length before) h))

        pub lies_outside : (n axis : ℕ) → n ≡ copies card → n ≤ length before → axis ≡ outside_axis card flat.0 → axis < 8
            → Placing card shape coordinates before before (Err (CopyOutside flat axis))
        unfolding placement_answer
        lies_outside n axis e h o below = refused (CopyOutside flat axis) (rw (a, s, k.0, k.1, sym e, le-leb n (length before) h, sym o, lt-ltb axis 8 below))

        pub copied : (n axis : ℕ) {after : List ℕ} → n ≡ copies card → n ≤ length before → axis ≡ outside_axis card flat.0 → 8 ≤ axis
            → after ≡ copy_cells card flat.0 ++ drop n before → Placing card shape coordinates before after (Ok n)
        unfolding placement_answer placement_memory
        copied n axis {after} e h o above w = record {
          answer_is = sym answered;
          memory_is =
              w
              ∙ sym
              (ap₂ (λ (p : Result ℕ Refusal) (f : ℕ). written p (copy_cells card f) before) answered k.1);
        }
          where
            answered : placement_answer card shape coordinates (length before) ≡ Ok n
            answered = rw (a, s, k.0, k.1, sym e, le-leb n (length before) h, sym o, le-ltb axis 8 above)
