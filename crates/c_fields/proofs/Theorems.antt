-- The two directions belong together: the fields of the eleven bytes and the shift that fields are written as are these fields.
use mathlib.Core.Path.{◌≡◌, refl, ◌∙◌}
use mathlib.Core.Bool.{Bool, true, false, not}
use mathlib.Core.List.{List, [], ◌∷◌}
use Prim.Native.Nat.{ℕ}
use native.Mathlib.Omega.{arith}
use lib.Dec.{eqb}
use lib.ListN.{length, get_or}
use Rattle.descriptor.specs.Descriptor.{bit}
use Rattle.descriptor.specs.declared.Fields.{Fields}
use Rattle.c_fields.specs.Fields.{fields_from, bytes_of}

four_slots : {A : Type 0} (other : A) (l : List A) → length l ≡ 4 → get_or l 0 other ∷ get_or l 1 other ∷ get_or l 2 other ∷ get_or l 3 other ∷ [] ≡ l
four_slots other [] e = absurd (omega (arith, e))
four_slots other (a ∷ []) e = absurd (omega (arith, e))
four_slots other (a ∷ b ∷ []) e = absurd (omega (arith, e))
four_slots other (a ∷ b ∷ c ∷ []) e = absurd (omega (arith, e))
four_slots other (a ∷ b ∷ c ∷ d ∷ []) e = refl
four_slots other (a ∷ b ∷ c ∷ d ∷ f ∷ l) e = absurd (omega (arith, e))

yes_back : (b : Bool) → not (eqb (bit b) 0) ≡ b
yes_back true = refl
yes_back false = refl

pub fields_back : (f : Fields) → length f.start_counts ≡ 4 → length f.first_spans ≡ 4 → fields_from (bytes_of f) (get_or (bytes_of f) 11 0) ≡ f
fields_back f counts spans =
    let at : ℕ → Bool = λ k. get_or f.first_spans k false in
    let bytes : fields_from (bytes_of f) f.shift ≡ record {
      start_counts = get_or f.start_counts 0 0 ∷ get_or f.start_counts 1 0 ∷ get_or f.start_counts 2 0 ∷ get_or f.start_counts 3 0 ∷ [];
      first_spans = at 0 ∷ at 1 ∷ at 2 ∷ at 3 ∷ [];
      non_zero = f.non_zero;
      skip_span = f.skip_span;
      use_span = f.use_span;
      shift = f.shift;
    } = rw (yes_back (at 0), yes_back (at 1), yes_back (at 2), yes_back (at 3), yes_back f.non_zero) in
    bytes
    ∙ λ j. record {
      start_counts = four_slots 0 f.start_counts counts j;
      first_spans = four_slots false f.first_spans spans j;
      non_zero = f.non_zero;
      skip_span = f.skip_span;
      use_span = f.use_span;
      shift = f.shift;
    }
