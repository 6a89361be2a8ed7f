-- The fields of a descriptor as bytes.
use Rattle.std.specs.Prelude.{ℕ, Bool, false, not, List, [], ◌∷◌, eqb, get_or}
use Rattle.descriptor.specs.Descriptor.{bit}
use Rattle.descriptor.specs.declared.Fields.{Fields}

-- the fields of a descriptor as bytes, in the order of docs/PROTOCOL.md: of the one-bit fields anything but 0 is a yes
abbrev pub yes_at : List ℕ → ℕ → Bool
yes_at bytes i = not (eqb (get_or bytes i 0) 0)

abbrev pub fields_from : List ℕ → ℕ → Fields
fields_from bytes shift = record {
  start_counts = get_or bytes 0 0 ∷ get_or bytes 1 0 ∷ get_or bytes 2 0 ∷ get_or bytes 3 0 ∷ [];
  first_spans = yes_at bytes 4 ∷ yes_at bytes 5 ∷ yes_at bytes 6 ∷ yes_at bytes 7 ∷ [];
  non_zero = yes_at bytes 8;
  skip_span = get_or bytes 9 0;
  use_span = get_or bytes 10 0;
  shift = shift;
}

-- and back, the shift last
abbrev pub bytes_of : Fields → List ℕ
bytes_of f =
    get_or f.start_counts 0 0
    ∷ get_or f.start_counts 1 0
    ∷ get_or f.start_counts 2 0
    ∷ get_or f.start_counts 3 0
    ∷ bit (get_or f.first_spans 0 false)
    ∷ bit (get_or f.first_spans 1 false)
    ∷ bit (get_or f.first_spans 2 false)
    ∷ bit (get_or f.first_spans 3 false)
    ∷ bit f.non_zero
    ∷ f.skip_span
    ∷ f.use_span
    ∷ f.shift
    ∷ []
