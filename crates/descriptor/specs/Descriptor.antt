-- Descriptors of zero-column masks: document 01's fields, read from the 64 bits and written into them.
use Rattle.std.specs.Prelude.{Bool, false, cond, not, ◌||◌, List, [], ◌∷◌, ℕ, ◌+◌, ◌*◌, ◌/◌, ◌%◌, ◌^◌, eqb, ltb, get_or, Err, Ok, Result, ⊤}
use Rattle.answers.specs.declared.Refusal.{Refusal}
use Rattle.answers.specs.Refusals.{answer, refusal_numbers, numbers_of, just_zero, one_detail, no_refusal}
use Rattle.answers.specs.declared.Numbers.{Numbers}
use Rattle.answers.specs.declared.Refusal.TheVariants.{MaskSize, Reserved, Shift}
use Rattle.descriptor.specs.declared.Fields.{Fields}
use Rattle.descriptor.specs.declared.DescriptorReading.{DescriptorReading}

-- so many bits of a descriptor, from this one on
abbrev pub bits : ℕ → ℕ → ℕ → ℕ
bits count from d = d / 2 ^ from % 2 ^ count

-- one bit of it, as a yes or no
abbrev pub yes : ℕ → ℕ → Bool
yes at d = eqb (bits 1 at d) 1

-- bits 0-31 start counts 0 to 3, a byte each; 32-35 first spans 0 to 3; 39 non-zero mask; 40-47 skip span; 48-55 use span; 56-61 shift
abbrev pub fields_of : ℕ → Fields
fields_of d =
    record {
      start_counts = bits 8 0 d ∷ bits 8 8 d ∷ bits 8 16 d ∷ bits 8 24 d ∷ [];
      first_spans = yes 32 d ∷ yes 33 d ∷ yes 34 d ∷ yes 35 d ∷ [];
      non_zero = yes 39 d;
      skip_span = bits 8 40 d;
      use_span = bits 8 48 d;
      shift = bits 6 56 d;
    }

-- a record of zeros: what 64 bits of 0 hold
abbrev pub no_fields : Fields
no_fields = fields_of 0

-- bits 36-38 or 62-63 are set
abbrev pub reserved : ℕ → Bool
reserved d = not (eqb (bits 3 36 d) 0) || not (eqb (bits 2 62 d) 0)

-- reading refuses 15 only, whatever the shift; at 0 the fields stand beside the answer, refused a record of zeros
abbrev pub fields_answer : ℕ → DescriptorReading
fields_answer d =
    cond (reserved d) (record { answer = Err Reserved; fields = no_fields }) (record { answer = no_refusal; fields = fields_of d })

-- a yes as the bit 1, a no as 0
abbrev pub bit : Bool → ℕ
bit b = cond b 1 0

-- the start counts and the first spans, each at the bits where it is read
abbrev pub count_bits : List ℕ → ℕ
count_bits s = get_or s 0 0 * 2 ^ 0 + get_or s 1 0 * 2 ^ 8 + get_or s 2 0 * 2 ^ 16 + get_or s 3 0 * 2 ^ 24

abbrev pub span_bits : List Bool → ℕ
span_bits s =
    bit (get_or s 0 false) * 2 ^ 32 + bit (get_or s 1 false) * 2 ^ 33 + bit (get_or s 2 false) * 2 ^ 34 + bit (get_or s 3 false) * 2 ^ 35

-- the descriptor of these fields, unused sub-mask fields too; the reserved bits are clear
unfoldable pub descriptor_of : Fields → ℕ
descriptor_of f =
    count_bits f.start_counts
    + span_bits f.first_spans
    + bit f.non_zero * 2 ^ 39
    + f.skip_span * 2 ^ 40
    + f.use_span * 2 ^ 48
    + f.shift * 2 ^ 56

-- M is 128, 64 or 32
abbrev pub mask_m : ℕ → Bool
mask_m M = eqb M 128 || eqb M 64 || eqb M 32

-- the limit on the shift: 16 for M = 32, and 32 otherwise
abbrev pub shift_limit : ℕ → ℕ
shift_limit M = cond (eqb M 32) 16 32

-- writing for M refuses a wrong M, 13, and then a shift above the limit, 16
abbrev pub descriptor_answer : ℕ → ℕ → Fields → Result ℕ Refusal
descriptor_answer limit M f =
    cond (not (mask_m M)) (Err MaskSize) (cond (ltb limit f.shift) (Err (Shift limit)) (Ok (descriptor_of f)))

-- at number 0 the details of a reading are zero: its fields stand beside it
abbrev pub fields_numbers : Result ⊤ Refusal → Numbers
fields_numbers = numbers_of just_zero

-- at number 0 writing gives the descriptor
abbrev pub descriptor_numbers : Result ℕ Refusal → Numbers
descriptor_numbers = numbers_of one_detail
