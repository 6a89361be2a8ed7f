-- Zero-column masks: which sizes there are, the answer, and what is left in the lent memory.
use Rattle.std.specs.Prelude.{Bool, cond, not, ◌&&◌, List, [], ◌++◌, ℕ, zero, ◌+◌, ◌/◌, ◌%◌, leb, ltb, eqb, drop, Result, Err, Ok}
use Rattle.answers.specs.declared.Refusal.{Refusal}
use Rattle.mask.specs.declared.Mask.{Mask}
use Rattle.answers.specs.Refusals.{answer, refusal_numbers, numbers_of}
use Rattle.answers.specs.declared.Numbers.{Numbers}
use Rattle.answers.specs.declared.Refusal.TheVariants.{TooShort, MaskSize, Reserved, Shift}
use Rattle.descriptor.specs.Descriptor.{fields_of, reserved, mask_m}
use Rattle.mask_pattern.specs.Pattern.{column, mask_bytes, zeroed, first_used}

-- M is 128, 64 or 32, and N a multiple of 8 in 8 to 256
abbrev pub mask_size : ℕ → ℕ → Bool
mask_size M N = mask_m M && eqb (N % 8) 0 && leb 8 N && leb N 256

-- M = 128, 64, 32 gives 1, 2, 4 sub-masks of N, N/2, N/4 bits
abbrev pub sub_masks : ℕ → ℕ
sub_masks M = cond (eqb M 128) 1 (cond (eqb M 64) 2 4)

abbrev pub sub_bits : ℕ → ℕ → ℕ
sub_bits M N = N / sub_masks M

-- the columns of the mask for M, N and a descriptor
abbrev pub mask_columns : ℕ → ℕ → ℕ → ℕ → Bool
mask_columns M N d = column (sub_bits M N) (fields_of d)

-- a mask's counts as an answer
abbrev pub mask_with : ℕ → ℕ → Result Mask Refusal
mask_with zeroed first_used = Ok (record { zeroed = zeroed; first_used = first_used })

-- at number 0 how many of the N columns are zeroed, and the smallest p whose bit is clear, or N
abbrev pub mask_of : (ℕ → Bool) → ℕ → Result Mask Refusal
mask_of set N = mask_with (zeroed set 0 N) (first_used set 0 N)

-- the answer, in the order 13, 15, 16, 11
abbrev pub mask_answer : ℕ → ℕ → ℕ → ℕ → ℕ → Result Mask Refusal
mask_answer limit M N d room =
    cond (not (mask_size M N)) (Err MaskSize)
    (cond (reserved d) (Err Reserved)
    (cond (ltb limit (fields_of d).shift) (Err (Shift limit))
    (cond (ltb room (N / 8)) (Err (TooShort (N / 8)))
    (mask_of (mask_columns M N d) N))))

-- the lent memory after this answer: refused it is untouched, at 0 the first N / 8 bytes are the mask and those past it as they were
abbrev pub mask_memory : Result Mask Refusal → ℕ → ℕ → ℕ → List ℕ → List ℕ
mask_memory (Ok mask) M N d memory = mask_bytes (mask_columns M N d) (N / 8) ++ drop (N / 8) memory
mask_memory (Err refusal) M N d memory = memory

abbrev pub counts_numbers : Mask → Numbers
counts_numbers mask = answer 0 mask.zeroed mask.first_used 0

abbrev pub mask_numbers : Result Mask Refusal → Numbers
mask_numbers = numbers_of counts_numbers
