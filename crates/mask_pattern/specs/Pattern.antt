-- Zero-column masks: document 01's pattern over all columns, the mask's bytes, and what is counted of it.
use Rattle.std.specs.Prelude.{Bool, true, false, cond, ◌&&◌, List, [], ◌∷◌, ◌++◌, ℕ, zero, suc, ◌+◌, ◌*◌, ◌/◌, ◌%◌, leb, ltb, get_or}
use Rattle.descriptor.specs.Descriptor.{bit}
use Rattle.descriptor.specs.declared.Fields.{Fields}

-- column q of the endless pattern: runs of skip + 1 set columns and runs of use + 1 clear ones take turns, the set ones first when the first
-- span is 1, the clear ones when it is 0
abbrev pub endless : Bool → ℕ → ℕ → ℕ → Bool
endless true skip used q = ltb (q % (skip + 1 + (used + 1))) (skip + 1)
endless false skip used q = leb (used + 1) (q % (skip + 1 + (used + 1)))

-- column k of sub-mask i: its first span says which columns come first, and its start count drops that many leading columns
abbrev pub sub_column : Fields → ℕ → ℕ → Bool
sub_column f i k = endless (get_or f.first_spans i false) f.skip_span f.use_span (get_or f.start_counts i 0 + k)

-- column p of sub-masks of so many bits side by side, set when the column is zeroed; non-zero mask 0 gives all clear
unfoldable pub column : ℕ → Fields → ℕ → Bool
column size f p = f.non_zero && sub_column f (p / size) (p % size)

-- so many columns from p on as a number, its lowest bit column p
unfoldable pub columns_number : (ℕ → Bool) → ℕ → ℕ → ℕ
columns_number set p zero = 0
columns_number set p (suc count) = bit (set p) + 2 * columns_number set (p + 1) count

-- the first n bytes of a mask: byte j holds columns 8 j to 8 j + 7
unfoldable pub mask_bytes : (ℕ → Bool) → ℕ → List ℕ
mask_bytes set zero = []
mask_bytes set (suc n) = mask_bytes set n ++ (columns_number set (8 * n) 8 ∷ [])

-- how many of so many columns from p on are zeroed
unfoldable pub zeroed : (ℕ → Bool) → ℕ → ℕ → ℕ
zeroed set p zero = 0
zeroed set p (suc count) = bit (set p) + zeroed set (p + 1) count

-- the smallest of so many columns from p on that is clear, or the column after them
unfoldable pub first_used : (ℕ → Bool) → ℕ → ℕ → ℕ
first_used set p zero = p
first_used set p (suc count) = cond (set p) (first_used set (p + 1) count) p
