-- What theorems on masks speak of: a bit of the mask, and the B column that it speaks of.
use Rattle.std.specs.Prelude.{ℕ, ◌+◌, ◌/◌, ◌%◌, Bool, List, get_or}
use Rattle.descriptor.specs.Descriptor.{yes}
use Rattle.descriptor.specs.declared.Fields.{Fields}

-- the shift changes no mask bit: bit p speaks of B column p + shift
abbrev pub b_column : Fields → ℕ → ℕ
b_column f p = p + f.shift

-- mask bit p is bit p mod 8 of byte p / 8
abbrev pub mask_bit : List ℕ → ℕ → Bool
mask_bit mask p = yes (p % 8) (get_or mask (p / 8) 0)
