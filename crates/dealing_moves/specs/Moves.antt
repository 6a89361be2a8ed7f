-- Where a value comes from, as one number: the place of a tile, 8 row + column, or the register of the lanes, 8 lane + register.
use Rattle.std.specs.Prelude.{ℕ, ◌+◌, ◌*◌, ◌/◌, ◌%◌, cond, List, ltb}
use Rattle.fragment.specs.Kinds.{at, place}
use Rattle.fragment.specs.Fragment.{is_place}
use Rattle.fragment.proofs.Back.{back}
use Rattle.values.specs.Rows.{entry}
use Rattle.values.specs.Values.{is_own}

-- the place that is dealt to a register of the computation; 64, past the tile, stands for a register that is not the computation's
abbrev pub source_of : ℕ → ℕ → ℕ → ℕ → ℕ
source_of kind c lane i = cond (is_own kind c lane i) (8 * (place kind lane i).row + (place kind lane i).column) 64

-- the register that a place of the matrix is collected from; 256, past the lanes, stands for a place outside the matrix
abbrev pub holder_of : ℕ → ℕ → ℕ → ℕ → ℕ
holder_of kind c row column =
    let p = at c row column in cond (is_place kind p) (8 * (back kind p).lane + (back kind p).register) 256

-- what stands in so many rows of eight where such a number says; past their end what was given
abbrev pub from_rows : {A : Type 0} → A → ℕ → List (List A) → A → ℕ → A
from_rows other size rows given s = cond (ltb (s / 8) size) (entry other rows (s / 8) (s % 8)) given
