-- Each kind of fragment as a layout card: beside PTX's words on row and column (002) the iters that say the same.
use Rattle.std.specs.Prelude.{ℕ, false, List, [], ◌∷◌, ◌++◌, pos, get_or, replicate}
use Rattle.fragment.specs.Kinds.{computations, rows, columns, registers}
use Rattle.fragment.specs.declared.Place.{Place}
use Rattle.card.specs.Lists.{padded}
use Rattle.card.specs.Card.{counted}
use Rattle.card.specs.declared.Iter.{Iter}
use Rattle.card.specs.declared.Card.{Card}
use Rattle.rules.specs.RowMajor.{row_major}
use Rattle.placement_judged.specs.Placement.{flatten}
use Rattle.placement_judged.specs.declared.Tuple.{Tuple}

-- an iter over %laneid, which is the axis laneid, and one over i, the registers of a lane, which is the axis m
abbrev pub lane : ℕ → ℕ → Iter
lane extent stride = record { extent = extent; stride = pos stride; axis = 2 }

abbrev pub register : ℕ → ℕ → Iter
register extent stride = record { extent = extent; stride = pos stride; axis = 7 }

-- .f16: four computations, the first of "%laneid 0–3 (low group) and 16–19 (high group)", each of the others 4 lanes further on
abbrev pub four_computations : List Iter → List Iter → List Iter
four_computations row column = lane 4 4 ∷ (row ++ column)

-- .f64: one computation
abbrev pub one : List Iter → List Iter → List Iter
one row column = row ++ column

-- the iters of row and column, and behind them PTX's row and column: [+ 4] is added "otherwise", where %laneid is not below 16;
-- groupID is %laneid >> 2, threadID_in_group %laneid % 4
unfoldable pub kind_shard : ℕ → List Iter
kind_shard kind =
    get_or
    (four_computations (lane 2 16 ∷ lane 4 1 ∷ []) (register 4 1 ∷ [])  -- 0 A .f16 row-major: %laneid % 4 [+ 4], i
    ∷ four_computations (lane 2 16 ∷ register 4 1 ∷ []) (lane 4 1 ∷ [])  -- 1 A .f16 column-major: i % 4 [+ 4], %laneid % 4
    ∷ four_computations (lane 4 1 ∷ []) (lane 2 16 ∷ register 4 1 ∷ [])  -- 2 B .f16 row-major: %laneid % 4, i [+ 4]
    ∷ four_computations (register 4 1 ∷ []) (lane 2 16 ∷ lane 4 1 ∷ [])  -- 3 B .f16 column-major: i, %laneid % 4 [+ 4]
    ∷ four_computations (lane 2 16 ∷ lane 4 1 ∷ []) (register 8 1 ∷ [])  -- 4 C .f16: %laneid % 4 [+ 4], i
    -- 5 C .f32: (%laneid & 0b1) + (i & 0b10) [+ 4], (i & 0b100) + (%laneid & 0b10) + (i & 0b1)
    ∷ four_computations (lane 2 16 ∷ register 2 2 ∷ lane 2 1 ∷ []) (register 2 4 ∷ lane 2 2 ∷ register 2 1 ∷ [])
    ∷ one (lane 8 4 ∷ []) (lane 4 1 ∷ [])  -- 6 A .f64: %laneid >> 2, %laneid % 4
    ∷ one (lane 4 1 ∷ []) (lane 8 4 ∷ [])  -- 7 B .f64: %laneid % 4, %laneid >> 2
    ∷ one (lane 8 4 ∷ []) (lane 4 1 ∷ register 2 1 ∷ [])  -- 8 C .f64: groupID, (threadID_in_group * 2) + (i & 0x1)
    ∷ [])
    kind
    []

-- the space: 32 lanes, and m as long as a lane has registers
abbrev pub lengths_of : ℕ → List ℕ
lengths_of kind = 1 ∷ 1 ∷ 32 ∷ 1 ∷ 1 ∷ 1 ∷ 1 ∷ registers kind ∷ []

-- the card of a kind: no marks, no replica, no offset, no swizzle
abbrev pub kind_card : ℕ → Card
kind_card kind =
    record {
      shard = counted (kind_shard kind);
      marks = replicate 8 false;
      replica = counted [];
      offset = replicate 8 (pos 0);
      lengths = lengths_of kind;
      swizzle = record { m = 0; b = 0; s = 3 };
    }

-- the shape of its elements, the coordinates of a place in it, and by rule 1 the flat index of the element there
abbrev pub three : ℕ → ℕ → ℕ → Tuple
three a b c = record { at = padded 0 (a ∷ b ∷ c ∷ []); count = 3 }

abbrev pub shape_of : ℕ → Tuple
shape_of kind = three (computations kind) (rows kind) (columns kind)

abbrev pub coordinates_of : Place → Tuple
coordinates_of p = three p.computation p.row p.column

abbrev pub element_of : ℕ → Place → ℕ
element_of kind p = flatten (shape_of kind) (coordinates_of p)

-- by rule 5 the cell of a lane's register i
abbrev pub slot_cell : ℕ → ℕ → ℕ → ℕ
slot_cell kind lane i = row_major (lengths_of kind) (0 ∷ 0 ∷ lane ∷ 0 ∷ 0 ∷ 0 ∷ 0 ∷ i ∷ [])
