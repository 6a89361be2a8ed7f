-- Each kind as a layout card, from its six numbers: the iters of the matrix, then of the row, then of the column, each from slow to fast and cut
-- where its step changes.
use Rattle.std.specs.Prelude.{ℕ, ◌*◌, false, cond, List, [], ◌∷◌, ◌++◌, eqb, pos, replicate}
use Rattle.card.specs.Card.{counted}
use Rattle.card.specs.declared.Iter.{Iter}
use Rattle.card.specs.declared.Card.{Card}
use Rattle.rules.specs.RowMajor.{row_major}
use Rattle.placement_judged.specs.Placement.{flatten}
use Rattle.placement_judged.specs.declared.Tuple.{Tuple}
use Rattle.fragment_layouts.specs.Layouts.{lane, register, three}
use Rattle.mma_kinds.specs.Kinds.{kind_of}
use Rattle.mma_kinds.specs.declared.KindForm.{KindForm}
use Rattle.mma_kinds.specs.declared.MmaPlace.{MmaPlace}

-- an iter over the warps, which is the axis warpid
abbrev pub warp : ℕ → ℕ → Iter
warp extent stride = record { extent = extent; stride = pos stride; axis = 1 }

-- down: 16 rows a warp in two halves of eight, or 8; across: the repeats, the four lanes of a group, and what a lane has next to each other
abbrev pub down : KindForm → List Iter
down f = warp f.warps 1 ∷ register f.halves f.next ∷ lane 8 4 ∷ []

abbrev pub across : KindForm → List Iter
across f = register f.repeats (f.halves * f.next) ∷ lane 4 1 ∷ register f.next 1 ∷ []

-- rows run down and columns across, or the other way round
abbrev pub form_iters : KindForm → List Iter
form_iters f =
    register f.matrices (f.repeats * (f.halves * f.next)) ∷ cond f.turned (across f ++ down f) (down f ++ across f)

-- an iter of extent 1 does not stand
abbrev pub cut : List Iter → List Iter
cut [] = []
cut (iter ∷ iters) = cond (eqb iter.extent 1) (cut iters) (iter ∷ cut iters)

-- the space: the kind's warps, 32 lanes, and m as long as a lane has registers
abbrev pub mma_lengths : ℕ → List ℕ
mma_lengths kind = 1 ∷ (kind_of kind).warps ∷ 32 ∷ 1 ∷ 1 ∷ 1 ∷ 1 ∷ (kind_of kind).registers ∷ []

-- the card of a kind: no marks, no replica, no offset, no swizzle
abbrev pub mma_card : ℕ → Card
mma_card kind =
    record {
      shard = counted (cut (form_iters (kind_of kind).form));
      marks = replicate 8 false;
      replica = counted [];
      offset = replicate 8 (pos 0);
      lengths = mma_lengths kind;
      swizzle = record { m = 0; b = 0; s = 3 };
    }

-- the shape of its elements, the coordinates of a place in it, and by rule 1 the flat index of the element there
abbrev pub mma_shape : ℕ → Tuple
mma_shape kind = three (kind_of kind).matrices (kind_of kind).rows (kind_of kind).columns

abbrev pub mma_coordinates : MmaPlace → Tuple
mma_coordinates p = three p.matrix p.row p.column

abbrev pub mma_element : ℕ → MmaPlace → ℕ
mma_element kind p = flatten (mma_shape kind) (mma_coordinates p)

-- by rule 5 the cell of register i of a lane of a warp
abbrev pub mma_cell : ℕ → ℕ → ℕ → ℕ → ℕ
mma_cell kind warp lane i = row_major (mma_lengths kind) (0 ∷ warp ∷ lane ∷ 0 ∷ 0 ∷ 0 ∷ 0 ∷ i ∷ [])
