-- What a form's six numbers say, by digits that a register and a place share. Nothing here has to be believed: proofs/Agree.antt shows that a kind's
-- form says what PTX's rule says.
use Rattle.std.specs.Prelude.{ℕ, ◌/◌, ◌%◌, ◌<◌, Bool, true, false, List, [], ◌∷◌, get_or}
use Rattle.rules.specs.RowMajor.{row_major, components}
use Rattle.mma_kinds.specs.Kinds.{mma_at}
use Rattle.mma_kinds.specs.declared.KindForm.{KindForm}
use Rattle.mma_kinds.specs.declared.MmaPlace.{MmaPlace}
use Rattle.mma_kinds.specs.declared.MmaSlot.{MmaSlot}

-- the matrix and the warp; the half of the rows and the row in it; the repeat, the thread of the group, and which of those next to each other
pub record FormDigits : Type 0 where
  pub matrix : ℕ
  pub warp : ℕ
  pub half : ℕ
  pub group : ℕ
  pub repeat : ℕ
  pub thread : ℕ
  pub next : ℕ

-- what each number is made of, from slow to fast, and how many there are of each
abbrev pub in_register : FormDigits → List ℕ
in_register d = d.matrix ∷ d.repeat ∷ d.half ∷ d.next ∷ []

abbrev pub in_lane : FormDigits → List ℕ
in_lane d = d.group ∷ d.thread ∷ []

abbrev pub in_down : FormDigits → List ℕ
in_down d = d.warp ∷ d.half ∷ d.group ∷ []

abbrev pub in_across : FormDigits → List ℕ
in_across d = d.repeat ∷ d.thread ∷ d.next ∷ []

abbrev pub register_sizes : KindForm → List ℕ
register_sizes f = f.matrices ∷ f.repeats ∷ f.halves ∷ f.next ∷ []

abbrev pub lane_sizes : List ℕ
lane_sizes = 8 ∷ 4 ∷ []

abbrev pub down_sizes : KindForm → List ℕ
down_sizes f = f.warps ∷ f.halves ∷ 8 ∷ []

abbrev pub across_sizes : KindForm → List ℕ
across_sizes f = f.repeats ∷ 4 ∷ f.next ∷ []

-- rows run down and columns across, or, turned, the other way round
abbrev pub turned_at : Bool → ℕ → ℕ → ℕ → MmaPlace
turned_at true matrix down across = mma_at matrix across down
turned_at false matrix down across = mma_at matrix down across

abbrev pub down_in : Bool → MmaPlace → ℕ
down_in true p = p.column
down_in false p = p.row

abbrev pub across_in : Bool → MmaPlace → ℕ
across_in true p = p.row
across_in false p = p.column

-- the digits of a register and of a place, and back
abbrev pub of_slot : KindForm → ℕ → ℕ → ℕ → FormDigits
of_slot f warp lane i =
    let r : List ℕ = components (register_sizes f) i in
    record { matrix = get_or r 0 0; warp = warp; half = get_or r 2 0; group = lane / 4; repeat = get_or r 1 0; thread = lane % 4; next = get_or r 3 0 }

abbrev pub of_place : KindForm → MmaPlace → FormDigits
of_place f p =
    let d : List ℕ = components (down_sizes f) (down_in f.turned p) in
    let a : List ℕ = components (across_sizes f) (across_in f.turned p) in
    record { matrix = p.matrix; warp = get_or d 0 0; half = get_or d 1 0; group = get_or d 2 0; repeat = get_or a 0 0; thread = get_or a 1 0; next = get_or a 2 0 }

abbrev pub slot_of : KindForm → FormDigits → MmaSlot
slot_of f d = record { warp = d.warp; lane = row_major lane_sizes (in_lane d); register = row_major (register_sizes f) (in_register d) }

abbrev pub place_of : KindForm → FormDigits → MmaPlace
place_of f d = turned_at f.turned d.matrix (row_major (down_sizes f) (in_down d)) (row_major (across_sizes f) (in_across d))

-- what a register holds, and which register holds a place
abbrev pub held_in : KindForm → ℕ → ℕ → ℕ → MmaPlace
held_in f warp lane i = place_of f (of_slot f warp lane i)

abbrev pub holder_in : KindForm → MmaPlace → MmaSlot
holder_in f p = slot_of f (of_place f p)
