-- What the functions inside promise each other of a form's six numbers. Nothing here has to be believed.
use Rattle.std.specs.Prelude.{ℕ, ◌/◌, ◌%◌, Bool, ◌&&◌, List, eqb, ltb, get_or}
use Rattle.card.specs.Lists.{product}
use Rattle.rules.specs.RowMajor.{components}
use Rattle.mma_kinds.specs.declared.KindForm.{KindForm}
use Rattle.mma_kinds.specs.declared.MmaPlace.{MmaPlace}
use Rattle.mma_kinds.specs.declared.MmaSlot.{MmaSlot}
use Rattle.mma_kinds.specs.Forms.{register_sizes, down_sizes, across_sizes, turned_at, slot_of}

-- a form has such a warp, such a lane and such a register
abbrev pub form_slot : KindForm → ℕ → ℕ → ℕ → Bool
form_slot f warp lane i = ltb warp f.warps && ltb lane 32 && ltb i (product (register_sizes f))

-- such a matrix, such a row and such a column
abbrev pub place_in : KindForm → MmaPlace → Bool
place_in f p =
    let shape : MmaPlace = turned_at f.turned 0 (product (down_sizes f)) (product (across_sizes f)) in
    ltb p.matrix f.matrices && ltb p.row shape.row && ltb p.column shape.column

-- the six numbers of a row's six digits
abbrev pub unpacked : ℕ → KindForm
unpacked digits =
    record {
      next = digits / 100000;
      halves = digits / 10000 % 10;
      repeats = digits / 1000 % 10;
      matrices = digits / 100 % 10;
      warps = digits / 10 % 10;
      turned = eqb (digits % 10) 1;
    }

-- the register that holds what is so far down and so far across in a matrix
abbrev pub form_holder : KindForm → ℕ → ℕ → ℕ → MmaSlot
form_holder f matrix down across =
    let d : List ℕ = components (down_sizes f) down in
    let a : List ℕ = components (across_sizes f) across in
    slot_of f
    (record { matrix = matrix; warp = get_or d 0 0; half = get_or d 1 0; group = get_or d 2 0; repeat = get_or a 0 0; thread = get_or a 1 0; next = get_or a 2 0 })
