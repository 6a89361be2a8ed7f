-- The three questions on a kind: what a register holds, which register holds a place, and the kind's layout.
use Rattle.std.specs.Prelude.{ℕ, ◌/◌, ◌%◌, ◌≡◌, Bool, false, cond, ◌&&◌, ltb, Result, Ok, Err}
use Rattle.mma_kinds.specs.declared.MmaSlot.{MmaSlot}
use Rattle.answers.specs.declared.Refusal.{Refusal}
use Rattle.answers.specs.Refusals.{answer, refusal_numbers, numbers_of, no_refusal}
use Rattle.answers.specs.declared.Numbers.{Numbers}
use Rattle.fragment.specs.Fragment.{outside}
use Rattle.card.specs.Card.{no_card}
use Rattle.mma_kinds.specs.Kinds.{kind_of}
use Rattle.mma_kinds.specs.Layouts.{mma_card}
use Rattle.mma_kinds.specs.declared.MmaPlace.{MmaPlace}
use Rattle.mma_kinds.specs.declared.MmaLayout.{MmaLayout}

-- a kind has such a warp, such a lane and such a register; no kind has none
abbrev pub is_mma_slot : ℕ → ℕ → ℕ → ℕ → Bool
is_mma_slot kind warp lane i = ltb warp (kind_of kind).warps && ltb lane 32 && ltb i (kind_of kind).registers

-- and such a matrix, such a row and such a column
abbrev pub is_mma_place : ℕ → MmaPlace → Bool
is_mma_place kind p = ltb p.matrix (kind_of kind).matrices && ltb p.row (kind_of kind).rows && ltb p.column (kind_of kind).columns

-- what register i of a lane of a warp holds: PTX's rule at groupID and threadID_in_group
abbrev pub mma_place : ℕ → ℕ → ℕ → ℕ → MmaPlace
mma_place kind warp lane i = (kind_of kind).rule warp (lane / 4) (lane % 4) i

-- what a register holds: refusal 14, with no details, exactly when there is no such register
abbrev pub mma_answer : ℕ → ℕ → ℕ → ℕ → Result MmaPlace Refusal
mma_answer kind warp lane i = cond (is_mma_slot kind warp lane i) (Ok (mma_place kind warp lane i)) (Err outside)

-- which register holds a place: the one of which the first question answers this place; refusal 14 exactly when there is no such place
abbrev pub MmaHolderAnswer : ℕ → MmaPlace → Result MmaSlot Refusal → Type 0
MmaHolderAnswer kind p (Ok s) = mma_answer kind s.warp s.lane s.register ≡ Ok p
MmaHolderAnswer kind p (Err refusal) = (is_mma_place kind p ≡ false) × (refusal ≡ outside)

-- the kind's layout: refusal 14 exactly when there is no such kind, and then a card of zeros
abbrev pub is_kind : ℕ → Bool
is_kind kind = ltb 0 (kind_of kind).registers

abbrev pub layout_answer : ℕ → MmaLayout
layout_answer kind =
    cond (is_kind kind) (record { answer = no_refusal; card = mma_card kind }) (record { answer = Err outside; card = no_card })

-- at number 0 matrix, row, column
abbrev pub mma_place_numbers : MmaPlace → Numbers
mma_place_numbers p = answer 0 p.matrix p.row p.column

abbrev pub mma_numbers : Result MmaPlace Refusal → Numbers
mma_numbers = numbers_of mma_place_numbers

-- at number 0 warp, lane, register
abbrev pub mma_slot_numbers : MmaSlot → Numbers
mma_slot_numbers s = answer 0 s.warp s.lane s.register

abbrev pub mma_holder_numbers : Result MmaSlot Refusal → Numbers
mma_holder_numbers = numbers_of mma_slot_numbers
