-- The two questions of a warp: what a register holds, and which register holds a place.
use Rattle.std.specs.Prelude.{ℕ, ◌≡◌, Bool, false, cond, ◌&&◌, ltb, Result, Ok, Err}
use Rattle.fragment.specs.declared.Slot.{Slot}
use Rattle.answers.specs.Refusals.{answer, refusal_numbers, numbers_of}
use Rattle.answers.specs.declared.Numbers.{Numbers}
use Rattle.answers.specs.declared.Refusal.{Refusal}
use Rattle.answers.specs.declared.Refusal.TheVariants.{Fragment}
use Rattle.fragment.specs.declared.Place.{Place}
use Rattle.fragment.specs.Kinds.{rows, columns, computations, registers, place}

-- kind, lane and register: the kind is known, and neither of the others lies outside it
abbrev pub is_slot : ℕ → ℕ → ℕ → Bool
is_slot kind lane i = ltb kind 9 && ltb lane 32 && ltb i (registers kind)

-- kind, computation, row and column: the kind is known, and none of the others lies outside it
abbrev pub is_place : ℕ → Place → Bool
is_place kind p = ltb kind 9 && ltb p.computation (computations kind) && ltb p.row (rows kind) && ltb p.column (columns kind)

-- refusal 14 where it names no register: its details are 0
abbrev pub outside : Refusal
outside = Fragment 0 0

-- what a register holds: refusal 14 exactly when there is no such register
abbrev pub held_answer : ℕ → ℕ → ℕ → Result Place Refusal
held_answer kind lane i = cond (is_slot kind lane i) (Ok (place kind lane i)) (Err outside)

-- which register holds a place: the one of which the first question answers this place; refusal 14 exactly when there is no such place
abbrev pub HolderAnswer : ℕ → Place → Result Slot Refusal → Type 0
HolderAnswer kind p (Ok s) = held_answer kind s.lane s.register ≡ Ok p
HolderAnswer kind p (Err refusal) = (is_place kind p ≡ false) × (refusal ≡ outside)

-- at number 0 computation, row, column
abbrev pub place_numbers : Place → Numbers
place_numbers p = answer 0 p.computation p.row p.column

abbrev pub held_numbers : Result Place Refusal → Numbers
held_numbers = numbers_of place_numbers

-- at number 0 lane and register
abbrev pub slot_numbers : Slot → Numbers
slot_numbers s = answer 0 s.lane s.register 0

abbrev pub holder_numbers : Result Slot Refusal → Numbers
holder_numbers = numbers_of slot_numbers
