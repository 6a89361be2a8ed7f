-- Registers and holdings in a caller's arrays, by their bits: a register is a byte for its sort beside 32 bits and 64, a holding four times 64.
-- They are dealt and collected as rows of anything are; the answer is that to the registers that the bits are read as.
use Rattle.std.specs.Prelude.{ℕ, zero, suc, ◌+◌, ◌*◌, ◌/◌, ◌%◌, cond, List, [], ◌∷◌, map, eqb, get_or, replicate}
use Rattle.std.specs.Float.{binary32, binary64}
use Rattle.std.specs.Float.Ieee.{of_bits}
use Rattle.values.specs.declared.Register.{Register}
use Rattle.values.specs.declared.Register.TheVariants.{Empty as NoValue, Single as OneSingle, Double as OneDouble}
use Rattle.values.specs.Rows.{each, entry}
use Rattle.values.specs.Values.{dealt, collected}
use Rattle.values.specs.Registers.{deal_answer, collect_answer, filled}
use Rattle.values.specs.Holdings.{deal_holdings_answer, collect_holdings_answer}
use Rattle.c_bits.specs.declared.Bits.{Bits}
use Rattle.c_bits.specs.declared.Bits.TheVariants.{Empty, Single, Double}

-- n values, each from its number
unfoldable pub made : {A : Type 0} → ℕ → (ℕ → A) → List A
made zero f = []
made (suc n) f = f 0 ∷ made n (λ k. f (suc k))

-- sort 1 is a single, 2 a double; 0 is empty, and so reads every other sort: it is the wrong sort everywhere
abbrev pub register_from : ℕ → ℕ → ℕ → Bits
register_from sort single double = cond (eqb sort 1) (Single single) (cond (eqb sort 2) (Double double) Empty)

-- the register that entry j of three arrays is
abbrev pub register_at : List ℕ → List ℕ → List ℕ → ℕ → Bits
register_at sorts singles doubles j = register_from (get_or sorts j 0) (get_or singles j 0) (get_or doubles j 0)

-- rows of eight: place 8 row + column of a tile, entry 8 lane + register of the lanes
abbrev pub rows_from : ℕ → List ℕ → List ℕ → List ℕ → List (List Bits)
rows_from rows sorts singles doubles = made rows (λ row. made 8 (λ k. register_at sorts singles doubles (8 * row + k)))

-- rows of empty registers
abbrev pub empties : ℕ → List (List Bits)
empties rows = replicate rows (replicate 8 Empty)

-- written back: the sort and what it names; an empty register leaves all three as given
abbrev pub sort_after : Bits → ℕ → ℕ
sort_after Empty given = given
sort_after (Single x) given = 1
sort_after (Double x) given = 2

abbrev pub single_after : Bits → ℕ → ℕ
single_after Empty given = given
single_after (Single x) given = x
single_after (Double x) given = given

abbrev pub double_after : Bits → ℕ → ℕ
double_after Empty given = given
double_after (Single x) given = given
double_after (Double x) given = x

-- each entry after its register is written back
abbrev pub entries_after : {A : Type 0} → (Bits → A → A) → List (List Bits) → List A → List A
entries_after write rows = each (λ j. write (entry Empty rows (j / 8) (j % 8)))

-- what bits are read as: the single or the double that they stand for, every not-a-number pattern as the one
abbrev pub read_as : Bits → Register
read_as Empty = NoValue
read_as (Single x) = OneSingle (of_bits binary32 x)
read_as (Double x) = OneDouble (of_bits binary64 x)

abbrev pub registers_held : List (List Bits) → List (List Register)
registers_held = map (map read_as)

-- what was to be filled: the bits themselves, or as given where the registers are refused
abbrev pub dealt_bits : ℕ → ℕ → List (List Bits) → List (List Bits) → List (List Bits)
dealt_bits kind c tile lanes = filled (deal_answer kind c (registers_held tile)) (dealt Empty kind c tile lanes) lanes

abbrev pub collected_bits : ℕ → ℕ → List (List Bits) → List (List Bits) → List (List Bits)
collected_bits kind c lanes tile = filled (collect_answer kind c (registers_held lanes)) (collected Empty kind c lanes tile) tile

-- a lane's eight registers for a kind, of its holding's four numbers A, B, the two accumulators: A for kind 6, B for kind 7, the two
-- accumulators else; the others are empty
abbrev pub held_at : ℕ → List ℕ → ℕ → List Bits
held_at kind numbers lane =
    let others : List Bits = Empty ∷ Empty ∷ Empty ∷ Empty ∷ Empty ∷ Empty ∷ [] in
    cond (eqb kind 6) (Double (get_or numbers (4 * lane) 0) ∷ Empty ∷ others)
    (cond (eqb kind 7) (Double (get_or numbers (4 * lane + 1) 0) ∷ Empty ∷ others)
    (Double (get_or numbers (4 * lane + 2) 0) ∷ Double (get_or numbers (4 * lane + 3) 0) ∷ others))

abbrev pub lanes_from : ℕ → List ℕ → List (List Bits)
lanes_from kind numbers = made 32 (held_at kind numbers)

-- the register of a lane that a kind deals to field k of a holding: register 0 to A for kind 6, to B for kind 7, 0 and 1 to the two
-- accumulators otherwise; to every other field an empty one
abbrev pub register_for : ℕ → List Bits → ℕ → Bits
register_for kind lane k =
    let first : Bits = get_or lane 0 Empty in
    cond (eqb kind 6) (cond (eqb k 0) first Empty)
    (cond (eqb kind 7) (cond (eqb k 1) first Empty) (cond (eqb k 2) first (cond (eqb k 3) (get_or lane 1 Empty) Empty)))

-- its number; 8 where the field gets none
abbrev pub register_number : ℕ → ℕ → ℕ
register_number kind k =
    cond (eqb kind 6) (cond {A = ℕ} (eqb k 0) 0 8)
    (cond (eqb kind 7) (cond {A = ℕ} (eqb k 1) 0 8) (cond {A = ℕ} (eqb k 2) 0 (cond {A = ℕ} (eqb k 3) 1 8)))

-- each number after the lanes' registers are written to the kind's own fields
abbrev pub numbers_after : ℕ → List (List Bits) → List ℕ → List ℕ
numbers_after kind lanes = each (λ j. double_after (register_for kind (get_or lanes (j / 4) []) (j % 4)))

-- a tile dealt to holdings: to empty lanes, whose registers are written to the kind's own fields
abbrev pub dealt_numbers : ℕ → ℕ → List (List Bits) → List ℕ → List ℕ
dealt_numbers kind c tile numbers =
    filled (deal_holdings_answer kind c (registers_held tile)) (numbers_after kind (dealt Empty kind c tile (empties 32)) numbers) numbers

-- and collected from them
abbrev pub collected_from_numbers : ℕ → ℕ → List ℕ → List (List Bits) → List (List Bits)
collected_from_numbers kind c numbers tile =
    filled (collect_holdings_answer kind c) (collected Empty kind c (lanes_from kind numbers) tile) tile
