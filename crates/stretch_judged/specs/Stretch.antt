-- A stretch of the owner table, document 01: for an axis and the coordinates of all axes up to and with it, the cells under that
-- prefix; its checks in their order, 3, 4, 12, 11.
use Rattle.std.specs.Prelude.{cond, not, List, [], ◌≡◌, ℕ, ◌+◌, ◌*◌, ltb, take, drop, Result, Err, Ok}
use Rattle.answers.specs.declared.Refusal.{Refusal}
use Rattle.stretch_judged.specs.declared.Stretch.{Stretch}
use Rattle.answers.specs.Refusals.{answer, refusal_numbers, numbers_of}
use Rattle.answers.specs.declared.Numbers.{Numbers}
use Rattle.answers.specs.declared.Cell.{Cell}
use Rattle.answers.specs.declared.Refusal.TheVariants.{Axis, Space, TooShort, CellOutside}
use Rattle.card.specs.Limits.{last_axis}
use Rattle.card.specs.Lists.{product}
use Rattle.card.specs.Admission.{space_fits}
use Rattle.rules.specs.RowMajor.{row_major, inside, first_past}

-- of one number per axis, those of all axes up to and with the asked one
abbrev pub asked : ℕ → List ℕ → List ℕ
asked axis numbers = take (axis + 1) numbers

-- a stretch found
abbrev pub stretch_with : Cell → ℕ → Result Stretch Refusal
stretch_with first length = Ok (record { first = first; length = length })

-- the answer, for a table of so many entries: the first cell under the asked coordinates, where those not asked count as 0, and as many cells as
-- the axes after the asked one have
abbrev pub stretch_answer : List ℕ → ℕ → List ℕ → ℕ → Result Stretch Refusal
stretch_answer lengths axis coordinates room =
    cond (ltb last_axis axis) (Err Axis)
    (cond (not (space_fits lengths)) (Err Space)
    (cond (not (inside (asked axis lengths) (asked axis coordinates)))
    (Err (CellOutside (first_past (asked axis lengths) (asked axis coordinates))))
    (cond (ltb room (product lengths)) (Err (TooShort (product lengths)))
    (stretch_with (record { 0 = row_major lengths (asked axis coordinates) }) (product (drop (axis + 1) lengths))))))

-- the stretch of the table itself: empty where refused
abbrev pub stretch_of : Result Stretch Refusal → List ℕ → List ℕ
stretch_of (Ok stretch) table = take stretch.length (drop stretch.first.0 table)
stretch_of (Err refusal) table = []

-- and where in memory it begins, a place being a block and a byte of it: in the table's own block, four bytes a cell into the table, and
-- where refused at the table's start
abbrev pub cells_before : Result Stretch Refusal → ℕ
cells_before (Ok stretch) = stretch.first.0
cells_before (Err refusal) = 0

abbrev pub StretchBegins : Result Stretch Refusal → ℕ × ℕ → ℕ × ℕ → Type 0
StretchBegins located table part = (part.0 ≡ table.0) × (part.1 ≡ table.1 + 4 * cells_before located)

-- at number 0 its first cell and length
abbrev pub found_numbers : Stretch → Numbers
found_numbers stretch = answer 0 stretch.first.0 stretch.length 0

abbrev pub stretch_numbers : Result Stretch Refusal → Numbers
stretch_numbers = numbers_of found_numbers
