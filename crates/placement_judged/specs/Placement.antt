-- The placement of one element: the order of checks, and what is left in the lent memory.
use Rattle.std.specs.Prelude.{ℕ, ◌≡◌, Bool, cond, not, ◌&&◌, List, ◌++◌, leb, eqb, ltb, length, take, drop, Result, Err, Ok, ⊤}
use Rattle.answers.specs.declared.Refusal.{Refusal}
use Rattle.answers.specs.Refusals.{answer, refusal_numbers, numbers_of, one_detail}
use Rattle.answers.specs.declared.Numbers.{Numbers}
use Rattle.answers.specs.declared.Refusal.TheVariants.{Shape, Coordinate, TooShort, CopyOutside}
use Rattle.card.specs.Lists.{within, product}
use Rattle.card.specs.Card.{elements, copies}
use Rattle.card.specs.declared.Card.{Card}
use Rattle.rules.specs.RowMajor.{row_major, inside}
use Rattle.rules.specs.Rules.{axes}
use Rattle.rules.specs.Copies.{copy_cells, outside_axis}
use Rattle.idle.specs.Admission.{FullChecks, full_admission}
use Rattle.placement_judged.specs.declared.Tuple.{Tuple}

-- a counted list of numbers: entries past the count are ignored
abbrev pub entries : Tuple → List ℕ
entries tuple = take tuple.count tuple.at

-- check 9: a shape has 1 to 8 dimensions and is admitted when its product equals the elements
abbrev pub most_dimensions : ℕ
most_dimensions = 8

abbrev pub shape_admitted : Tuple → ℕ → Bool
shape_admitted shape n = within 1 most_dimensions shape.count && eqb (product (entries shape)) n

-- check 10: as many coordinates as dimensions, each inside its own
abbrev pub coordinates_fit : Tuple → Tuple → Bool
coordinates_fit shape coordinates = eqb coordinates.count shape.count && inside (entries shape) (entries coordinates)

-- rule 1: flattened row-major
abbrev pub flatten : Tuple → Tuple → ℕ
flatten shape coordinates = row_major (entries shape) (entries coordinates)

-- after checks 1 to 6 and 17: 9, 10, 11, then 7 for this element alone
abbrev pub element_answer : Card → Tuple → Tuple → ℕ → Result ℕ Refusal
element_answer card shape coordinates room =
    cond (not (shape_admitted shape (elements card))) (Err Shape)
    (cond (not (coordinates_fit shape coordinates)) (Err Coordinate)
    (cond (not (leb (copies card) room)) (Err (TooShort (copies card)))
    (cond (ltb (outside_axis card (flatten shape coordinates)) (length axes))
    (Err (CopyOutside (record { 0 = flatten shape coordinates }) (outside_axis card (flatten shape coordinates))))
    (Ok (copies card)))))

-- the lent memory: the cells of the copies, entries past the last as they were; a refusal touches nothing
abbrev pub written : Result ℕ Refusal → List ℕ → List ℕ → List ℕ
written (Ok n) cells before = cells ++ drop n before
written (Err refusal) cells before = before

-- what the placement of one element promises of its answer and of the lent memory before and after
abbrev pub PlacementSays : Card → Tuple → Tuple → List ℕ → List ℕ → Result ℕ Refusal → Type 0
PlacementSays card shape coordinates before after placement =
    FullChecks card (λ refusal. (placement ≡ Err refusal) × (after ≡ before))
    ((placement ≡ element_answer card shape coordinates (length before)) × (after ≡ written placement (copy_cells card (flatten shape coordinates)) before))

-- at number 0 the copies
abbrev pub placement_numbers : Result ℕ Refusal → Numbers
placement_numbers = numbers_of one_detail

-- The same by the run of the checks, for the crates above; nothing from here on has to be believed.
abbrev pub after_admission : Result ⊤ Refusal → Result ℕ Refusal → Result ℕ Refusal
after_admission (Ok _) placement = placement
after_admission (Err refusal) placement = Err refusal

-- the answer for any numbers and a lent memory of this length
unfoldable pub placement_answer : Card → Tuple → Tuple → ℕ → Result ℕ Refusal
placement_answer card shape coordinates room = after_admission (full_admission card) (element_answer card shape coordinates room)

unfoldable pub placement_memory : Card → Tuple → Tuple → List ℕ → List ℕ
placement_memory card shape coordinates before =
    written (placement_answer card shape coordinates (length before)) (copy_cells card (flatten shape coordinates)) before

pub record Placing (card : Card) (shape coordinates : Tuple) (before after : List ℕ) (placement : Result ℕ Refusal) : Type 0 where
  pub answer_is : placement ≡ placement_answer card shape coordinates (length before)
  pub memory_is : after ≡ placement_memory card shape coordinates before
