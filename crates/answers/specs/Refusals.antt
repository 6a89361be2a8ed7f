-- Document 01's table of refusals, with those of document 02: the number and the details of each.
use Rattle.std.specs.Prelude.{ℕ, Result, Ok, Err, ⊤}
use Rattle.answers.specs.declared.Numbers.{Numbers}
use Rattle.answers.specs.declared.Refusal.{Refusal}
use Rattle.answers.specs.declared.Refusal.TheVariants.{Counts, Limits, Axis, Space, TooMany, Swizzle, CopyOutside, Shared, Shape, Coordinate, TooShort, CellOutside, MaskSize, Fragment, Reserved, Shift, Idle, Notation, WrongCheck, Unused, Plan, Canonical, Overlap}

-- an answer's number and its details a, b, c
abbrev pub answer : ℕ → ℕ → ℕ → ℕ → Numbers
answer n a b c = record { number = n; a = a; b = b; c = c }

-- document 01's row of each refusal: details are zero unless listed
abbrev pub refusal_numbers : Refusal → Numbers
refusal_numbers Counts = answer 1 0 0 0
refusal_numbers Limits = answer 2 0 0 0
refusal_numbers Axis = answer 3 0 0 0
refusal_numbers Space = answer 4 0 0 0
refusal_numbers TooMany = answer 5 0 0 0
refusal_numbers Swizzle = answer 6 0 0 0
refusal_numbers (CopyOutside flat axis) = answer 7 flat.0 axis 0
refusal_numbers (Shared x y cell) = answer 8 x.0 y.0 cell.0
refusal_numbers Shape = answer 9 0 0 0
refusal_numbers Coordinate = answer 10 0 0 0
refusal_numbers (TooShort needed) = answer 11 needed 0 0
refusal_numbers (CellOutside axis) = answer 12 axis 0 0
refusal_numbers MaskSize = answer 13 0 0 0
refusal_numbers (Fragment lane register) = answer 14 lane register 0
refusal_numbers Reserved = answer 15 0 0 0
refusal_numbers (Shift limit) = answer 16 limit 0 0
refusal_numbers (Idle a b) = answer 17 a b 0
refusal_numbers (Notation beginning) = answer 18 beginning 0 0
refusal_numbers WrongCheck = answer 19 0 0 0
refusal_numbers Unused = answer 20 0 0 0
refusal_numbers (Plan copy cell) = answer 21 copy cell.0 0
refusal_numbers Canonical = answer 22 0 0 0
refusal_numbers (Overlap cell) = answer 23 cell.0 0 0

-- the answer of a question with nothing to tell: it is not refused
abbrev pub no_refusal : Result ⊤ Refusal
no_refusal = Ok tt

-- a value of nothing, and of one number
abbrev pub just_zero : ⊤ → Numbers
just_zero done = answer 0 0 0 0

abbrev pub one_detail : ℕ → Numbers
one_detail n = answer 0 n 0 0

-- the numbers of an answer: what a question says its value comes to, or those of the refusal
abbrev pub numbers_of : {A : Type 0} → (A → Numbers) → Result A Refusal → Numbers
numbers_of as_numbers (Ok value) = as_numbers value
numbers_of as_numbers (Err refusal) = refusal_numbers refusal
