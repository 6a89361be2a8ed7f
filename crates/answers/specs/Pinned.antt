-- What the numbers of an answer say of it: a value is read back from its details, so that two values with the same numbers are one.
use Rattle.std.specs.Prelude.{◌≡◌, ℕ}
use Rattle.answers.specs.declared.Numbers.{Numbers}

-- a value is answered at number 0, and there is a way back from its numbers
abbrev pub ReadBack : {A : Type 0} → (A → Numbers) → Type 0
ReadBack {A} as_numbers = (back : Numbers → A) × ((x : A) → ((as_numbers x).number ≡ 0) × (back (as_numbers x) ≡ x))
