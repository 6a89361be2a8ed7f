-- Lists: whether all numbers lie within limits, their product, whether two are the same, and the eight slots of an array.
use Rattle.std.specs.Prelude.{ℕ, ◌-◌, ◌*◌, Bool, true, false, ◌&&◌, List, [], ◌∷◌, ◌++◌, leb, eqb, ℤ, length, replicate}
use Rattle.std.specs.Int.Signed.{le_z}

abbrev pub within : ℕ → ℕ → ℕ → Bool
within least most n = leb least n && leb n most

abbrev pub within_z : ℤ → ℤ → ℤ → Bool
within_z least most z = le_z least z && le_z z most

abbrev pub all : {A : Type 0} → (A → Bool) → List A → Bool
all p [] = true
all p (x ∷ xs) = p x && all p xs

abbrev pub product : List ℕ → ℕ
product [] = 1
product (n ∷ ns) = n * product ns

abbrev pub same : List ℕ → List ℕ → Bool
same [] [] = true
same [] (n ∷ ns) = false
same (m ∷ ms) [] = false
same (m ∷ ms) (n ∷ ns) = eqb m n && same ms ns

-- an array has eight slots
abbrev pub slots : List ℕ
slots = 0 ∷ 1 ∷ 2 ∷ 3 ∷ 4 ∷ 5 ∷ 6 ∷ 7 ∷ []

-- a list in eight slots, with zeros past it
abbrev pub padded : {A : Type 0} → A → List A → List A
padded zero l = l ++ replicate (8 - length l) zero
