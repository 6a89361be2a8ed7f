-- Extents with strides, the slowest first, and when each stride leaves room for all that is below it.
use Rattle.std.specs.Prelude.{ℕ, ◌+◌, ◌*◌, ◌≤◌, ◌≡◌, List, [], ◌∷◌}

pub record Digit : Type 0 where
  pub extent : ℕ
  pub stride : ℕ

infix 70 ◌by◌
abbrev pub ◌by◌ : ℕ → ℕ → Digit
extent by stride = record { extent = extent; stride = stride }

-- the address of components: each times its stride
abbrev pub value : List Digit → List ℕ → ℕ
value [] cs = 0
value (d ∷ ds) [] = 0
value (d ∷ ds) (c ∷ cs) = c * d.stride + value ds cs

abbrev pub sizes : List Digit → List ℕ
sizes [] = []
sizes (d ∷ ds) = d.extent ∷ sizes ds

-- addresses lie below this
abbrev pub top : List Digit → ℕ
top [] = 1
top (d ∷ ds) = d.extent * d.stride

-- each stride leaves room for what is below it
abbrev pub Nested : List Digit → Type 0
Nested [] = Unit
Nested (d ∷ ds) = (top ds ≤ d.stride) × Nested ds

-- each stride is exactly what is below it
abbrev pub StridesPacked : List Digit → Type 0
StridesPacked [] = Unit
StridesPacked (d ∷ ds) = (top ds ≡ d.stride) × StridesPacked ds
