-- What the functions inside promise: a question on tables of exactly the cells has this answer and leaves these cells.
use Rattle.std.specs.Prelude.{◌≡◌, List, ℕ}
use Rattle.plans_judged.specs.Endings.{CellsHeld}

abbrev pub Ends : {A : Type 0} → CellsHeld A → A → List ℕ → List ℕ → Type 0
Ends held answer first second = (answer ≡ held.answer) × (first ≡ held.first) × (second ≡ held.second)
