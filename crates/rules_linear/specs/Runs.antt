-- A run: elements that follow each other and differ in one component alone. Nothing here has to be believed.
use Rattle.std.specs.Prelude.{ℕ, cond, List, [], ◌∷◌, eqb}
use Rattle.card.specs.declared.Iter.{Iter}

-- how many there are: the extent of the last iter whose extent is not 1, or 1
abbrev pub run_length : List Iter → ℕ
run_length [] = 1
run_length (iter ∷ l) = cond (eqb (run_length l) 1) iter.extent (run_length l)
