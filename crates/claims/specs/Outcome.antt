-- What theorems and the run speak of: copies in the cells, no shared cell, and what the claims of so many elements come to. No promise uses it.
use Rattle.std.specs.Prelude.{◌≡◌, List, ℕ, ◌<◌}
use Rattle.claims.specs.Claims.{CopiesAt, Share, OwnedTable, FirstClash}

-- every copy of the n elements lies in the cells
abbrev pub Inside : CopiesAt → ℕ → ℕ → Type 0
Inside p n cells = (f r : ℕ) → f < n → r < p.copies f → p.at f r < cells

-- no two different elements share a cell
abbrev pub NoneShare : CopiesAt → ℕ → Type 0
NoneShare p n = (x y c : ℕ) → x < n → y < n → Share p x y c → x ≡ y

-- what the claims of n elements come to in so many cells
pub data Outcome : Type 0 where
  Owned : (table : List ℕ) (count : ℕ) → Outcome
  Clash : (x y cell : ℕ) → Outcome

abbrev pub ClaimsComeTo : CopiesAt → ℕ → ℕ → Outcome → Type 0
ClaimsComeTo p n cells (Owned table count) = OwnedTable p n cells table count
ClaimsComeTo p n cells (Clash x y cell) = FirstClash p n x y cell
