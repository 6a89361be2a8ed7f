-- Who claims which cell, over any layout: document 01's owner table and its refusal 8. A card enters only by naming where its copies go.
use Rattle.std.specs.Prelude.{◌≡◌, ◌↔◌, List, [], ◌∷◌, ℕ, zero, suc, ◌+◌, ◌≤◌, ◌<◌, length, get_or}

-- a layout: copy r of element f goes to cell `at f r`, for each r below the element's own copies, of which it may have none: an element that is one
-- with a smaller one is given none
pub record CopiesAt : Type 0 where
  pub copies : ℕ → ℕ
  pub at : ℕ → ℕ → ℕ

-- element f claims cell c: one of its copies goes there
pub record Claims (p : CopiesAt) (f c : ℕ) : Type 0 where
  pub copy : ℕ
  pub below : copy < p.copies f
  pub there : p.at f copy ≡ c

-- elements x and y share cell c
pub record Share (p : CopiesAt) (x y c : ℕ) : Type 0 where
  pub one : Claims p x c
  pub other : Claims p y c

-- the owners of n elements: the entry of cell c is f + 1 exactly when f is one of the elements and claims c; past the table there is no entry, so
-- no element claims a cell there
abbrev pub Owners : CopiesAt → ℕ → List ℕ → Type 0
Owners p n table = (f c : ℕ) → (get_or table c 0 ≡ f + 1) ↔ ((f < n) × Claims p f c)

-- the occupied cells: how many entries are not 0
abbrev pub taken : ℕ → ℕ
taken zero = 0
taken (suc owner) = 1

abbrev pub occupied : List ℕ → ℕ
occupied [] = 0
occupied (entry ∷ table) = taken entry + occupied table

-- the table of all the cells has the owners, and so many cells are occupied
pub record OwnedTable (p : CopiesAt) (n cells : ℕ) (table : List ℕ) (count : ℕ) : Type 0 where
  pub size : length table ≡ cells
  pub owners : Owners p n table
  pub counted : count ≡ occupied table

-- y is the smallest flat sharing a cell with a smaller one, x the smallest it shares with, and the cell the smallest they share
pub record FirstClash (p : CopiesAt) (n x y cell : ℕ) : Type 0 where
  pub element : y < n
  pub ordered : x < y
  pub shared : Share p x y cell
  pub smallest_y : (a b c : ℕ) → a < b → b < n → Share p a b c → y ≤ b
  pub smallest_x : (a c : ℕ) → Share p a y c → x ≤ a
  pub smallest_cell : (c : ℕ) → Share p x y c → cell ≤ c
