-- A row, the cells of one element's copies, in an owner table: the smallest owner it meets, the smallest cell it shares with that
-- owner, and the table with the row written.
use Rattle.std.specs.Prelude.{◌≡◌, cond, List, [], ◌∷◌, ℕ, zero, suc, ◌+◌, ◌<◌, min, eqb, length, get_or, set}
use Rattle.claims.specs.Claims.{CopiesAt, occupied}

-- a row of element f: where its copies go
pub record RowOf (p : CopiesAt) (f : ℕ) (row : List ℕ) : Type 0 where
  pub size : length row ≡ p.copies f
  pub cells : (r : ℕ) → r < p.copies f → get_or row r 0 ≡ p.at f r

-- each cell of a row is one of the table's
abbrev pub RowWithin : List ℕ → List ℕ → Type 0
RowWithin row table = (r : ℕ) → r < length row → get_or row r 0 < length table

-- the smaller of two numbers, where 0 stands for none
abbrev pub min_some : ℕ → ℕ → ℕ
min_some best zero = best
min_some zero (suc found) = suc found
min_some (suc best) (suc found) = min (suc best) (suc found)

-- the smallest value of a row's cells, from the best so far
abbrev pub least : (ℕ → ℕ) → List ℕ → ℕ → ℕ
least value [] best = best
least value (c ∷ row) best = least value row (min_some best (value c))

-- the smallest entry that a row meets, 0 where all its cells are nobody's
abbrev pub entry_met : List ℕ → List ℕ → ℕ
entry_met table row = least (λ c. get_or table c 0) row 0

-- the smallest cell of a row that has this entry, plus 1, and 0 where none has
abbrev pub cell_with : ℕ → ℕ → ℕ → ℕ
cell_with found entry c = cond (eqb found entry) (c + 1) 0

abbrev pub cell_met : List ℕ → ℕ → List ℕ → ℕ
cell_met table entry row = least (λ c. cell_with (get_or table c 0) entry c) row 0

-- the table with an entry written to each cell of a row
abbrev pub row_written : ℕ → List ℕ → List ℕ → List ℕ
row_written entry [] table = table
row_written entry (c ∷ row) table = row_written entry row (set table c entry)

-- element f claims a row, which occupies so many cells newly: none, where the row meets somebody, and then the table stays as it was; else
-- each cell of the row is written
pub record RowClaim (row : List ℕ) (f newly : ℕ) (before after : List ℕ) : Type 0 where
  pub met : newly ≡ 0 → (0 < entry_met before row) × (after ≡ before)
  pub claimed : 0 < newly → (entry_met before row ≡ 0) × (after ≡ row_written (f + 1) row before)
  pub counted : newly + occupied before ≡ occupied after
