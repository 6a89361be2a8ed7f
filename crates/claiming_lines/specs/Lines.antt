-- A line of cells, one for each of so many elements, in an owner table. Nothing here has to be believed.
use Rattle.std.specs.Prelude.{◌≡◌, ◌⊎◌, ◌↔◌, List, ℕ, ◌+◌, ◌^◌, ◌≤◌, ◌<◌, ℤ, pos, nat_abs, ◌+ℤ◌, ◌*ℤ◌, length, get_or}
use Rattle.swizzle.specs.declared.Swizzle.{Swizzle}
use Rattle.rules.specs.Rules.{swizzled_z}
use Rattle.copies_runs.specs.Clauses.{roomy_level, roomier, CellThere}
use Rattle.copies_runs.specs.declared.LevelAndM.{LevelAndM}
use Rattle.claims.specs.Claims.{CopiesAt, Claims, occupied}

-- cell c is that of one step of the line and of no other, it was nobody's, and has that step's element
pub record CellNumbered (cell element : ℕ → ℕ) (n : ℕ) (before after : List ℕ) (c : ℕ) : Type 0 where
  pub step : ℕ
  pub below : step < n
  pub there : cell step ≡ c
  pub only : (j : ℕ) → j < n → cell j ≡ c → j ≡ step
  pub free : get_or before c 0 ≡ 0
  pub owner : get_or after c 0 ≡ element step + 1

-- cell c is none of the line's, and is as it was
pub record CellKept (cell : ℕ → ℕ) (n : ℕ) (before after : List ℕ) (c : ℕ) : Type 0 where
  pub none : (j : ℕ) → j < n → cell j ≡ c → ⊥
  pub same : get_or after c 0 ≡ get_or before c 0

-- every cell of a line of n was nobody's when it was written, whatever the order
pub record Lined (cell element : ℕ → ℕ) (n : ℕ) (before after : List ℕ) : Type 0 where
  pub size : length after ≡ length before
  pub each : (c : ℕ) → CellNumbered cell element n before after c ⊎ CellKept cell n before after c
  pub counted : occupied after ≡ occupied before + n

-- copy r of an element, one of the first k, goes to cell c
pub record Copied (p : CopiesAt) (f k c : ℕ) : Type 0 where
  pub copy : ℕ
  pub below : copy < k
  pub there : p.at f copy ≡ c

-- a table with the claims of the elements below first, and the first k copies of each of n more
pub record Partly (p : CopiesAt) (first : ℕ) (element : ℕ → ℕ) (n k : ℕ) (table : List ℕ) : Type 0 where
  pub smaller : (f c : ℕ) → f < first → (get_or table c 0 ≡ f + 1) ↔ Claims p f c
  pub these : (j c : ℕ) → j < n → (get_or table c 0 ≡ element j + 1) ↔ Copied p (element j) k c
  pub nobody_else : (f c : ℕ) → first ≤ f → ((j : ℕ) → j < n → element j ≡ f → ⊥) → get_or table c 0 ≡ f + 1 → ⊥

-- where a line of cells is after so many steps
abbrev pub level_after : LevelAndM → LevelAndM → ℕ → ℤ
level_after start step j = start.level +ℤ pos j *ℤ step.level

abbrev pub m_after : LevelAndM → LevelAndM → ℕ → ℤ
m_after start step j = start.m +ℤ pos j *ℤ step.m

abbrev pub line_cell : Swizzle → LevelAndM → LevelAndM → ℕ → ℕ
line_cell by start step j = nat_abs (level_after start step j +ℤ swizzled_z by (m_after start step j))

-- a line whose cells are there
pub record LineThere (by : Swizzle) (start step : LevelAndM) (first many : ℕ) (table : List ℕ) : Type 0 where
  pub some : 0 < many
  pub small : first + many + 1 < 2 ^ 32
  pub cells : (j : ℕ) → j < many → CellThere by (level_after start step j) (m_after start step j)
  pub inside : (j : ℕ) → j < many → line_cell by start step j < length table
  pub near : (j : ℕ) → j < many → (nat_abs (level_after start step j) ≤ roomier) × (nat_abs (m_after start step j) ≤ roomier)
  pub step_near : (nat_abs step.level ≤ roomy_level) × (nat_abs step.m ≤ roomy_level)

-- a stretch of a table
pub record StretchThere (first from many : ℕ) (table : List ℕ) : Type 0 where
  pub some : 0 < many
  pub small : first + many + 1 < 2 ^ 32
  pub inside : from + many ≤ length table
  pub room : from + many ≤ 2 ^ 32
