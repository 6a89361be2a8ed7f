-- What the functions here promise: a cell by level and m, what copies add to them, and a row of cells. Nothing here has to be believed.
use Rattle.std.specs.Prelude.{ℕ, ◌^◌, ◌≤◌, ◌<◌, ◌≡◌, true, List, ℤ, pos, nat_abs, ◌+ℤ◌, length, get_or}
use Rattle.card.specs.Limits.{last_axis}
use Rattle.card.specs.Packed.{beyond, swizzle_of}
use Rattle.card.specs.declared.Card.{Card}
use Rattle.rules.specs.Rules.{part, swizzled_z}
use Rattle.rules_linear.specs.Levels.{level_at}
use Rattle.swizzle.specs.Swizzle.{permitted}
use Rattle.swizzle.specs.declared.Swizzle.{Swizzle}
use Rattle.copies_runs.specs.declared.LevelAndM.{LevelAndM}

-- how far from zero a level or an m is at most, with room to spare
abbrev pub roomy_level : ℕ
roomy_level = 2 ^ 60

-- the same of a copy, which adds its own
abbrev pub roomier : ℕ
roomier = 2 ^ 61

-- a level and an m come to a cell
pub record CellThere (by : Swizzle) (level m : ℤ) : Type 0 where
  pub permits : permitted by.m by.b by.s ≡ true
  pub cell : ℕ
  pub on_m : ℕ
  pub few : cell < beyond
  pub short : on_m < beyond
  pub m_there : swizzled_z by m ≡ pos on_m
  pub there : pos cell ≡ level +ℤ pos on_m

-- what sums come to as level and m
pub record Adds (lengths : List ℕ) (sums : ℕ → ℤ) (place : LevelAndM) : Type 0 where
  pub level_is : place.level ≡ level_at lengths sums
  pub m_is : place.m ≡ sums last_axis

-- what each of the first k of n combinations adds to level and m
pub record CopiesTo (card : Card) (n k : ℕ) (levels ms : List ℤ) : Type 0 where
  pub levels_size : length levels ≡ n
  pub ms_size : length ms ≡ n
  pub levels_at : (r : ℕ) → r < k → get_or levels r (pos 0) ≡ level_at card.lengths (part card.replica r)
  pub ms_at : (r : ℕ) → r < k → get_or ms r (pos 0) ≡ part card.replica r last_axis

-- a row of copies whose cells are there
pub record Fillable (numbers : List ℕ) (level m : ℤ) (levels ms : List ℤ) (row : List ℕ) : Type 0 where
  pub whole : length numbers ≡ 56
  pub levels_size : length levels ≡ length row
  pub ms_size : length ms ≡ length row
  pub near : nat_abs level ≤ roomy_level
  pub m_near : nat_abs m ≤ roomy_level
  pub levels_near : (r : ℕ) → r < length row → nat_abs (get_or levels r (pos 0)) ≤ roomy_level
  pub ms_near : (r : ℕ) → r < length row → nat_abs (get_or ms r (pos 0)) ≤ roomy_level
  pub cells : (r : ℕ) → r < length row → CellThere (swizzle_of numbers) (level +ℤ get_or levels r (pos 0)) (m +ℤ get_or ms r (pos 0))

-- the first k of them are written
pub record FilledTo (numbers : List ℕ) (level m : ℤ) (levels ms : List ℤ) (before after : List ℕ) (k : ℕ) : Type 0 where
  pub size : length after ≡ length before
  pub cells : (r : ℕ) → r < k → pos (get_or after r 0) ≡ level +ℤ get_or levels r (pos 0) +ℤ swizzled_z (swizzle_of numbers) (m +ℤ get_or ms r (pos 0))
