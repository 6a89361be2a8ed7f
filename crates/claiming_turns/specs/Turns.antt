-- An odometer over the iters of a list: components as digits, the index that they make, and where it is. Nothing here has to be believed.
use Rattle.std.specs.Prelude.{◌≡◌, cond, List, [], ◌∷◌, map, ℕ, ◌+◌, ◌^◌, ◌≤◌, ◌<◌, eqb, ℤ, pos, nat_abs, ◌+ℤ◌, length, get_or, drop}
use Rattle.std.proofs.Math.Seq.{slice}
use Rattle.card.specs.Lists.{product}
use Rattle.card.specs.Card.{none, listed, extent_of}
use Rattle.card.specs.Packed.{iters_of}
use Rattle.card.specs.declared.Iter.{Iter}
use Rattle.rules.specs.RowMajor.{row_major}
use Rattle.rules.specs.Rules.{added}
use Rattle.rules_linear.specs.Runs.{run_length}
use Rattle.copies_runs.specs.Clauses.{roomy_level, Adds}
use Rattle.copies_runs.specs.declared.LevelAndM.{LevelAndM}

-- each extent has a digit below it; more digits may stand behind
abbrev pub DigitsFit : List ℕ → List ℕ → Type 0
DigitsFit [] cs = Unit
DigitsFit (n ∷ ns) [] = ⊥
DigitsFit (n ∷ ns) (c ∷ cs) = (c < n) × DigitsFit ns cs

abbrev pub iter_extents : List Iter → List ℕ
iter_extents l = map extent_of l

-- the index that digits make, and what they add to each axis beside an offset
abbrev pub index_of : List Iter → List ℕ → ℕ
index_of l cs = row_major (iter_extents l) cs

abbrev pub sums_at : List Iter → List ℤ → List ℕ → ℕ → ℤ
sums_at l offset cs axis = added axis l cs +ℤ get_or offset axis (pos 0)

-- what one step of an iter adds to each axis
abbrev pub unit : Iter → ℕ → ℤ
unit iter axis = cond (eqb iter.axis axis) iter.stride (pos 0)

abbrev pub size_from : ℕ → List Iter → ℕ
size_from k l = product (iter_extents (drop k l))

-- the shard's iters of a packed card
abbrev pub shard_iters : List ℕ → List ℤ → List Iter
shard_iters numbers strides = listed (iters_of numbers strides 0)

-- so many iters are slower than the run's: the others make one run
pub record RunFrom (l : List Iter) (from : ℕ) : Type 0 where
  pub most : from ≤ length l
  pub a_run : size_from from l ≡ run_length l

-- what one step of each of the first k iters adds to level and m
pub record WaysTo (numbers : List ℕ) (strides : List ℤ) (k : ℕ) (levels ms : List ℤ) : Type 0 where
  pub level_size : length levels ≡ 8
  pub m_size : length ms ≡ 8
  pub ways : (j : ℕ) → j < k → Adds (slice 32 40 numbers) (unit (get_or (shard_iters numbers strides) j none)) (record { level = get_or levels j (pos 0); m = get_or ms j (pos 0) })

-- digits, and the place of the element whose components they are
pub record DigitsAt (numbers : List ℕ) (strides : List ℤ) (digits : List ℕ) (place : LevelAndM) : Type 0 where
  pub fits : DigitsFit (iter_extents (shard_iters numbers strides)) digits
  pub at : Adds (slice 32 40 numbers) (sums_at (shard_iters numbers strides) (slice 16 24 strides) digits) place

pub record Turnable (numbers : List ℕ) (strides : List ℤ) (from : ℕ) (levels ms : List ℤ) (digits : List ℕ) (start : LevelAndM) : Type 0 where
  pub whole : (length numbers ≡ 56) × (length digits ≡ 8) × (get_or numbers 40 0 ≤ 8)
  pub slower : from ≤ length (shard_iters numbers strides)
  pub small : (k : ℕ) → k < length (shard_iters numbers strides) → get_or (iter_extents (shard_iters numbers strides)) k 0 ≤ 2 ^ 32
  pub near : (cs : List ℕ) (place : LevelAndM) → DigitsAt numbers strides cs place → (nat_abs place.level ≤ roomy_level) × (nat_abs place.m ≤ roomy_level)
  pub ways : WaysTo numbers strides from levels ms
  pub here : DigitsAt numbers strides digits start

-- one turn: the index is larger by one run, where it is still an element
pub record Turned (numbers : List ℕ) (strides : List ℤ) (from : ℕ) (before after : List ℕ) (place : LevelAndM) : Type 0 where
  pub size : length after ≡ length before
  pub there : DigitsAt numbers strides after place
  pub next : let l = shard_iters numbers strides in index_of l before + size_from from l < size_from 0 l → index_of l after ≡ index_of l before + size_from from l
