-- What the lists of a text lead to: runs of the notation's machine over extents, strides and offsets. Nothing here has to be believed.
use Rattle.std.specs.Prelude.{ℕ, ◌≤◌, ◌<◌, ◌≡◌, Bool, true, false, List, ℤ, pos, eqb, length, get_or, set, replicate, Ok}
use Rattle.answers.specs.Refusals.{no_refusal}
use Rattle.card.specs.declared.Iter.{Iter}
use Rattle.card.specs.declared.Iters.{Iters}
use Rattle.card.specs.Card.{none}
use Rattle.notation.specs.Promise.{Answered, no_iters}
use Rattle.notation.specs.Machine.{letter, most, least_axis, parens, is_shard, after, refused_at}
use Rattle.notation.specs.declared.Layout.{Layout}
use Rattle.notation.specs.declared.Phase.{Phase}
use Rattle.notation.specs.declared.Phase.TheVariants.{First, Begun, Opened, Ended}
use Rattle.notation.specs.declared.Part.{Part}
use Rattle.notation.specs.declared.Part.TheVariants.{Shard, Several, Single, Offset}
use Rattle.notation.specs.declared.Piece.{Piece}
use Rattle.notation.specs.declared.Stand.{Stand}
use Rattle.reading_tokens.specs.Run.{reader_at, Stands, StepMayBegin}
use Rattle.reading_lists.specs.declared.Extents.{Extents}
use Rattle.reading_lists.specs.declared.StepsRead.{StepsRead}
use Rattle.reading_lists.specs.declared.List.{List as ReadList}
use Rattle.reading_lists.specs.declared.Single.{Single as ReadSingle}
use Rattle.reading_lists.specs.declared.Shifts.{Shifts}

abbrev pub spot_in : Part → ℕ → ℕ → Stand
spot_in part e k = record { part = part; from = 0; extents = e; steps = k }

-- a layout with the list of a part, and the marks of the shard
abbrev pub laid_in : Part → Layout → Iters → List Bool → Layout
laid_in Shard l i m = record { shard = i; marks = m; replica = l.replica; offset = l.offset }
laid_in Several l i m = record { shard = l.shard; marks = l.marks; replica = i; offset = l.offset }
laid_in Single l i m = record { shard = l.shard; marks = l.marks; replica = i; offset = l.offset }
laid_in Offset l i m = l

abbrev pub nothing_marked : List Bool
nothing_marked = replicate 8 false

-- the reader stands in this phase, where nothing is owed
pub record Standing (t : List ℕ) (i : ℕ) (q : Phase) (s : Stand) (l : Layout) : Type 0 where
  pub owed : ℕ
  pub piece : Piece
  pub paid : letter owed ≡ 0
  pub here : Stands t i (reader_at q owed piece s) l

-- the parts in parentheses
abbrev pub Fitting : Part → ℕ → ℕ → Type 0
Fitting part few many = (parens part ≡ true) × (least_axis part ≡ few) × (most part ≡ many)

abbrev pub ExtentRun : List ℕ → ℕ → ℕ → ℕ → ℕ → ℕ → List Iter → Type 0
ExtentRun t from few many i k at =
    (part : Part) (l : Layout) (m : List Bool) → Fitting part few many → Standing t from First (spot_in part 0 0) (laid_in part l no_iters m)
    → Standing t i First (spot_in part k 0) (laid_in part l (record { at = at; count = k }) m)

pub record ExtentsFrom (t : List ℕ) (from few many : ℕ) (k : Extents) : Type 0 where
  pub runs_to : k.fits ≡ true → (part : Part) (l : Layout) (m : List Bool) → Fitting part few many → Standing t from First (spot_in part 0 0) (laid_in part l no_iters m)
      → Standing t k.next Begun (spot_in part k.count 0) (laid_in part l (record { at = k.at; count = k.count }) m)
  pub some : k.fits ≡ true → 1 ≤ k.count
  pub room : k.fits ≡ true → k.count ≤ 8
  pub fails : k.fits ≡ false → (part : Part) (l : Layout) (m : List Bool) → Fitting part few many → Standing t from First (spot_in part 0 0) (laid_in part l no_iters m)
      → Answered t (refused_at k.next)

abbrev pub PaceRun : List ℕ → ℕ → List Iter → ℕ → Bool → ℕ → ℕ → List Iter → List Bool → Type 0
PaceRun t from iters n shard i k at marks =
    (part : Part) (l : Layout) → parens part ≡ true → is_shard part ≡ shard → Standing t from Begun (spot_in part n 0) (laid_in part l (record { at = iters; count = n }) nothing_marked)
    → Standing t i Begun (spot_in part n k) (laid_in part l (record { at = at; count = n }) marks)

pub record Paced (t : List ℕ) (from : ℕ) (iters : List Iter) (n : ℕ) (shard : Bool) (k : StepsRead) : Type 0 where
  pub runs_to : k.fits ≡ true → (part : Part) (l : Layout) → parens part ≡ true → is_shard part ≡ shard
      → Standing t from Begun (spot_in part n 0) (laid_in part l (record { at = iters; count = n }) nothing_marked)
      → Standing t k.next (after part) (spot_in part n n) (laid_in part l (record { at = k.at; count = n }) k.marks)
  pub fails : k.fits ≡ false → (part : Part) (l : Layout) → parens part ≡ true → is_shard part ≡ shard
      → Standing t from Begun (spot_in part n 0) (laid_in part l (record { at = iters; count = n }) nothing_marked)
      → Answered t (refused_at k.next)

pub record Listed (t : List ℕ) (from few many : ℕ) (shard : Bool) (k : ReadList) : Type 0 where
  pub runs_to : k.fits ≡ true → (part : Part) (l : Layout) → Fitting part few many → is_shard part ≡ shard
      → Standing t from First (spot_in part 0 0) (laid_in part l no_iters nothing_marked)
      → Standing t k.next (after part) (spot_in part k.iters.count k.iters.count) (laid_in part l k.iters k.marks)
  pub fails : k.fits ≡ false → (part : Part) (l : Layout) → Fitting part few many → is_shard part ≡ shard
      → Standing t from First (spot_in part 0 0) (laid_in part l no_iters nothing_marked) → Answered t (refused_at k.next)

-- a single iter and its bracket
abbrev pub one_iter : Iter → Iters
one_iter i = record { at = set (replicate 8 none) 0 i; count = 1 }

pub record Singled (t : List ℕ) (from : ℕ) (k : ReadSingle) : Type 0 where
  pub runs_to : k.fits ≡ true → (s : Stand) (l : Layout) → (from < length t → eqb (get_or t from 0) 40 ≡ false) → Standing t from Opened s (laid_in Single l no_iters nothing_marked)
      → Standing t k.next Ended (spot_in Single 1 1) (laid_in Single l (one_iter k.iter) nothing_marked)
  pub fails : k.fits ≡ false → (s : Stand) (l : Layout) → (from < length t → eqb (get_or t from 0) 40 ≡ false) → Standing t from Opened s (laid_in Single l no_iters nothing_marked)
      → Answered t (refused_at k.next)

-- a place where an offset may begin
abbrev pub with_offset : Layout → List ℤ → Layout
with_offset l o = record { shard = l.shard; marks = l.marks; replica = l.replica; offset = o }

pub record AxesRise (t : List ℕ) (i low : ℕ) (l : Layout) : Type 0 where
  pub steps : ℕ
  pub ready : StepMayBegin t i (record { part = Offset; from = low; extents = 0; steps = steps }) l

abbrev pub OffsetRun : List ℕ → ℕ → ℕ → ℕ → List ℤ → Type 0
OffsetRun t from i low offset = (l : Layout) → AxesRise t from 0 (with_offset l (replicate 8 (pos 0))) → AxesRise t i low (with_offset l offset)

pub record Offsets (t : List ℕ) (from : ℕ) (k : Shifts) : Type 0 where
  pub done : k.fits ≡ true → (l : Layout) → AxesRise t from 0 (with_offset l (replicate 8 (pos 0))) → Answered t (record { answer = no_refusal; layout = with_offset l k.offset })
  pub fails : k.fits ≡ false → (l : Layout) → AxesRise t from 0 (with_offset l (replicate 8 (pos 0))) → Answered t (refused_at k.next)
