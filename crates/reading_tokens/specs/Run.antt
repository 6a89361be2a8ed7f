-- What a token of a text leads to: a run of the notation's machine from one place to another, or the refusal where the text goes wrong. Nothing here has
-- to be believed: it is what the functions of reading promise each other.
use Rattle.std.specs.Prelude.{ℕ, ◌≤◌, ◌<◌, ◌≡◌, Bool, true, false, ◌&&◌, List, leb, ltb, length, get_or, take}
use Rattle.notation.specs.Promise.{Answered}
use Rattle.notation.specs.Text.{axis_meant, is_marked}
use Rattle.notation.specs.Meaning.{layout_of}
use Rattle.notation.specs.Machine.{digit_of, continues, letter, go, with_number, with_sign, with_axis, step_of, is_shard, in_offset, begun_move, follow, last_event, move_of, next_spot, adds, is_stuck, ends_well, refused_at, reader_of, runs, stepped, start, said}
use Rattle.notation.specs.declared.Layout.{Layout}
use Rattle.notation.specs.declared.Phase.{Phase}
use Rattle.notation.specs.declared.Phase.TheVariants.{First, Extent, Begun, Minus, Size, At, Tee, Named, Starred, Closed, Plus, Opened, Ended, Stuck}
use Rattle.notation.specs.declared.Piece.{Piece}
use Rattle.notation.specs.declared.Stand.{Stand}
use Rattle.notation.specs.declared.Event.{Event}
use Rattle.notation.specs.declared.Reader.{Reader}
use Rattle.notation.specs.declared.Event.TheVariants.{Step as AStep}
use Rattle.notation.specs.declared.Step.{Step}
use Rattle.reading_tokens.specs.declared.Token.{Token}
use Rattle.reading_tokens.specs.declared.Measure.{Measure}
use Rattle.reading_tokens.specs.declared.Spotted.{Spotted}
use Rattle.reading_tokens.specs.declared.Stride.{Stride}

abbrev pub reader_at : Phase → ℕ → Piece → Stand → Reader
reader_at q o p s = record { phase = q; owed = o; piece = p; spot = s }

-- after so many bytes of a text the reader stands here, not stuck, and holds this layout
pub record Stands (t : List ℕ) (i : ℕ) (r : Reader) (l : Layout) : Type 0 where
  pub within : i ≤ length t
  pub reader : r ≡ reader_of (runs stepped start (take i t))
  pub layout : l ≡ layout_of (said (runs stepped start (take i t)).seen)
  pub alive : is_stuck r.phase ≡ false

-- the phases within a number
abbrev pub counts : Phase → Bool
counts First = false
counts Extent = true
counts Begun = false
counts Minus = false
counts Size = true
counts At = false
counts Tee = false
counts Named = false
counts Starred = false
counts Closed = false
counts Plus = false
counts Opened = false
counts Ended = false
counts Stuck = false

-- digits that go on a number, up to one that does not
abbrev pub DigitRun : List ℕ → ℕ → ℕ → ℕ → ℕ → Type 0
DigitRun t from first i v =
    (q : Phase) (p : Piece) (s : Stand) (l : Layout) → counts q ≡ true → Stands t from (reader_at q 0 (with_number p first) s) l → Stands t i (reader_at q 0 (with_number p v) s) l

pub record Digits (t : List ℕ) (from first : ℕ) (k : Token) : Type 0 where
  pub fit : k.fits ≡ true
  pub runs_to : DigitRun t from first k.next k.value
  pub stops : k.next < length t → continues k.value (digit_of (get_or t k.next 0)) ≡ false
  pub small : first < 100000 → k.value < 100000

abbrev pub between : ℕ → ℕ → Bool
between least d = leb least d && ltb d 10

-- a number from a least digit on
pub record Numbered (t : List ℕ) (from least : ℕ) (k : Token) : Type 0 where
  pub runs_to : k.fits ≡ true → (r : Reader) (q : Phase) (p : Piece) (e : Event) (l : Layout) → counts q ≡ true → adds e ≡ false → Stands t from r l
      → (from < length t → between least (digit_of (get_or t from 0)) ≡ true → move_of r (get_or t from 0) ≡ go q 0 (with_number p (digit_of (get_or t from 0))) e)
      → Stands t k.next (reader_at q 0 (with_number p k.value) (next_spot e r.spot)) l
  pub stops : k.fits ≡ true → k.next < length t → continues k.value (digit_of (get_or t k.next 0)) ≡ false
  pub small : k.fits ≡ true → k.value < 100000
  pub fails : k.fits ≡ false → (r : Reader) (l : Layout) → Stands t from r l → ends_well r ≡ false
      → (from < length t → between least (digit_of (get_or t from 0)) ≡ false → is_stuck (move_of r (get_or t from 0)).phase ≡ true)
      → Answered t (refused_at k.next)

-- the letters that are owed
abbrev pub WordRun : List ℕ → ℕ → ℕ → ℕ → ℕ → Type 0
WordRun t from owed i o = (q : Phase) (p : Piece) (s : Stand) (l : Layout) → Stands t from (reader_at q owed p s) l → Stands t i (reader_at q o p s) l

pub record Worded (t : List ℕ) (from owed value : ℕ) (k : Token) : Type 0 where
  pub runs_to : k.fits ≡ true → WordRun t from owed k.next k.owed
  pub paid : k.fits ≡ true → letter k.owed ≡ 0
  pub same : k.fits ≡ true → k.value ≡ value
  pub fails : k.fits ≡ false → (q : Phase) (p : Piece) (s : Stand) (l : Layout) → Stands t from (reader_at q owed p s) l → Answered t (refused_at k.next)

-- an axis from one on, after `@` or `@T`
pub record Axised (q : Phase) (t : List ℕ) (from least : ℕ) (k : Token) : Type 0 where
  pub runs_to : k.fits ≡ true → (p : Piece) (s : Stand) (l : Layout) → s.from ≡ least → Stands t from (reader_at q 0 p s) l → Stands t k.next (reader_at Named k.owed (with_axis p k.value) s) l
  pub paid : k.fits ≡ true → letter k.owed ≡ 0
  pub known : k.fits ≡ true → k.value ≤ 7
  pub low : k.fits ≡ true → least ≤ k.value
  pub fails : k.fits ≡ false → (p : Piece) (s : Stand) (l : Layout) → s.from ≡ least → Stands t from (reader_at q 0 p s) l → Answered t (refused_at k.next)

-- a place where a stride or an offset may begin, and no text ends
pub record StepMayBegin (t : List ℕ) (i : ℕ) (s : Stand) (l : Layout) : Type 0 where
  pub reader : Reader
  pub piece : Piece
  pub event : Event
  pub here : Stands t i reader l
  pub quiet : adds event ≡ false
  pub spot : next_spot event reader.spot ≡ s
  pub begins : i < length t → move_of reader (get_or t i 0) ≡ begun_move event piece (get_or t i 0)
  pub open_end : ends_well reader ≡ false

-- the sign and the number of a stride or an offset
pub record InSize (t : List ℕ) (i : ℕ) (n : Bool) (v : ℕ) (s : Stand) (l : Layout) : Type 0 where
  pub piece : Piece
  pub here : Stands t i (reader_at Size 0 (with_sign (with_number piece v) n) s) l
  pub stops : i < length t → continues v (digit_of (get_or t i 0)) ≡ false

pub record Sized (t : List ℕ) (from : ℕ) (k : Measure) : Type 0 where
  pub runs_to : k.fits ≡ true → (s : Stand) (l : Layout) → StepMayBegin t from s l → InSize t k.next k.negative k.size s l
  pub small : k.fits ≡ true → k.size < 100000
  pub fails : k.fits ≡ false → (s : Stand) (l : Layout) → StepMayBegin t from s l → Answered t (refused_at k.next)

-- a place after a whole stride or offset
pub record Finished (t : List ℕ) (i : ℕ) (step : Step) (s : Stand) (l : Layout) : Type 0 where
  pub phase : Phase
  pub owed : ℕ
  pub piece : Piece
  pub here : Stands t i (reader_at phase owed piece s) l
  pub is : step_of piece step.place ≡ step
  pub follows : i < length t → move_of (reader_at phase owed piece s) (get_or t i 0) ≡ follow s.part step.place piece s (get_or t i 0)
  pub open_end : in_offset s.part ≡ false → ends_well (reader_at phase owed piece s) ≡ false
  pub ends : in_offset s.part ≡ true → is_marked step.place ≡ false → (ends_well (reader_at phase owed piece s) ≡ true) × (last_event phase piece ≡ AStep step.place)

-- where it stands: nothing, an axis, or an axis and a star
pub record AxisRead (t : List ℕ) (from least : ℕ) (marks : Bool) (k : Spotted) : Type 0 where
  pub runs_to : k.fits ≡ true → (p : Piece) (s : Stand) (l : Layout) → s.from ≡ least → is_shard s.part ≡ marks → Stands t from (reader_at Size 0 p s) l
      → (from < length t → continues p.value (digit_of (get_or t from 0)) ≡ false) → Finished t k.next (step_of p k.place) s l
  pub known : k.fits ≡ true → axis_meant k.place ≤ 7
  pub low : k.fits ≡ true → least ≤ 7 → least ≤ axis_meant k.place
  pub plain : k.fits ≡ true → marks ≡ false → is_marked k.place ≡ false
  pub fails : k.fits ≡ false → (p : Piece) (s : Stand) (l : Layout) → s.from ≡ least → Stands t from (reader_at Size 0 p s) l
      → (from < length t → continues p.value (digit_of (get_or t from 0)) ≡ false) → Answered t (refused_at k.next)

-- a stride or an offset
pub record Strided (t : List ℕ) (from least : ℕ) (marks : Bool) (k : Stride) : Type 0 where
  pub runs_to : k.fits ≡ true → (s : Stand) (l : Layout) → s.from ≡ least → is_shard s.part ≡ marks → StepMayBegin t from s l → Finished t k.next k.step s l
  pub small : k.fits ≡ true → k.step.size < 100000
  pub known : k.fits ≡ true → axis_meant k.step.place ≤ 7
  pub low : k.fits ≡ true → least ≤ 7 → least ≤ axis_meant k.step.place
  pub plain : k.fits ≡ true → marks ≡ false → is_marked k.step.place ≡ false
  pub fails : k.fits ≡ false → (s : Stand) (l : Layout) → s.from ≡ least → StepMayBegin t from s l → Answered t (refused_at k.next)
