-- The reader as a machine: where it stands and a byte give a move. Nothing here has to be believed: it is what the functions of the reader promise each
-- other, and what the proofs run over a text.
use Rattle.std.specs.Prelude.{ℕ, ◌+◌, ◌-◌, ◌*◌, ◌%◌, Bool, true, false, cond, ◌&&◌, List, [], ◌∷◌, ◌++◌, leb, ltb, eqb, length, get_or, set, replicate, ℤ, pos, Err, Ok}
use Rattle.answers.specs.Refusals.{no_refusal}
use Rattle.card.specs.Card.{none}
use Rattle.card.specs.declared.Iters.{Iters}
use Rattle.notation.specs.Text.{axis_meant, Lists, Notation, is_marked}
use Rattle.notation.specs.Meaning.{value_of, layout_of}
use Rattle.notation.specs.Promise.{no_layout}
use Rattle.answers.specs.declared.Refusal.TheVariants.{Notation as NotCorrect}
use Rattle.notation.specs.declared.Layout.{Layout}
use Rattle.notation.specs.declared.Reading.{Reading}
use Rattle.notation.specs.declared.Phase.{Phase}
use Rattle.notation.specs.declared.Phase.TheVariants.{First, Extent, Begun, Minus, Size, At, Tee, Named, Starred, Closed, Plus, Opened, Ended, Stuck}
use Rattle.notation.specs.declared.Part.{Part}
use Rattle.notation.specs.declared.Part.TheVariants.{Shard, Several, Single, Offset}
use Rattle.notation.specs.declared.NamedAxis.{NamedAxis}
use Rattle.notation.specs.declared.NamedAxis.TheVariants.{Bare, At as OnAxis, Marked}
use Rattle.notation.specs.declared.Step.{Step}
use Rattle.notation.specs.declared.Piece.{Piece}
use Rattle.notation.specs.declared.Stand.{Stand}
use Rattle.notation.specs.declared.Event.{Event}
use Rattle.notation.specs.declared.Event.TheVariants.{Same, Extent as AnExtent, Step as AStep, Part as APart}
use Rattle.notation.specs.declared.Move.{Move}
use Rattle.notation.specs.declared.Reader.{Reader}

-- the digit that a byte is, 10 for none
abbrev pub digit_of : ℕ → ℕ
digit_of b = cond (ltb b 48) 10 (cond (ltb 57 b) 10 (b - 48))

-- whether a digit may follow a number: not after a zero that begins it, and not after five digits
abbrev pub continues : ℕ → ℕ → Bool
continues value d = ltb d 10 && (leb 1 value && ltb value 10000)

-- the axis whose name begins with a byte, T apart; 8 for none
abbrev pub initial_of : ℕ → ℕ
initial_of b =
    cond (eqb b 112) 0 (cond (eqb b 119) 1 (cond (eqb b 108) 2 (cond (eqb b 80) 3 (cond (eqb b 70) 4 (cond (eqb b 109) 7 8)))))

abbrev pub rest_of : ℕ → ℕ
rest_of axis = cond (eqb axis 0) 1 (cond (eqb axis 1) 4 (cond (eqb axis 2) 10 0))

-- words that have to follow, each up to a zero: id arpid aneid ane ol S[( :( ] [
abbrev pub words_to_follow : List ℕ
words_to_follow =
    0 ∷ 105 ∷ 100 ∷ 0 ∷ 97 ∷ 114 ∷ 112 ∷ 105 ∷ 100 ∷ 0 ∷ 97 ∷ 110 ∷ 101 ∷ 105 ∷ 100 ∷ 0 ∷ 97 ∷ 110 ∷ 101 ∷ 0 ∷ 111 ∷ 108 ∷ 0 ∷
    83 ∷ 91 ∷ 40 ∷ 0 ∷ 58 ∷ 40 ∷ 0 ∷ 93 ∷ 0 ∷ 91 ∷ 0 ∷ replicate 30 0

abbrev pub letter : ℕ → ℕ
letter owed = get_or words_to_follow (owed % 64) 0

-- what a part of the text is like
abbrev pub most : Part → ℕ
most Shard = 8
most Several = 4
most Single = 1
most Offset = 0

abbrev pub least_axis : Part → ℕ
least_axis Shard = 1
least_axis Several = 2
least_axis Single = 1
least_axis Offset = 1

abbrev pub parens : Part → Bool
parens Shard = true
parens Several = true
parens Single = false
parens Offset = false

abbrev pub is_shard : Part → Bool
is_shard Shard = true
is_shard Several = false
is_shard Single = false
is_shard Offset = false

abbrev pub in_offset : Part → Bool
in_offset Shard = false
in_offset Several = false
in_offset Single = false
in_offset Offset = true

abbrev pub after : Part → Phase
after Shard = Closed
after Several = Ended
after Single = Ended
after Offset = Ended

abbrev pub go : Phase → ℕ → Piece → Event → Move
go phase owed piece event = record { phase = phase; owed = owed; piece = piece; event = event }

abbrev pub stuck : Piece → Move
stuck piece = go Stuck 0 piece Same

abbrev pub with_number : Piece → ℕ → Piece
with_number p v = record { value = v; negative = p.negative; axis = p.axis }

abbrev pub with_sign : Piece → Bool → Piece
with_sign p n = record { value = p.value; negative = n; axis = p.axis }

abbrev pub with_axis : Piece → ℕ → Piece
with_axis p a = record { value = p.value; negative = p.negative; axis = a }

abbrev pub step_of : Piece → NamedAxis → Step
step_of p place = record { negative = p.negative; size = p.value; place = place }

abbrev pub first_move : Piece → ℕ → Move
first_move p b = cond (ltb (digit_of b) 10) (go Extent 0 (with_number p (digit_of b)) Same) (stuck p)

abbrev pub extent_move : Piece → Stand → ℕ → Move
extent_move p s b =
    cond (continues p.value (digit_of b)) (go Extent 0 (with_number p (p.value * 10 + digit_of b)) Same)
    (cond (eqb b 44 && ltb (s.extents + 1) (most s.part)) (go First 0 p AnExtent)
    (cond (eqb b (cond (parens s.part) 41 58) && leb (least_axis s.part) (s.extents + 1)) (go Begun (cond (parens s.part) 27 0) p AnExtent)
    (stuck p)))

abbrev pub begun_move : Event → Piece → ℕ → Move
begun_move e p b =
    cond (eqb b 45) (go Minus 0 (with_sign p true) e)
    (cond (ltb (digit_of b) 10) (go Size 0 (with_sign (with_number p (digit_of b)) false) e) (stuck p))

abbrev pub minus_move : Piece → ℕ → Move
minus_move p b = cond (leb 1 (digit_of b) && ltb (digit_of b) 10) (go Size 0 (with_number p (digit_of b)) Same) (stuck p)

-- a byte after a stride or offset
abbrev pub list_move : NamedAxis → Piece → Stand → ℕ → Move
list_move place p s b =
    cond (eqb b 44 && ltb (s.steps + 1) s.extents) (go Begun 0 p (AStep place))
    (cond (eqb b (cond (parens s.part) 41 93) && eqb (s.steps + 1) s.extents) (go (after s.part) (cond (parens s.part) 30 0) p (AStep place))
    (stuck p))

abbrev pub offset_move : NamedAxis → Piece → ℕ → Move
offset_move place p b = cond (eqb b 43 && ltb (axis_meant place) 7) (go Begun 0 p (AStep place)) (stuck p)

abbrev pub follow : Part → NamedAxis → Piece → Stand → ℕ → Move
follow Shard place p s b = list_move place p s b
follow Several place p s b = list_move place p s b
follow Single place p s b = list_move place p s b
follow Offset place p s b = offset_move place p b

abbrev pub size_move : Piece → Stand → ℕ → Move
size_move p s b =
    cond (continues p.value (digit_of b)) (go Size 0 (with_number p (p.value * 10 + digit_of b)) Same)
    (cond (eqb b 64) (go At 0 p Same) (follow s.part Bare p s b))

abbrev pub at_move : Piece → Stand → ℕ → Move
at_move p s b =
    cond (eqb b 84 && leb s.from 6) (go Tee 0 p Same)
    (cond (ltb (initial_of b) 8 && leb s.from (initial_of b)) (go Named (rest_of (initial_of b)) (with_axis p (initial_of b)) Same) (stuck p))

abbrev pub tee_move : Piece → Stand → ℕ → Move
tee_move p s b =
    cond (eqb b 67) (go Named 20 (with_axis p 6) Same)
    (cond (eqb b 76 && leb s.from 5) (go Named 16 (with_axis p 5) Same) (stuck p))

abbrev pub named_move : Piece → Stand → ℕ → Move
named_move p s b = cond (eqb b 42 && is_shard s.part) (go Starred 0 p Same) (follow s.part (OnAxis p.axis) p s b)

abbrev pub starred_move : Piece → Stand → ℕ → Move
starred_move p s b = follow s.part (Marked p.axis) p s b

abbrev pub closed_move : Piece → ℕ → Move
closed_move p b = cond (eqb b 43) (go Plus 0 p Same) (stuck p)

abbrev pub plus_move : Piece → ℕ → Move
plus_move p b = cond (eqb b 82) (go Opened 32 p Same) (begun_move (APart Offset) p b)

abbrev pub opened_move : Piece → ℕ → Move
opened_move p b =
    cond (eqb b 40) (go First 0 p (APart Several))
    (cond (ltb (digit_of b) 10) (go Extent 0 (with_number p (digit_of b)) (APart Single)) (stuck p))

abbrev pub ended_move : Piece → ℕ → Move
ended_move p b = cond (eqb b 43) (go Begun 0 p (APart Offset)) (stuck p)

abbrev pub phase_move : Phase → Piece → Stand → ℕ → Move
phase_move First p s b = first_move p b
phase_move Extent p s b = extent_move p s b
phase_move Begun p s b = begun_move Same p b
phase_move Minus p s b = minus_move p b
phase_move Size p s b = size_move p s b
phase_move At p s b = at_move p s b
phase_move Tee p s b = tee_move p s b
phase_move Named p s b = named_move p s b
phase_move Starred p s b = starred_move p s b
phase_move Closed p s b = closed_move p b
phase_move Plus p s b = plus_move p b
phase_move Opened p s b = opened_move p b
phase_move Ended p s b = ended_move p b
phase_move Stuck p s b = stuck p

-- bytes that are owed come first
unfoldable pub moved : Phase → ℕ → Piece → Stand → ℕ → Move
moved phase owed p s b =
    cond (eqb (letter owed) 0) (phase_move phase p s b)
    (cond (eqb b (letter owed)) (go phase (owed % 64 + 1) p Same) (stuck p))

abbrev pub move_of : Reader → ℕ → Move
move_of r b = moved r.phase r.owed r.piece r.spot b

-- where the reader stands in the part after an event
abbrev pub next_spot : Event → Stand → Stand
next_spot Same s = s
next_spot AnExtent s = record { part = s.part; from = s.from; extents = s.extents + 1; steps = s.steps }
next_spot (AStep place) s = record { part = s.part; from = cond (in_offset s.part) (axis_meant place + 1) s.from; extents = s.extents; steps = s.steps + 1 }
next_spot (APart part) s = record { part = part; from = 0; extents = 0; steps = 0 }

abbrev pub no_piece : Piece
no_piece = record { value = 0; negative = false; axis = 7 }

abbrev pub is_stuck : Phase → Bool
is_stuck First = false
is_stuck Extent = false
is_stuck Begun = false
is_stuck Minus = false
is_stuck Size = false
is_stuck At = false
is_stuck Tee = false
is_stuck Named = false
is_stuck Starred = false
is_stuck Closed = false
is_stuck Plus = false
is_stuck Opened = false
is_stuck Ended = false
is_stuck Stuck = true

-- whether a text may end here
abbrev pub is_whole : Phase → Part → Bool
is_whole First part = false
is_whole Extent part = false
is_whole Begun part = false
is_whole Minus part = false
is_whole Size part = in_offset part
is_whole At part = false
is_whole Tee part = false
is_whole Named part = in_offset part
is_whole Starred part = false
is_whole Closed part = true
is_whole Plus part = false
is_whole Opened part = false
is_whole Ended part = true
is_whole Stuck part = false

abbrev pub ends_well : Reader → Bool
ends_well r = eqb (letter r.owed) 0 && is_whole r.phase r.spot.part

-- an offset that ends with the text is finished by its end
abbrev pub last_event : Phase → Piece → Event
last_event First p = Same
last_event Extent p = Same
last_event Begun p = Same
last_event Minus p = Same
last_event Size p = AStep Bare
last_event At p = Same
last_event Tee p = Same
last_event Named p = AStep (OnAxis p.axis)
last_event Starred p = Same
last_event Closed p = Same
last_event Plus p = Same
last_event Opened p = Same
last_event Ended p = Same
last_event Stuck p = Same

-- what an event adds to the layout that is being read
abbrev pub extent_added : Iters → ℕ → ℕ → Iters
extent_added l k v = record { at = set l.at k (record { extent = v; stride = pos 0; axis = 0 }); count = k + 1 }

abbrev pub step_added : Iters → ℕ → ℤ → ℕ → Iters
step_added l k stride axis = record { at = set l.at k (record { extent = (get_or l.at k none).extent; stride = stride; axis = axis }); count = l.count }

abbrev pub add_extent : Part → ℕ → ℕ → Layout → Layout
add_extent Shard k v l = record { shard = extent_added l.shard k v; marks = l.marks; replica = l.replica; offset = l.offset }
add_extent Several k v l = record { shard = l.shard; marks = l.marks; replica = extent_added l.replica k v; offset = l.offset }
add_extent Single k v l = record { shard = l.shard; marks = l.marks; replica = extent_added l.replica k v; offset = l.offset }
add_extent Offset k v l = l

abbrev pub add_step : Part → ℕ → Step → Layout → Layout
add_step Shard k t l = record { shard = step_added l.shard k (value_of t) (axis_meant t.place); marks = set l.marks k (is_marked t.place); replica = l.replica; offset = l.offset }
add_step Several k t l = record { shard = l.shard; marks = l.marks; replica = step_added l.replica k (value_of t) (axis_meant t.place); offset = l.offset }
add_step Single k t l = record { shard = l.shard; marks = l.marks; replica = step_added l.replica k (value_of t) (axis_meant t.place); offset = l.offset }
add_step Offset k t l = record { shard = l.shard; marks = l.marks; replica = l.replica; offset = set l.offset (axis_meant t.place) (value_of t) }

abbrev pub recorded : Event → Piece → Stand → Layout → Layout
recorded Same p s l = l
recorded AnExtent p s l = add_extent s.part s.extents p.value l
recorded (AStep place) p s l = add_step s.part s.steps (step_of p place) l
recorded (APart part) p s l = l

-- whether it adds anything
abbrev pub adds : Event → Bool
adds Same = false
adds AnExtent = true
adds (AStep place) = true
adds (APart part) = false

-- the answer where no correct text goes on, and at the end of a text
abbrev pub refused_at : ℕ → Reading
refused_at a = record { answer = Err (NotCorrect a); layout = no_layout }

abbrev pub concluded : Reader → Layout → ℕ → Reading
concluded r l length =
    cond (ends_well r) (record { answer = no_refusal; layout = recorded (last_event r.phase r.piece) r.piece r.spot l }) (refused_at length)

-- what has been read: the part, the least axis that may follow, its extents, its strides or offsets, and the lists before it
pub record Seen : Type 0 where
  pub part : Part
  pub from : ℕ
  pub extents : List ℕ
  pub steps : List Step
  pub shard : Lists
  pub replica : Lists

abbrev pub spot_of : Seen → Stand
spot_of s = record { part = s.part; from = s.from; extents = length s.extents; steps = length s.steps }

abbrev pub no_lists : Lists
no_lists = record { extents = []; steps = [] }

abbrev pub here : Seen → Lists
here s = record { extents = s.extents; steps = s.steps }

-- what has been said
abbrev pub saying : Part → Seen → Notation
saying Shard s = record { shard = here s; replica = no_lists; offsets = [] }
saying Several s = record { shard = s.shard; replica = here s; offsets = [] }
saying Single s = record { shard = s.shard; replica = here s; offsets = [] }
saying Offset s = record { shard = s.shard; replica = s.replica; offsets = s.steps }

abbrev pub said : Seen → Notation
said s = saying s.part s

abbrev pub with_extent : Seen → ℕ → Seen
with_extent s v = record { part = s.part; from = s.from; extents = s.extents ++ (v ∷ []); steps = s.steps; shard = s.shard; replica = s.replica }

abbrev pub with_step : Seen → Step → Seen
with_step s t = record { part = s.part; from = cond (in_offset s.part) (axis_meant t.place + 1) s.from; extents = s.extents; steps = s.steps ++ (t ∷ []); shard = s.shard; replica = s.replica }

abbrev pub as_part : Seen → Part → Seen
as_part s part = record { part = part; from = 0; extents = []; steps = []; shard = (said s).shard; replica = (said s).replica }

abbrev pub seeing : Event → Piece → Seen → Seen
seeing Same p s = s
seeing AnExtent p s = with_extent s p.value
seeing (AStep place) p s = with_step s (step_of p place)
seeing (APart part) p s = as_part s part

pub record State : Type 0 where
  pub phase : Phase
  pub owed : ℕ
  pub piece : Piece
  pub seen : Seen

abbrev pub state_at : Phase → ℕ → Piece → Seen → State
state_at phase owed piece seen = record { phase = phase; owed = owed; piece = piece; seen = seen }

abbrev pub reader_of : State → Reader
reader_of r = record { phase = r.phase; owed = r.owed; piece = r.piece; spot = spot_of r.seen }

abbrev pub enter : Seen → Move → State
enter s m = state_at m.phase m.owed m.piece (seeing m.event m.piece s)

unfoldable pub stepped : State → ℕ → State
stepped r b = enter r.seen (moved r.phase r.owed r.piece (spot_of r.seen) b)

-- where the reader stands at the start, and after a move
abbrev pub first_reader : Reader
first_reader = record { phase = First; owed = 23; piece = no_piece; spot = record { part = Shard; from = 0; extents = 0; steps = 0 } }

abbrev pub next_reader : Move → Stand → Reader
next_reader m s = record { phase = m.phase; owed = m.owed; piece = m.piece; spot = next_spot m.event s }

abbrev pub start : State
start = state_at First 23 no_piece (record { part = Shard; from = 0; extents = []; steps = []; shard = no_lists; replica = no_lists })

abbrev pub runs : {S : Type 0} → (S → ℕ → S) → S → List ℕ → S
runs step s [] = s
runs step s (b ∷ t) = runs step (step s b) t

-- a text may end here
abbrev pub is_end : State → Bool
is_end r = eqb (letter r.owed) 0 && is_whole r.phase r.seen.part

-- and says this
abbrev pub ending : State → Notation
ending r = said (seeing (last_event r.phase r.piece) r.piece r.seen)

-- what the machine reads from a place on
abbrev pub read_from : State → ℕ → List ℕ → Reading
read_from r i [] = cond (is_end r) (record { answer = no_refusal; layout = layout_of (ending r) }) (refused_at i)
read_from r i (b ∷ t) = cond (is_stuck (stepped r b).phase) (refused_at i) (read_from (stepped r b) (i + 1) t)

abbrev pub read_run : List ℕ → Reading
read_run t = read_from start 0 t
