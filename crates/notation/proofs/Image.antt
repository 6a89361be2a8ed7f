-- The layout that the reader holds is what has been said so far: each event adds to it what it adds to what is said.
use Prim.Native.Nat.{ℕ, zero, suc, ◌+◌, ◌-◌, ◌≤◌, ◌<◌}
use mathlib.Core.Path.{◌≡◌, refl, sym, ap, ◌∙◌, subst, subst⁻¹}
use mathlib.Core.Bool.{Bool, true, false, cond, ◌&&◌, true≢false}
use mathlib.Core.List.{List, [], ◌∷◌, ◌++◌, append-nil, append_assoc, map}
use native.Mathlib.Omega.{arith}
use lib.Dec.{leb, ltb, eqb}
use lib.IntN.{ℤ, pos}
use lib.Seq.{take_all}
use lib.ListN.{length, get_or, set, take, replicate, length-append, length-map}
use Rattle.card.specs.Lists.{padded}
use Rattle.card.specs.Card.{none}
use Rattle.card.specs.declared.Iter.{Iter}
use Rattle.card.specs.declared.Iters.{Iters}
use Rattle.notation.specs.Text.{axis_meant, Lists, Notation, Correct, is_marked}
use Rattle.notation.specs.Meaning.{value_of, mark_of, iters_said, list_of, laid, no_offset, layout_of}
use Rattle.notation.specs.Machine.{digit_of, continues, initial_of, letter, most, least_axis, parens, is_shard, go, step_of, list_move, follow, phase_move, moved, in_offset, is_stuck, is_whole, ending, last_event, adds, next_spot, reader_of, first_reader, next_reader, move_of, ends_well, refused_at, concluded, enter, stepped, start, runs, recorded, extent_added, step_added, add_extent, add_step, Seen, spot_of, no_lists, here, said, with_extent, with_step, as_part, seeing, State}
use Rattle.notation.specs.declared.Layout.{Layout}
use Rattle.notation.specs.declared.Phase.{Phase}
use Rattle.notation.specs.declared.Phase.TheVariants.{First, Extent, Begun, Minus, Size, At, Tee, Named, Starred, Closed, Plus, Opened, Ended, Stuck}
use Rattle.notation.specs.declared.Part.{Part}
use Rattle.notation.specs.declared.Part.TheVariants.{Shard, Several, Single, Offset}
use Rattle.notation.specs.declared.NamedAxis.{NamedAxis}
use Rattle.notation.specs.declared.NamedAxis.TheVariants.{Bare, At as OnAxis, Marked}
use Rattle.notation.specs.declared.Step.{Step}
use Rattle.notation.specs.declared.Piece.{Piece}
use Rattle.notation.specs.declared.Event.{Event}
use Rattle.notation.specs.declared.Event.TheVariants.{Same, Extent as AnExtent, Step as AStep, Part as APart}
use Rattle.notation.specs.declared.Move.{Move}
use Rattle.notation.specs.declared.Stand.{Stand}
use Rattle.notation.specs.declared.Reader.{Reader}
use Rattle.notation.specs.Promise.{no_layout, Accepted, Answered}
use Rattle.notation.specs.Beginning.{Refused}
use Rattle.notation.proofs.Lists.{pick, pick_both, map_append, rising_length}
use Rattle.notation.proofs.Run.{good, run_more, stuck_refused, end_refused, end_accepted}
use Rattle.notation.proofs.Good.{Good, Shape, Before, InExtents, InStrides, InOffsets, most_8, owing, owing_none}

set_there : {A : Type 0} (l r : List A) (z x : A) → set (l ++ (z ∷ r)) (length l) x ≡ l ++ (x ∷ r)
set_there [] r z x = refl
set_there (a ∷ l) r z x = ap (λ (m : List _). a ∷ m) (set_there l r z x)

-- one more in the first free slot
pub padded_snoc : {A : Type 0} (z : A) (l : List A) (x : A) → length l < 8 → padded z (l ++ (x ∷ [])) ≡ set (padded z l) (length l) x
padded_snoc z l x h =
    let long : length (l ++ (x ∷ [])) ≡ length l + 1 = length-append l (x ∷ []) in
    let m : ℕ = 8 - length (l ++ (x ∷ [])) in
    let one : 8 - length l ≡ suc m = omega (arith, long) in
    append_assoc l (x ∷ []) (replicate m z) ∙ sym (set_there l (replicate m z) z x) ∙ ap (λ (k : ℕ). set (l ++ replicate k z) (length l) x) (sym one)

iters_length : (es : List ℕ) (ss : List Step) → length (iters_said es ss) ≡ length es
iters_length [] ss = refl
iters_length (e ∷ es) [] = ap suc (iters_length es [])
iters_length (e ∷ es) (s ∷ ss) = ap suc (iters_length es ss)

iters_snoc : (es : List ℕ) (v : ℕ) → iters_said (es ++ (v ∷ [])) [] ≡ iters_said es [] ++ (record { extent = v; stride = pos 0; axis = 0 } ∷ [])
iters_snoc [] v = refl
iters_snoc (e ∷ es) v = ap (λ (l : List Iter). record { extent = e; stride = pos 0; axis = 0 } ∷ l) (iters_snoc es v)

abbrev stepped_iter : Iter → Step → Iter
stepped_iter i t = record { extent = i.extent; stride = value_of t; axis = axis_meant t.place }

iters_step : (es : List ℕ) (ss : List Step) (t : Step) (r : List Iter) → length ss < length es
    → iters_said es (ss ++ (t ∷ [])) ++ r ≡ set (iters_said es ss ++ r) (length ss) (stepped_iter (get_or (iters_said es ss ++ r) (length ss) none) t)
iters_step [] ss t r h = absurd (omega arith)
iters_step (e ∷ es) [] t r h = refl
iters_step (e ∷ es) (s ∷ ss) t r h = ap (λ (l : List Iter). record { extent = e; stride = value_of s; axis = axis_meant s.place } ∷ l) (iters_step es ss t r (omega arith))

list_step : (es : List ℕ) (ss : List Step) (t : Step) → length ss < length es
    → padded none (iters_said es (ss ++ (t ∷ []))) ≡ set (padded none (iters_said es ss)) (length ss) (stepped_iter (get_or (padded none (iters_said es ss)) (length ss) none) t)
list_step es ss t h =
    let same : 8 - length (iters_said es (ss ++ (t ∷ []))) ≡ 8 - length (iters_said es ss) = ap (λ (k : ℕ). 8 - k) (iters_length es (ss ++ (t ∷ [])) ∙ sym (iters_length es ss)) in
    ap (λ (k : ℕ). iters_said es (ss ++ (t ∷ [])) ++ replicate k none) same ∙ iters_step es ss t (replicate (8 - length (iters_said es ss)) none) h

list_extent : (es : List ℕ) (v : ℕ) → length es < 8 → padded none (iters_said (es ++ (v ∷ [])) []) ≡ set (padded none (iters_said es [])) (length es) (record { extent = v; stride = pos 0; axis = 0 })
list_extent es v h =
    ap (λ (l : List Iter). padded none l) (iters_snoc es v) ∙ padded_snoc none (iters_said es []) (record { extent = v; stride = pos 0; axis = 0 }) (omega (arith, iters_length es []))
    ∙ ap (λ (k : ℕ). set (padded none (iters_said es [])) k (record { extent = v; stride = pos 0; axis = 0 })) (iters_length es [])

marks_snoc : (ss : List Step) (t : Step) → length ss < 8 → padded false (map mark_of (ss ++ (t ∷ []))) ≡ set (padded false (map mark_of ss)) (length ss) (mark_of t)
marks_snoc ss t h =
    let long : length (map mark_of ss) ≡ length ss = length-map ss mark_of in
    ap (λ (l : List Bool). padded false l) (map_append mark_of ss (t ∷ [])) ∙ padded_snoc false (map mark_of ss) (mark_of t) (omega (arith, long))
    ∙ ap (λ (k : ℕ). set (padded false (map mark_of ss)) k (mark_of t)) long

laid_snoc : (o : List ℤ) (ss : List Step) (t : Step) → laid o (ss ++ (t ∷ [])) ≡ set (laid o ss) (axis_meant t.place) (value_of t)
laid_snoc o [] t = refl
laid_snoc o (s ∷ ss) t = laid_snoc (set o (axis_meant s.place) (value_of s)) ss t

-- what is known where an event happens
abbrev StepFits : Part → Seen → Type 0
StepFits Shard s = (length s.steps < length s.extents) × (length s.extents ≤ 8)
StepFits Several s = (length s.steps < length s.extents) × (length s.extents ≤ 8)
StepFits Single s = (length s.steps < length s.extents) × (length s.extents ≤ 8)
StepFits Offset s = length s.steps < 8

abbrev PartFits : Part → Seen → Type 0
PartFits Shard s = ⊥
PartFits Several s = ((said s).replica ≡ no_lists) × ((said s).offsets ≡ [])
PartFits Single s = ((said s).replica ≡ no_lists) × ((said s).offsets ≡ [])
PartFits Offset s = (said s).offsets ≡ []

abbrev pub Fits : Event → Piece → Seen → Type 0
Fits Same p s = Unit {0}
Fits AnExtent p s = (s.steps ≡ []) × (length s.extents < 8)
Fits (AStep place) p s = (p.value < 100000) × (axis_meant place ≤ 7) × StepFits s.part s
Fits (APart part) p s = PartFits part s

-- where the reader stands in the part after an event
pub spot_next : (e : Event) (p : Piece) (s : Seen) → spot_of (seeing e p s) ≡ next_spot e (spot_of s)
spot_next Same p s = refl
spot_next AnExtent p s = ap (λ (k : ℕ). record { part = s.part; from = s.from; extents = k; steps = length s.steps }) (length-append s.extents (p.value ∷ []))
spot_next (AStep place) p s =
    ap (λ (k : ℕ). record { part = s.part; from = cond (in_offset s.part) (axis_meant place + 1) s.from; extents = length s.extents; steps = k }) (length-append s.steps (step_of p place ∷ []))
spot_next (APart part) p s = refl

abbrev with : Seen → Part → Seen
with s part = record { part = part; from = s.from; extents = s.extents; steps = s.steps; shard = s.shard; replica = s.replica }

-- an extent, a stride and an offset in the layout, by their part
abbrev replica_layout : Seen → Iters → Layout
replica_layout s i = record { shard = list_of s.shard; marks = padded false (map mark_of s.shard.steps); replica = i; offset = no_offset }

list_more : (s : Seen) (v : ℕ) → s.steps ≡ [] → length s.extents < 8
    → list_of (record { extents = s.extents ++ (v ∷ []); steps = s.steps }) ≡ extent_added (list_of (here s)) (length s.extents) v
list_more s v e h =
    let at : padded none (iters_said (s.extents ++ (v ∷ [])) s.steps) ≡ set (padded none (iters_said s.extents s.steps)) (length s.extents) (record { extent = v; stride = pos 0; axis = 0 })
    = rw e (list_extent s.extents v h) in
    λ j. record { at = at j; count = length-append s.extents (v ∷ []) j }

list_stepped : (s : Seen) (t : Step) → length s.steps < length s.extents
    → list_of (record { extents = s.extents; steps = s.steps ++ (t ∷ []) }) ≡ step_added (list_of (here s)) (length s.steps) (value_of t) (axis_meant t.place)
list_stepped s t h = ap (λ (l : List Iter). record { at = l; count = length s.extents }) (list_step s.extents s.steps t h)

extent_image : (part : Part) (s : Seen) (v : ℕ) → s.steps ≡ [] → length s.extents < 8
    → layout_of (said (with_extent (with s part) v)) ≡ add_extent part (length s.extents) v (layout_of (said (with s part)))
extent_image Shard s v e h = ap (λ (i : Iters). record { shard = i; marks = padded false (map mark_of s.steps); replica = list_of no_lists; offset = no_offset }) (list_more s v e h)
extent_image Several s v e h = ap (replica_layout s) (list_more s v e h)
extent_image Single s v e h = ap (replica_layout s) (list_more s v e h)
extent_image Offset s v e h = refl

step_image : (part : Part) (s : Seen) (t : Step) → StepFits part s
    → layout_of (said (with_step (with s part) t)) ≡ add_step part (length s.steps) t (layout_of (said (with s part)))
step_image Shard s t f =
    let shard = list_stepped s t f.0 in
    let marks = marks_snoc s.steps t (omega (arith, f.0, f.1)) in
    λ j. record { shard = shard j; marks = marks j; replica = list_of no_lists; offset = no_offset }
step_image Several s t f = ap (replica_layout s) (list_stepped s t f.0)
step_image Single s t f = ap (replica_layout s) (list_stepped s t f.0)
step_image Offset s t f = ap (λ (o : List ℤ). record { shard = list_of s.shard; marks = padded false (map mark_of s.shard.steps); replica = list_of s.replica; offset = o }) (laid_snoc no_offset s.steps t)

part_image : (part : Part) (s : Seen) → PartFits part s → layout_of (said (as_part s part)) ≡ layout_of (said s)
part_image Shard s f = absurd f
part_image Several s f = λ j. layout_of (record { shard = (said s).shard; replica = sym f.0 j; offsets = sym f.1 j })
part_image Single s f = λ j. layout_of (record { shard = (said s).shard; replica = sym f.0 j; offsets = sym f.1 j })
part_image Offset s f = λ j. layout_of (record { shard = (said s).shard; replica = (said s).replica; offsets = sym f j })

-- an event adds to the layout what it adds to what is said
pub image : (e : Event) (p : Piece) (s : Seen) → Fits e p s → layout_of (said (seeing e p s)) ≡ recorded e p (spot_of s) (layout_of (said s))
image Same p s f = refl
image AnExtent p s f = extent_image s.part s p.value f.0 f.1
image (AStep place) p s f = step_image s.part s (step_of p place) f.2
image (APart part) p s f = part_image part s f

-- in a good state each event fits
module _ (p : Piece) (s : Seen) (b : ℕ) where
  abbrev Fit : Move → Type 0
  Fit m = Fits m.event m.piece s

  list_fits : (part : Part) → InStrides part s → (length s.steps < length s.extents) × (length s.extents ≤ 8)
  list_fits part i = (omega (arith, i.room), omega (arith, i.few, most_8 part))

  step_fits : (part : Part) → Before part s → StepFits part s
  step_fits Shard i = list_fits Shard i
  step_fits Several i = list_fits Several i
  step_fits Single i = list_fits Single i
  step_fits Offset i = omega (arith, rising_length 0 s.steps s.from i.rising, i.low)

  list_move_fits : (place : NamedAxis) → Fits (AStep place) p s → Fit (list_move place p (spot_of s) b)
  list_move_fits place f =
      pick_both Fit (eqb b 44) (ltb (length s.steps + 1) (length s.extents)) (λ _ _. f)
      (pick_both Fit (eqb b (cond (parens s.part) 41 93)) (eqb (length s.steps + 1) (length s.extents)) (λ _ _. f) tt)

  follow_fits : (part : Part) (place : NamedAxis) → Fits (AStep place) p s → Fit (follow part place p (spot_of s) b)
  follow_fits Shard place f = list_move_fits place f
  follow_fits Several place f = list_move_fits place f
  follow_fits Single place f = list_move_fits place f
  follow_fits Offset place f = pick_both Fit (eqb b 43) (ltb (axis_meant place) 7) (λ _ _. f) tt

  size_fits : (x : List ℕ) → Shape Size p s x → Fits (AStep Bare) p s
  size_fits x i = (i.0.0, omega arith, step_fits s.part i.1.before)

  named_fits : (x : List ℕ) → Shape Named p s x → Fits (AStep (OnAxis p.axis)) p s
  named_fits x i = (i.2.0, i.1, step_fits s.part i.3.before)

  fits : (q : Phase) (x : List ℕ) → Shape q p s x → Fit (phase_move q p (spot_of s) b)
  fits First x i = pick Fit (ltb (digit_of b) 10) (λ _. tt) (λ _. tt)
  fits Extent x i =
      let f : Fits AnExtent p s = (i.1.none, omega (arith, i.1.room, most_8 s.part)) in
      pick Fit (continues p.value (digit_of b)) (λ _. tt)
      (λ _. pick_both Fit (eqb b 44) (ltb (length s.extents + 1) (most s.part)) (λ _ _. f)
      (pick_both Fit (eqb b (cond (parens s.part) 41 58)) (leb (least_axis s.part) (length s.extents + 1)) (λ _ _. f) tt))
  fits Begun x i = pick Fit (eqb b 45) (λ _. tt) (λ _. pick Fit (ltb (digit_of b) 10) (λ _. tt) (λ _. tt))
  fits Minus x i = pick_both Fit (leb 1 (digit_of b)) (ltb (digit_of b) 10) (λ _ _. tt) tt
  fits Size x i = pick Fit (continues p.value (digit_of b)) (λ _. tt) (λ _. pick Fit (eqb b 64) (λ _. tt) (λ _. follow_fits s.part Bare (size_fits x i)))
  fits At x i = pick_both Fit (eqb b 84) (leb s.from 6) (λ _ _. tt) (pick_both Fit (ltb (initial_of b) 8) (leb s.from (initial_of b)) (λ _ _. tt) tt)
  fits Tee x i = pick Fit (eqb b 67) (λ _. tt) (λ _. pick_both Fit (eqb b 76) (leb s.from 5) (λ _ _. tt) tt)
  fits Named x i = pick_both Fit (eqb b 42) (is_shard s.part) (λ _ _. tt) (follow_fits s.part (OnAxis p.axis) (named_fits x i))
  fits Starred x i = follow_fits s.part (Marked p.axis) (i.2.0, i.1, step_fits s.part i.3.before)
  fits Closed x i = pick Fit (eqb b 43) (λ _. tt) (λ _. tt)
  fits Plus x i = pick Fit (eqb b 82) (λ _. tt) (λ _. pick Fit (eqb b 45) (λ _. i.2) (λ _. pick Fit (ltb (digit_of b) 10) (λ _. i.2) (λ _. tt)))
  fits Opened x i = pick Fit (eqb b 40) (λ _. (i.1, i.2)) (λ _. pick Fit (ltb (digit_of b) 10) (λ _. (i.1, i.2)) (λ _. tt))
  fits Ended x i = pick Fit (eqb b 43) (λ _. i.2) (λ _. tt)
  fits Stuck x i = tt

  last_fits : (q : Phase) (x : List ℕ) → Shape q p s x → Fits (last_event q p) p s
  last_fits First x i = tt
  last_fits Extent x i = tt
  last_fits Begun x i = tt
  last_fits Minus x i = tt
  last_fits Size x i = size_fits x i
  last_fits At x i = tt
  last_fits Tee x i = tt
  last_fits Named x i = named_fits x i
  last_fits Starred x i = tt
  last_fits Closed x i = tt
  last_fits Plus x i = tt
  last_fits Opened x i = tt
  last_fits Ended x i = tt
  last_fits Stuck x i = tt

good_fits : (r : State) (t : List ℕ) (b : ℕ) → Good r t → Fit r.piece r.seen b (moved r.phase r.owed r.piece (spot_of r.seen) b)
unfolding moved
good_fits r t b g =
    pick (Fit r.piece r.seen b) (eqb (letter r.owed) 0) (λ _. fits r.piece r.seen b r.phase (t ++ owing r.owed) g)
    (λ _. pick (Fit r.piece r.seen b) (eqb b (letter r.owed)) (λ _. tt) (λ _. tt))

-- what the reader holds after a text
pub record Holds (text : List ℕ) (r : Reader) (layout : Layout) : Type 0 where
  pub stands : r ≡ reader_of (runs stepped start text)
  pub holds : layout ≡ layout_of (said (runs stepped start text).seen)

pub holds_start : Holds [] first_reader no_layout
holds_start = record { stands = refl; holds = refl }

-- a byte more
pub record Goes (text : List ℕ) (m : Move) (s : Stand) (layout : Layout) : Type 0 where
  pub next : Holds text (next_reader m s) (recorded m.event m.piece s layout)

goes_state : (state : State) (t more : List ℕ) (b : ℕ) → Good state t → runs stepped start more ≡ stepped state b
    → Goes more (move_of (reader_of state) b) (spot_of state.seen) (layout_of (said state.seen))
unfolding stepped
goes_state state t more b g e =
    let m : Move = move_of (reader_of state) b in
    let f : Fits m.event m.piece state.seen = good_fits state t b g in
    record {
      next = record {
        stands = ap (λ (q : Stand). record { phase = m.phase; owed = m.owed; piece = m.piece; spot = q }) (sym (spot_next m.event m.piece state.seen)) ∙ ap reader_of (sym e);
        holds = sym (image m.event m.piece state.seen f) ∙ ap (λ (q : State). layout_of (said q.seen)) (sym e);
      };
    }

pub goes_on : (text : List ℕ) (i : ℕ) → i < length text → (r : Reader) (layout : Layout) → Holds (take i text) r layout → Goes (take (i + 1) text) (move_of r (get_or text i 0)) r.spot layout
goes_on text i inside r layout h =
    let state : State = runs stepped start (take i text) in
    subst⁻¹ (λ (q : Reader). Goes (take (i + 1) text) (move_of q (get_or text i 0)) q.spot layout) h.stands
    (subst⁻¹ (λ (l : Layout). Goes (take (i + 1) text) (move_of (reader_of state) (get_or text i 0)) (spot_of state.seen) l) h.holds
    (goes_state state (take i text) (take (i + 1) text) (get_or text i 0) (good (take i text)) (run_more text i inside)))

-- a text at its end
pub accepted_at_end : (text : List ℕ) (r : Reader) (layout : Layout) → Holds text r layout → ends_well r ≡ true
    → Accepted text (recorded (last_event r.phase r.piece) r.piece r.spot layout)
accepted_at_end text r layout h w =
    let s : State = runs stepped start text in
    let e : Event = last_event s.phase s.piece in
    let same : layout_of (ending s) ≡ recorded e s.piece (spot_of s.seen) (layout_of (said s.seen))
    = image e s.piece s.seen (last_fits s.piece s.seen 0 s.phase (text ++ owing s.owed) (good text)) in
    subst⁻¹ (λ (q : Reader). Accepted text (recorded (last_event q.phase q.piece) q.piece q.spot layout)) h.stands
    (subst⁻¹ (λ (l : Layout). Accepted text (recorded e s.piece (spot_of s.seen) l)) h.holds
    (subst (λ (l : Layout). Accepted text l) same (end_accepted text (subst (λ (q : Reader). ends_well q ≡ true) h.stands w))))

pub refused_at_end : (text : List ℕ) (r : Reader) (layout : Layout) → Holds text r layout → is_stuck r.phase ≡ false → ends_well r ≡ false → Refused Correct text (length text)
refused_at_end text r layout h alive w =
    end_refused text (subst (λ (q : Reader). is_stuck q.phase ≡ false) h.stands alive) (subst (λ (q : Reader). ends_well q ≡ false) h.stands w)

pub refused_in_text : (text : List ℕ) (i : ℕ) → i < length text → (r : Reader) (layout : Layout) → Holds (take i text) r layout → is_stuck r.phase ≡ false
    → is_stuck (move_of r (get_or text i 0)).phase ≡ true → Refused Correct text i
refused_in_text text i inside r layout h alive dead =
    let after : Holds (take (i + 1) text) (next_reader (move_of r (get_or text i 0)) r.spot) (recorded (move_of r (get_or text i 0)).event (move_of r (get_or text i 0)).piece r.spot layout) = (goes_on text i inside r layout h).next in
    stuck_refused text i inside (subst (λ (q : Reader). is_stuck q.phase ≡ false) h.stands alive) (subst (λ (q : Reader). is_stuck q.phase ≡ true) after.stands dead)

-- the answers
pub answered_in_text : (text : List ℕ) (i : ℕ) → i < length text → (r : Reader) (layout : Layout) → Holds (take i text) r layout → is_stuck r.phase ≡ false
    → is_stuck (move_of r (get_or text i 0)).phase ≡ true → Answered text (refused_at i)
answered_in_text text i inside r layout h alive dead = record { a = i; eighteen = refl; longest = refused_in_text text i inside r layout h alive dead; zeros = refl }

pub answered_at_end : (text : List ℕ) (i : ℕ) → i ≡ length text → (r : Reader) (layout : Layout) → Holds (take i text) r layout → is_stuck r.phase ≡ false → Answered text (concluded r layout i)
answered_at_end text i e r layout h alive =
    let whole : Holds text r layout = subst (λ (t : List ℕ). Holds t r layout) (take_all i text (omega arith)) h in
    pick (Answered text) (ends_well r)
    (λ w. accepted_at_end text r layout whole w)
    (λ w. record { a = i; eighteen = refl; longest = subst⁻¹ (Refused Correct text) e (refused_at_end text r layout whole alive w); zeros = refl })

-- an event that adds nothing leaves the layout
pub unrecorded : (e : Event) (p : Piece) (s : Stand) (l : Layout) → adds e ≡ false → recorded e p s l ≡ l
unrecorded Same p s l n = refl
unrecorded AnExtent p s l n = absurd (true≢false n)
unrecorded (AStep place) p s l n = absurd (true≢false n)
unrecorded (APart part) p s l n = refl
