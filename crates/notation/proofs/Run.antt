-- What a run of the machine over a text says of the text: accepted exactly where the text is correct, stuck exactly after its longest beginning.
use Prim.Native.Nat.{ℕ, ◌+◌, ◌≤◌, ◌<◌}
use mathlib.Core.Path.{◌≡◌, refl, sym, ap, ◌∙◌, subst, subst⁻¹}
use mathlib.Core.Bool.{Bool, true, false, cond, ◌&&◌, false≢true, true≢false}
use mathlib.Core.List.{List, [], ◌∷◌, ◌++◌, append-nil, append_assoc}
use native.Mathlib.Omega.{arith}
use native.Mathlib.Numerals.{add-one}
use lib.Dec.{eqb}
use lib.ListN.{length, get_or, take}
use lib.Seq.{take-suc, take_all}
use Rattle.notation.specs.Text.{axis_meant, spell_step, Notation, Within, Correct, spell, Plain}
use Rattle.notation.specs.Beginning.{Begins, Refused}
use Rattle.notation.specs.Meaning.{layout_of}
use Rattle.notation.specs.Promise.{Accepted}
use Rattle.notation.specs.Machine.{letter, step_of, phase_move, moved, is_stuck, is_whole, in_offset, Seen, spot_of, said, with_step, State, state_at, enter, stepped, start, is_end, ending, runs}
use Rattle.notation.specs.declared.Phase.{Phase}
use Rattle.notation.specs.declared.Phase.TheVariants.{First, Extent, Begun, Minus, Size, At, Tee, Named, Starred, Closed, Plus, Opened, Ended, Stuck}
use Rattle.notation.specs.declared.Part.{Part}
use Rattle.notation.specs.declared.Part.TheVariants.{Shard, Several, Single, Offset}
use Rattle.notation.specs.declared.NamedAxis.{NamedAxis}
use Rattle.notation.specs.declared.NamedAxis.TheVariants.{Bare, At as OnAxis}
use Rattle.notation.specs.declared.Piece.{Piece}
use Rattle.notation.specs.declared.Move.{Move}
use Rattle.notation.proofs.Exact.{runs_append, refused_at_lem, refused_whole}
use Rattle.notation.proofs.Lists.{pick, both}
use Rattle.notation.proofs.Good.{Good, Shape, Before, InOffsets, front, sign, owing, owing_none, good_step, from_low}
use Rattle.notation.proofs.Live.{good_begins, closed_correct, ended_correct, offset_correct}
use Rattle.notation.proofs.Complete.{Ends, complete}

good_runs : (r : State) (x t : List ℕ) → Good r x → Good (runs stepped r t) (x ++ t)
good_runs r x [] g = rw (append-nil x) g
good_runs r x (b ∷ t) g = subst (λ (l : List ℕ). Good (runs stepped (stepped r b) t) l) (append_assoc x (b ∷ []) t) (good_runs (stepped r b) (x ++ (b ∷ [])) t (good_step r x b g))

good_start : Good start []
good_start = record { outer = tt; from0 = refl; none = refl; room = omega arith; short = tt; read = refl }

pub good : (t : List ℕ) → Good (runs stepped start t) t
good t = good_runs start [] t good_start

abbrev halted : State → Bool
halted r = is_stuck r.phase

stays : (r : State) (b : ℕ) → halted r ≡ true → halted (stepped r b) ≡ true
unfolding stepped moved
stays r b h =
    pick (λ (m : Move). halted (enter r.seen m) ≡ true) (eqb (letter r.owed) 0)
    (λ _. by r.phase h)
    (λ _. pick (λ (m : Move). halted (enter r.seen m) ≡ true) (eqb b (letter r.owed)) (λ _. h) (λ _. refl))
  where
    by : (q : Phase) → is_stuck q ≡ true → is_stuck (phase_move q r.piece (spot_of r.seen) b).phase ≡ true
    by First e = absurd (false≢true e)
    by Extent e = absurd (false≢true e)
    by Begun e = absurd (false≢true e)
    by Minus e = absurd (false≢true e)
    by Size e = absurd (false≢true e)
    by At e = absurd (false≢true e)
    by Tee e = absurd (false≢true e)
    by Named e = absurd (false≢true e)
    by Starred e = absurd (false≢true e)
    by Closed e = absurd (false≢true e)
    by Plus e = absurd (false≢true e)
    by Opened e = absurd (false≢true e)
    by Ended e = absurd (false≢true e)
    by Stuck e = refl

whole_free : (q : Phase) (part : Part) → is_whole q part ≡ true → is_stuck q ≡ false
whole_free First part e = refl
whole_free Extent part e = refl
whole_free Begun part e = refl
whole_free Minus part e = refl
whole_free Size part e = refl
whole_free At part e = refl
whole_free Tee part e = refl
whole_free Named part e = refl
whole_free Starred part e = refl
whole_free Closed part e = refl
whole_free Plus part e = refl
whole_free Opened part e = refl
whole_free Ended part e = refl
whole_free Stuck part e = absurd (false≢true e)

pub ends : (t : List ℕ) (c : Correct t) → Ends (runs stepped start t) c.says
ends t c = rw c.spelled (complete c.says c.within)

free : (t : List ℕ) → Correct t → halted (runs stepped start t) ≡ false
free t c = whole_free (runs stepped start t).phase (runs stepped start t).seen.part (ends t c).whole

-- what a state in which a text may end says
abbrev Says : State → List ℕ → Type 0
Says r t = Within (ending r) × (t ≡ spell (ending r))

offsets_said : (part : Part) (s : Seen) → in_offset part ≡ true → s.part ≡ part → said s ≡ record { shard = s.shard; replica = s.replica; offsets = s.steps }
offsets_said Shard s e f = absurd (false≢true e)
offsets_said Several s e f = absurd (false≢true e)
offsets_said Single s e f = absurd (false≢true e)
offsets_said Offset s e f = rw f

is_offset : (q : Part) → in_offset q ≡ true → q ≡ Offset
is_offset Shard e = absurd (false≢true e)
is_offset Several e = absurd (false≢true e)
is_offset Single e = absurd (false≢true e)
is_offset Offset e = refl

offset_says : (p : Piece) (s : Seen) (place : NamedAxis) (t : List ℕ) → in_offset s.part ≡ true → Before s.part s → Plain (step_of p place) → s.from ≤ axis_meant place
    → t ≡ front s.part s ++ spell_step (step_of p place) → Within (said (with_step s (step_of p place))) × (t ≡ spell (said (with_step s (step_of p place))))
unfolding offset_correct
offset_says p s place t o before f low e =
    let is : s.part ≡ Offset = is_offset s.part o in
    let i : InOffsets s = subst (λ (z : Part). Before z s) is before in
    let c = offset_correct s (step_of p place) t i f low (subst (λ (z : Part). t ≡ front z s ++ spell_step (step_of p place)) is e) in
    let same : said (with_step s (step_of p place)) ≡ c.says = offsets_said s.part (with_step s (step_of p place)) o refl in
    (subst⁻¹ (λ (z : Notation). Within z) same c.within, c.spelled ∙ ap spell (sym same))

says : (q : Phase) (p : Piece) (s : Seen) (t : List ℕ) → is_whole q s.part ≡ true → Shape q p s t → Says (state_at q 0 p s) t
unfolding closed_correct ended_correct
says First p s t e i = absurd (false≢true e)
says Extent p s t e i = absurd (false≢true e)
says Begun p s t e i = absurd (false≢true e)
says Minus p s t e i = absurd (false≢true e)
says Size p s t e i =
    offset_says p s Bare t e i.1.before ((i.0.0, i.0.1, omega arith), refl) (from_low s s.part i.1.before) (i.1.read ∙ ap (λ (l : List ℕ). front s.part s ++ l) (sym (append-nil (sign p))))
says At p s t e i = absurd (false≢true e)
says Tee p s t e i = absurd (false≢true e)
says Named p s t e i = offset_says p s (OnAxis p.axis) t e i.3.before ((i.2.0, i.2.1, i.1), refl) i.0 i.3.read
says Starred p s t e i = absurd (false≢true e)
says Closed p s t e i = let c = closed_correct p s t i in (c.within, c.spelled)
says Plus p s t e i = absurd (false≢true e)
says Opened p s t e i = absurd (false≢true e)
says Ended p s t e i = let c = ended_correct p s t i in (c.within, c.spelled)
says Stuck p s t e i = absurd (false≢true e)

-- one byte more
pub run_more : (t : List ℕ) (i : ℕ) → i < length t → runs stepped start (take (i + 1) t) ≡ stepped (runs stepped start (take i t)) (get_or t i 0)
run_more t i l =
    let more : take (i + 1) t ≡ take i t ++ (get_or t i 0 ∷ []) = rw (add-one i) (take-suc t i 0 l) in
    ap (λ (x : List ℕ). runs stepped start x) more ∙ runs_append stepped start (take i t) (get_or t i 0 ∷ [])

-- a byte at which the machine is stuck follows the longest beginning
pub stuck_refused : (t : List ℕ) (i : ℕ) → i < length t → is_stuck (runs stepped start (take i t)).phase ≡ false → is_stuck (runs stepped start (take (i + 1) t)).phase ≡ true → Refused Correct t i
stuck_refused t i l alive dead =
    refused_at_lem stepped start halted Correct stays free t i l (good_begins (runs stepped start (take i t)) (take i t) alive (good (take i t))) dead

-- a text that ends where none may end is its own longest beginning
pub end_refused : (t : List ℕ) → is_stuck (runs stepped start t).phase ≡ false → is_end (runs stepped start t) ≡ false → Refused Correct t (length t)
end_refused t alive open_end =
    refused_whole stepped start halted Correct stays free t (good_begins (runs stepped start t) t alive (good t))
    (λ c.
    let w = ends t c in
    let whole : is_end (runs stepped start t) ≡ true = rw (w.owes, w.whole) in
    true≢false (sym whole ∙ open_end))

-- a text that ends where one may end is correct, and the machine holds what it says
pub end_accepted : (t : List ℕ) → is_end (runs stepped start t) ≡ true → Accepted t (layout_of (ending (runs stepped start t)))
end_accepted t end =
    let r : State = runs stepped start t in
    let b = both (eqb (letter r.owed) 0) (is_whole r.phase r.seen.part) end in
    let text : t ++ owing r.owed ≡ t = rw (owing_none r.owed b.0) (append-nil t) in
    let s = says r.phase r.piece r.seen t b.1 (subst (λ (x : List ℕ). Shape r.phase r.piece r.seen x) text (good t)) in
    record { correct = record { says = ending r; within = s.0; spelled = s.1 }; layout_said = refl }

-- a text says one thing
pub says_once : (n m : Notation) → Within n → Within m → spell n ≡ spell m → n ≡ m
says_once n m v w e =
    let a = complete n v in
    let b = complete m w in
    sym a.says ∙ ap (λ (t : List ℕ). ending (runs stepped start t)) e ∙ b.says
