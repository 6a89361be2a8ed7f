-- Every state that is not stuck can be completed, and a state in which a text may end says a correct text.
use Prim.Native.Nat.{ℕ, zero, suc, ◌+◌, ◌-◌, ◌≤◌, ◌<◌}
use mathlib.Core.Path.{◌≡◌, refl, sym, ap, ◌∙◌, subst, subst⁻¹}
use mathlib.Core.Bool.{Bool, true, false, cond, false≢true, true≢false}
use mathlib.Core.List.{List, [], ◌∷◌, ◌++◌, append-nil, append_assoc}
use native.Mathlib.Omega.{arith}
use lib.ListN.{length, length-append}
use lib.Dec.{eqb}
use borrow.Author.Tests.{lt-ltb, le-ltb, le-leb, lt-leb, eq-eqb, ne_eqb, eqb-true, eqb-false}
use Rattle.notation.specs.Text.{decimal, name, axis_meant, spell_place, spell_signed, spell_step, Lists, spell_shard, spell_replica, spell_offsets, Notation, spell, Short, Each, Sound, is_marked, Plain, Rising, Limits, Within, Correct}
use Rattle.notation.specs.Machine.{letter, most, least_axis, parens, is_shard, in_offset, go, with_number, with_sign, with_axis, step_of, follow, is_stuck, Seen, spot_of, no_lists, said, with_extent, with_step, as_part, State, state_at, enter, stepped}
use Rattle.notation.specs.Beginning.{Begins}
use Rattle.notation.specs.declared.Phase.{Phase}
use Rattle.notation.specs.declared.Phase.TheVariants.{First, Extent, Begun, Minus, Size, At, Tee, Named, Starred, Closed, Plus, Opened, Ended, Stuck}
use Rattle.notation.specs.declared.Part.{Part}
use Rattle.notation.specs.declared.Part.TheVariants.{Shard, Several, Single, Offset}
use Rattle.notation.specs.declared.NamedAxis.{NamedAxis}
use Rattle.notation.specs.declared.NamedAxis.TheVariants.{Bare, At as OnAxis, Marked}
use Rattle.notation.specs.declared.Step.{Step}
use Rattle.notation.specs.declared.Piece.{Piece}
use Rattle.notation.proofs.Lists.{each_append, rising_snoc, rising_more}
use Rattle.notation.proofs.Good.{IsList, Fine, ShardRead, InExtents, InStrides, InOffsets, Before, InStep, front, Fitting, sign, Shape, Good, owing, owing_none, good_step, offset_text, from_low, Outer}
use Rattle.notation.proofs.Steps.{decides, size_first, first_digit, opened_digit, plus_starts, initial, tee_c}
use Rattle.notation.proofs.Complete.{follow_close, follow_comma, comma}

-- a beginning of a beginning
shorter : (x y : List ℕ) → Begins Correct (x ++ y) → Begins Correct x
shorter x y b = record { rest = y ++ b.rest; correct = rw (← append_assoc x y b.rest) b.correct }

no_more : (x : List ℕ) → Correct x → Begins Correct x
no_more x c = record { rest = []; correct = rw (append-nil x) c }

-- the shard and the replica alone
unfoldable pub ended_correct : (p : Piece) (s : Seen) (x : List ℕ) → Shape Ended p s x → Correct x
ended_correct p s x i =
    record {
      says = said s;
      within = record { some = i.0.some; shard = i.0.limits; replica = i.1; offsets = subst⁻¹ (λ (l : List Step). Each Plain l) i.2 tt; rising = subst⁻¹ (λ (l : List Step). Rising 0 l 8) i.2 (omega arith) };
      spelled = i.3 ∙ ap (λ (l : List ℕ). spell_shard (said s).shard ++ l) (sym (append-nil (spell_replica (said s).replica))) ∙ ap (λ (l : List Step). spell_shard (said s).shard ++ (spell_replica (said s).replica ++ spell_offsets l)) (sym i.2);
    }

unfoldable pub closed_correct : (p : Piece) (s : Seen) (x : List ℕ) → Shape Closed p s x → Correct x
unfolding ended_correct
closed_correct p s x i =
    ended_correct p s x (
      i.0,
      subst⁻¹ (λ (k : Lists). Limits 4 Plain k) i.1 (record { few = omega arith; same = refl; short = tt; sound = tt }),
      i.2,
      i.3 ∙ sym (append-nil (spell_shard (said s).shard)) ∙ ap (λ (k : Lists). spell_shard (said s).shard ++ spell_replica k) (sym i.1),
    )

-- an offset is the last one
unfoldable pub offset_correct : (s : Seen) (t : Step) (x : List ℕ) → InOffsets s → Plain t → s.from ≤ axis_meant t.place → x ≡ front Offset s ++ spell_step t → Correct x
offset_correct s t x i f low e =
    record {
      says = record { shard = s.shard; replica = s.replica; offsets = s.steps ++ (t ∷ []) };
      within = record { some = i.shard.some; shard = i.shard.limits; replica = i.replica; offsets = each_append Plain s.steps (t ∷ []) i.fine (f, tt); rising = rising_more 0 (s.steps ++ (t ∷ [])) (axis_meant t.place + 1) 8 (rising_snoc 0 s.steps s.from t i.rising low) (omega (arith, f.0.2)) };
      spelled = offset_text (spell_shard s.shard) (spell_replica s.replica) s.steps t x e;
    }

-- a byte more leads to another state
by_step : (q : Phase) (p : Piece) (s : Seen) (r : State) (x : List ℕ) (b : ℕ) → Shape q p s x → stepped (state_at q 0 p s) b ≡ r
    → (Shape r.phase r.piece r.seen ((x ++ (b ∷ [])) ++ owing r.owed) → Begins Correct ((x ++ (b ∷ [])) ++ owing r.owed)) → Begins Correct x
by_step q p s r x b i e next =
    let g : Good (state_at q 0 p s) x = subst⁻¹ (λ (l : List ℕ). Shape q p s l) (append-nil x) i in
    shorter x (b ∷ []) (shorter (x ++ (b ∷ [])) (owing r.owed) (next (subst (λ (z : State). Good z (x ++ (b ∷ []))) e (good_step (state_at q 0 p s) x b g))))

-- after a whole stride of a list
record Follows (q : Phase) (place : NamedAxis) (p : Piece) (s : Seen) : Type 0 where
  on44 : stepped (state_at q 0 p s) 44 ≡ enter s (follow s.part place p (spot_of s) 44)
  on41 : stepped (state_at q 0 p s) 41 ≡ enter s (follow s.part place p (spot_of s) 41)
  on93 : stepped (state_at q 0 p s) 93 ≡ enter s (follow s.part place p (spot_of s) 93)

size_follows : (p : Piece) (s : Seen) → Follows Size Bare p s
size_follows p s = record { on44 = decides Size 0 p s 44 refl; on41 = decides Size 0 p s 41 refl; on93 = decides Size 0 p s 93 refl }

last_stride : (q : Phase) (place : NamedAxis) (p : Piece) (s : Seen) (x : List ℕ) (part : Part) → s.part ≡ part → IsList part → Follows q place p s → length s.steps + 1 ≡ length s.extents → Shape q p s x → Begins Correct x
last_stride q place p s x Shard e l f n i =
    let r : State = state_at Closed 30 p (with_step s (step_of p place)) in
    by_step q p s r x 41 i (f.on41 ∙ ap (enter s) (follow_close Shard l place p s e n)) (λ h. no_more _ (closed_correct r.piece r.seen ((x ++ (41 ∷ [])) ++ owing 30) h))
last_stride q place p s x Several e l f n i =
    let r : State = state_at Ended 30 p (with_step s (step_of p place)) in
    by_step q p s r x 41 i (f.on41 ∙ ap (enter s) (follow_close Several l place p s e n)) (λ h. no_more _ (ended_correct r.piece r.seen ((x ++ (41 ∷ [])) ++ owing 30) h))
last_stride q place p s x Single e l f n i =
    let r : State = state_at Ended 0 p (with_step s (step_of p place)) in
    by_step q p s r x 93 i (f.on93 ∙ ap (enter s) (follow_close Single l place p s e n)) (λ h. no_more _ (ended_correct r.piece r.seen ((x ++ (93 ∷ [])) ++ owing 0) h))
last_stride q place p s x Offset e l f n i = absurd l

list_begins : (k : ℕ) (q : Phase) (place : NamedAxis) (p : Piece) (s : Seen) (x : List ℕ) (part : Part) → s.part ≡ part → IsList part → Follows q place p s → length s.steps + 1 + k ≡ length s.extents → Shape q p s x → Begins Correct x
list_begins zero q place p s x part e l f n i = last_stride q place p s x part e l f (omega arith) i
list_begins (suc k) q place p s x part e l f n i =
    let s' : Seen = with_step s (step_of p place) in
    let p' : Piece = with_sign (with_number p 0) false in
    by_step q p s (state_at Begun 0 p s') x 44 i (f.on44 ∙ ap (enter s) (follow_comma s.part (subst⁻¹ IsList e l) place p s (omega arith)))
    (λ h. by_step Begun p s' (state_at Size 0 p' s') ((x ++ (44 ∷ [])) ++ owing 0) 48 h (size_first p s' 0 refl 0 (omega arith) (omega arith))
    (λ j. list_begins k Size Bare p' s' ((((x ++ (44 ∷ [])) ++ owing 0) ++ (48 ∷ [])) ++ owing 0) part e l (size_follows p' s') (omega (arith, length-append s.steps (step_of p place ∷ []))) j))

-- a whole stride or offset
piece_begins : (q : Phase) (place : NamedAxis) (p : Piece) (s : Seen) (x : List ℕ) (part : Part) → s.part ≡ part → Follows q place p s → Shape q p s x
    → (i : InStep s (spell_step (step_of p place)) x) → (part ≡ Offset → Plain (step_of p place)) → s.from ≤ axis_meant place → Begins Correct x
piece_begins q place p s x Shard e f h i g low = let c = subst (λ (z : Part). Before z s) e i.before in list_begins (length s.extents - (length s.steps + 1)) q place p s x Shard e tt f (omega (arith, c.room)) h
piece_begins q place p s x Several e f h i g low = let c = subst (λ (z : Part). Before z s) e i.before in list_begins (length s.extents - (length s.steps + 1)) q place p s x Several e tt f (omega (arith, c.room)) h
piece_begins q place p s x Single e f h i g low = let c = subst (λ (z : Part). Before z s) e i.before in list_begins (length s.extents - (length s.steps + 1)) q place p s x Single e tt f (omega (arith, c.room)) h
piece_begins q place p s x Offset e f h i g low =
    no_more x (offset_correct s (step_of p place) x (subst (λ (z : Part). Before z s) e i.before) (g refl) low (subst (λ (z : Part). x ≡ front z s ++ spell_step (step_of p place)) e i.read))

size_begins : (p : Piece) (s : Seen) (x : List ℕ) → Shape Size p s x → Begins Correct x
size_begins p s x i =
    piece_begins Size Bare p s x s.part refl (size_follows p s) i (record { before = i.1.before; read = i.1.read ∙ ap (λ (l : List ℕ). front s.part s ++ l) (sym (append-nil (sign p))) })
    (λ _. ((i.0.0, i.0.1, omega arith), refl)) (from_low s s.part i.1.before)

named_begins : (p : Piece) (s : Seen) (x : List ℕ) → Shape Named p s x → Begins Correct x
named_begins p s x i =
    piece_begins Named (OnAxis p.axis) p s x s.part refl
    (record { on44 = decides Named 0 p s 44 refl; on41 = decides Named 0 p s 41 refl; on93 = decides Named 0 p s 93 refl }) i i.3 (λ _. ((i.2.0, i.2.1, i.1), refl)) i.0

starred_begins : (p : Piece) (s : Seen) (x : List ℕ) → Shape Starred p s x → Begins Correct x
starred_begins p s x i =
    let c = subst (λ (z : Part). Before z s) i.0 i.3.before in
    piece_begins Starred (Marked p.axis) p s x s.part refl
    (record { on44 = decides Starred 0 p s 44 refl; on41 = decides Starred 0 p s 41 refl; on93 = decides Starred 0 p s 93 refl }) i i.3 (λ e. absurd (true≢false (ap is_shard (sym i.0 ∙ e)))) (omega (arith, c.from0))

begun_begins : (p : Piece) (s : Seen) (x : List ℕ) → Shape Begun p s x → Begins Correct x
begun_begins p s x i =
    let p' : Piece = with_sign (with_number p 0) false in
    by_step Begun p s (state_at Size 0 p' s) x 48 i (size_first p s 0 refl 0 (omega arith) (omega arith)) (λ h. size_begins p' s ((x ++ (48 ∷ [])) ++ owing 0) h)

close_step : (p : Piece) (s : Seen) (part : Part) → s.part ≡ part → IsList part → least_axis part ≤ length s.extents + 1 → stepped (state_at Extent 0 p s) (cond (parens part) 41 58) ≡ state_at Begun (cond (parens part) 27 0) p (with_extent s p.value)
close_step p s Shard e l n = decides Extent 0 p s 41 refl ∙ rw (e, le-leb 1 (length s.extents + 1) n)
close_step p s Several e l n = decides Extent 0 p s 41 refl ∙ rw (e, le-leb 2 (length s.extents + 1) n)
close_step p s Single e l n = decides Extent 0 p s 58 refl ∙ rw (e, le-leb 1 (length s.extents + 1) n)
close_step p s Offset e l n = absurd l

extents_end : (p : Piece) (s : Seen) (x : List ℕ) (part : Part) → s.part ≡ part → IsList part → least_axis part ≤ length s.extents + 1 → Shape Extent p s x → Begins Correct x
extents_end p s x part e l n i =
    let b : ℕ = cond (parens part) 41 58 in
    let r : State = state_at Begun (cond (parens part) 27 0) p (with_extent s p.value) in
    by_step Extent p s r x b i (close_step p s part e l n) (λ h. begun_begins p r.seen ((x ++ (b ∷ [])) ++ owing r.owed) h)

extent_begins : (p : Piece) (s : Seen) (x : List ℕ) (part : Part) → s.part ≡ part → Shape Extent p s x → Begins Correct x
extent_begins p s x Shard e i = extents_end p s x Shard e tt (omega arith) i
extent_begins p s x Single e i = extents_end p s x Single e tt (omega arith) i
extent_begins p s x Offset e i = absurd (subst (λ (z : Part). Outer z s.shard) e i.1.outer)
extent_begins p s x Several e i = more (eqb (length s.extents) 0) refl
  where
    more : (c : Bool) → eqb (length s.extents) 0 ≡ c → Begins Correct x
    more false ne = extents_end p s x Several e tt (omega (arith, eqb-false (length s.extents) 0 ne)) i
    more true eq =
        let z : length s.extents ≡ 0 = eqb-true (length s.extents) 0 eq in
        let s' : Seen = with_extent s p.value in
        by_step Extent p s (state_at First 0 p s') x 44 i (comma p s (subst⁻¹ (λ (q : Part). length s.extents + 1 < most q) e (omega arith)))
        (λ h. by_step First p s' (state_at Extent 0 (with_number p 0) s') ((x ++ (44 ∷ [])) ++ owing 0) 48 h (first_digit p s' 0 refl 0 (omega arith) (omega arith))
        (λ j. extents_end (with_number p 0) s' ((((x ++ (44 ∷ [])) ++ owing 0) ++ (48 ∷ [])) ++ owing 0) Several e tt (omega (arith, length-append s.extents (p.value ∷ []))) j))

alive : (q : Phase) (p : Piece) (s : Seen) (x : List ℕ) → is_stuck q ≡ false → Shape q p s x → Begins Correct x
alive First p s x n i = by_step First p s (state_at Extent 0 (with_number p 0) s) x 48 i (first_digit p s 0 refl 0 (omega arith) (omega arith)) (λ h. extent_begins (with_number p 0) s ((x ++ (48 ∷ [])) ++ owing 0) s.part refl h)
alive Extent p s x n i = extent_begins p s x s.part refl i
alive Begun p s x n i = begun_begins p s x i
alive Minus p s x n i = by_step Minus p s (state_at Size 0 (with_number p 1) s) x 49 i (decides Minus 0 p s 49 refl) (λ h. size_begins (with_number p 1) s ((x ++ (49 ∷ [])) ++ owing 0) h)
alive Size p s x n i = size_begins p s x i
alive At p s x n i =
    by_step At p s (state_at Named 0 (with_axis p 7) s) x 109 i (initial p s 109 7 refl refl refl (from_low s s.part i.1.before)) (λ h. named_begins (with_axis p 7) s ((x ++ (109 ∷ [])) ++ owing 0) h)
alive Tee p s x n i = by_step Tee p s (state_at Named 20 (with_axis p 6) s) x 67 i (tee_c p s) (λ h. named_begins (with_axis p 6) s ((x ++ (67 ∷ [])) ++ owing 20) h)
alive Named p s x n i = named_begins p s x i
alive Starred p s x n i = starred_begins p s x i
alive Closed p s x n i = no_more x (closed_correct p s x i)
alive Plus p s x n i =
    let p' : Piece = with_sign (with_number p 0) false in
    by_step Plus p s (state_at Size 0 p' (as_part s Offset)) x 48 i ((plus_starts p s 0 refl).digit 0 (omega arith) (omega arith)) (λ h. size_begins p' (as_part s Offset) ((x ++ (48 ∷ [])) ++ owing 0) h)
alive Opened p s x n i =
    by_step Opened p s (state_at Extent 0 (with_number p 0) (as_part s Single)) x 48 i (opened_digit p s 0 refl 0 (omega arith) (omega arith)) (λ h. extent_begins (with_number p 0) (as_part s Single) ((x ++ (48 ∷ [])) ++ owing 0) Single refl h)
alive Ended p s x n i = no_more x (ended_correct p s x i)
alive Stuck p s x n i = absurd (true≢false n)

pub good_begins : (r : State) (t : List ℕ) → is_stuck r.phase ≡ false → Good r t → Begins Correct t
good_begins r t n g = shorter t (owing r.owed) (alive r.phase r.piece r.seen (t ++ owing r.owed) n g)
