-- Over every correct text the machine runs to a state in which a text may end, and holds what the text says.
use Prim.Native.Nat.{ℕ, zero, suc, ◌+◌, ◌-◌, ◌*◌, ◌%◌, ◌≤◌, ◌<◌}
use mathlib.Core.Path.{◌≡◌, refl, sym, ap, ◌∙◌, subst, subst⁻¹}
use mathlib.Core.Bool.{Bool, true, false, cond, ◌&&◌, false≢true, true≢false}
use mathlib.Core.List.{List, [], ◌∷◌, ◌++◌, append-nil, append_assoc, map}
use native.Mathlib.Omega.{arith}
use borrow.Author.Tests.{lt-ltb, le-ltb, le-leb, lt-leb, eq-eqb, ne_eqb, eqb-true}
use lib.Dec.{leb, ltb, eqb}
use lib.ListN.{length, length-append}
use Rattle.notation.specs.Quoted.{quoted_bytes}
use Rattle.notation.specs.Text.{decimal, name, axis_meant, spell_place, spell_signed, spell_step, tails, joined, opening_bytes, closing, enclosed, Lists, spell_lists, spell_shard, spell_replica, spell_offsets, Notation, spell, Short, Each, Sound, is_marked, Plain, Rising, Limits, Within, Correct}
use Rattle.notation.specs.Machine.{letter, most, least_axis, parens, is_shard, in_offset, is_whole, after, go, with_number, step_of, follow, Seen, spot_of, no_lists, here, said, with_extent, with_step, as_part, State, state_at, enter, stepped, start, ending, runs}
use Rattle.notation.specs.declared.Phase.{Phase}
use Rattle.notation.specs.declared.Phase.TheVariants.{First, Extent, Begun, Minus, Size, At, Tee, Named, Starred, Closed, Plus, Opened, Ended, Stuck}
use Rattle.notation.specs.declared.Part.{Part}
use Rattle.notation.specs.declared.Part.TheVariants.{Shard, Several, Single, Offset}
use Rattle.notation.specs.declared.NamedAxis.{NamedAxis}
use Rattle.notation.specs.declared.NamedAxis.TheVariants.{Bare, At as OnAxis, Marked}
use Rattle.notation.specs.declared.Step.{Step}
use Rattle.notation.specs.declared.Piece.{Piece}
use Rattle.notation.specs.declared.Event.TheVariants.{Step as AStep}
use Rattle.notation.proofs.Lists.{several, is_none, spell_some}
use Rattle.notation.proofs.Exact.{runs_append}
use Rattle.notation.proofs.Good.{IsList, Fine}
use Rattle.notation.proofs.Steps.{then, via, decides, extent_run, opened_run, Starts, begun_starts, plus_starts, owed_run, After, step_run}

-- extents that were read
pub record Kept (s s' : Seen) (es : List ℕ) : Type 0 where
  pub part : s'.part ≡ s.part
  pub from : s'.from ≡ s.from
  pub extents : s'.extents ≡ s.extents ++ es
  pub steps : s'.steps ≡ s.steps
  pub shard : s'.shard ≡ s.shard
  pub replica : s'.replica ≡ s.replica

pub comma : (p : Piece) (s : Seen) → length s.extents + 1 < most s.part → stepped (state_at Extent 0 p s) 44 ≡ state_at First 0 p (with_extent s p.value)
comma p s l = decides Extent 0 p s 44 refl ∙ rw (lt-ltb (length s.extents + 1) (most s.part) l)

-- the extents' list is closed, and the strides' is opened
abbrev between : Bool → List ℕ
between paren = closing paren ++ (58 ∷ opening_bytes paren)

close : (p : Piece) (s : Seen) (paren : Bool) → parens s.part ≡ paren → least_axis s.part ≤ length s.extents + 1
    → (k : ℕ) × (letter k ≡ 0) × (runs stepped (state_at Extent 0 p s) (between paren) ≡ state_at Begun k p (with_extent s p.value))
close p s true e l =
    (29, refl, then (state_at Extent 0 p s) (state_at Begun 27 p (with_extent s p.value)) 41 (58 ∷ 40 ∷ []) (decides Extent 0 p s 41 refl ∙ rw (e, le-leb (least_axis s.part) (length s.extents + 1) l)) (owed_run Begun p (with_extent s p.value)).1)
close p s false e l =
    (0, refl, then (state_at Extent 0 p s) (state_at Begun 0 p (with_extent s p.value)) 58 [] (decides Extent 0 p s 58 refl ∙ rw (e, le-leb (least_axis s.part) (length s.extents + 1) l)) refl)

extents_run : (es : List ℕ) (e : ℕ) (p : Piece) (s : Seen) (r : State) → runs stepped r (decimal e) ≡ state_at Extent 0 (with_number p e) s
    → length s.extents + suc (length es) ≤ most s.part → least_axis s.part ≤ length s.extents + suc (length es) → Each Short es
    → (k : ℕ) × (p' : Piece) × (s' : Seen) × (letter k ≡ 0) × (runs stepped r (joined (quoted_bytes ",") (map decimal (e ∷ es)) ++ between (parens s.part)) ≡ state_at Begun k p' s') × Kept s s' (e ∷ es)
extents_run [] e p s r first few many short =
    let c = close (with_number p e) s (parens s.part) refl (omega arith) in (
      c.0,
      with_number p e,
      with_extent s e,
      c.1,
      ap (λ (t : List ℕ). runs stepped r (t ++ between (parens s.part))) (append-nil (decimal e)) ∙ via r (state_at Extent 0 (with_number p e) s) (decimal e) (between (parens s.part)) first c.2,
      record { part = refl; from = refl; extents = refl; steps = refl; shard = refl; replica = refl },
    )
extents_run (d ∷ es) e p s r first few many short =
    let n : Seen = with_extent s e in
    let long : length n.extents ≡ length s.extents + 1 = length-append s.extents (e ∷ []) in
    let tail : List ℕ = joined (quoted_bytes ",") (map decimal (d ∷ es)) ++ between (parens s.part) in
    let i = extents_run es d (with_number p e) n (state_at First 0 (with_number p e) n) (extent_run (with_number p e) n 0 refl d short.0) (omega arith) (omega arith) short.1 in (
      i.0,
      i.1,
      i.2,
      i.3,
      ap (λ (t : List ℕ). runs stepped r t) (append_assoc (decimal e) (44 ∷ joined (quoted_bytes ",") (map decimal (d ∷ es))) (between (parens s.part)))
          ∙ via r (state_at Extent 0 (with_number p e) s) (decimal e) (44 ∷ tail) first (then (state_at Extent 0 (with_number p e) s) (state_at First 0 (with_number p e) n) 44 tail (comma (with_number p e) s (omega arith)) i.4),
      record {
        part = i.5.part;
        from = i.5.from;
        extents = i.5.extents ∙ append_assoc s.extents (e ∷ []) (d ∷ es);
        steps = i.5.steps;
        shard = i.5.shard;
        replica = i.5.replica;
      },
    )

-- a list's strides go on, and end
pub follow_comma : (part : Part) → IsList part → (place : NamedAxis) (p : Piece) (s : Seen) → length s.steps + 1 < length s.extents → follow part place p (spot_of s) 44 ≡ go Begun 0 p (AStep place)
follow_comma Shard i place p s l = rw (lt-ltb (length s.steps + 1) (length s.extents) l)
follow_comma Several i place p s l = rw (lt-ltb (length s.steps + 1) (length s.extents) l)
follow_comma Single i place p s l = rw (lt-ltb (length s.steps + 1) (length s.extents) l)
follow_comma Offset i place p s l = absurd i

-- a list that was read
pub record ListRead (s s' : Seen) (ts : List Step) : Type 0 where
  pub part : s'.part ≡ s.part
  pub extents : s'.extents ≡ s.extents
  pub steps : s'.steps ≡ s.steps ++ ts
  pub shard : s'.shard ≡ s.shard

abbrev ended : Bool → List ℕ
ended paren = closing paren ++ (93 ∷ [])

pub follow_close : (part : Part) → IsList part → (place : NamedAxis) (p : Piece) (s : Seen) → s.part ≡ part → length s.steps + 1 ≡ length s.extents
    → follow s.part place p (spot_of s) (cond (parens part) 41 93) ≡ go (after part) (cond (parens part) 30 0) p (AStep place)
follow_close Shard i place p s e n = rw (e, eq-eqb (length s.steps + 1) (length s.extents) n)
follow_close Several i place p s e n = rw (e, eq-eqb (length s.steps + 1) (length s.extents) n)
follow_close Single i place p s e n = rw (e, eq-eqb (length s.steps + 1) (length s.extents) n)
follow_close Offset i place p s e n = absurd i

shut : (r : State) (s : Seen) (t : Step) (part : Part) → s.part ≡ part → IsList part → After r s t → length s.steps + 1 ≡ length s.extents
    → (k : ℕ) × (p' : Piece) × (letter k ≡ 0) × (runs stepped r (ended (parens part)) ≡ state_at (after part) k p' (with_step s t))
shut r s t Shard e i a n =
    let q : State = state_at Closed 30 a.piece (with_step s t) in
    let one : stepped r 41 ≡ q = a.paren ∙ ap (enter s) (follow_close Shard i t.place a.piece s e n) ∙ ap (λ (u : Step). state_at Closed 30 a.piece (with_step s u)) a.is in
    (31, a.piece, refl, then r q 41 (93 ∷ []) one (owed_run Closed a.piece (with_step s t)).2)
shut r s t Several e i a n =
    let q : State = state_at Ended 30 a.piece (with_step s t) in
    let one : stepped r 41 ≡ q = a.paren ∙ ap (enter s) (follow_close Several i t.place a.piece s e n) ∙ ap (λ (u : Step). state_at Ended 30 a.piece (with_step s u)) a.is in
    (31, a.piece, refl, then r q 41 (93 ∷ []) one (owed_run Ended a.piece (with_step s t)).2)
shut r s t Single e i a n =
    let q : State = state_at Ended 0 a.piece (with_step s t) in
    let one : stepped r 93 ≡ q = a.bracket ∙ ap (enter s) (follow_close Single i t.place a.piece s e n) ∙ ap (λ (u : Step). state_at Ended 0 a.piece (with_step s u)) a.is in
    (0, a.piece, refl, then r q 93 [] one refl)
shut r s t Offset e i a n = absurd i

fine_sound : (part : Part) (t : Step) → Fine part t → Sound t × (is_shard part ≡ false → is_marked t.place ≡ false)
fine_sound Shard t f = (f, λ e. absurd (true≢false e))
fine_sound Several t f = (f.0, λ e. f.1)
fine_sound Single t f = (f.0, λ e. f.1)
fine_sound Offset t f = (f.0, λ e. f.1)

no_offset_lem : (part : Part) → IsList part → in_offset part ≡ false
no_offset_lem Shard i = refl
no_offset_lem Several i = refl
no_offset_lem Single i = refl
no_offset_lem Offset i = absurd i

strides_run : (ts : List Step) (t : Step) (p : Piece) (s : Seen) (k : ℕ) (part : Part) → s.part ≡ part → IsList part → letter k ≡ 0 → s.from ≡ 0
    → length s.steps + suc (length ts) ≡ length s.extents → Fine part t → Each (Fine part) ts
    → (k' : ℕ) × (p' : Piece) × (s' : Seen) × (letter k' ≡ 0) × (runs stepped (state_at Begun k p s) (joined (quoted_bytes ",") (map spell_step (t ∷ ts)) ++ ended (parens part)) ≡ state_at (after part) k' p' s') × ListRead s s' (t ∷ ts)
strides_run [] t p s k part e i o from all f fs =
    let g = fine_sound part t f in
    let m = step_run p s (state_at Begun k p s) (begun_starts p s k o) t g.0 (omega arith) (λ (z : is_shard s.part ≡ false). g.1 (rw (← e) z)) in
    let h = shut m.0 s t part e i m.2 (omega arith) in (
      h.0,
      h.1,
      with_step s t,
      h.2,
      ap (λ (l : List ℕ). runs stepped (state_at Begun k p s) (l ++ ended (parens part))) (append-nil (spell_step t)) ∙ via (state_at Begun k p s) m.0 (spell_step t) (ended (parens part)) m.1 h.3,
      record { part = refl; extents = refl; steps = refl; shard = refl },
    )
strides_run (u ∷ ts) t p s k part e i o from all f fs =
    let g = fine_sound part t f in
    let m = step_run p s (state_at Begun k p s) (begun_starts p s k o) t g.0 (omega arith) (λ (z : is_shard s.part ≡ false). g.1 (rw (← e) z)) in
    let q : Piece = m.2.piece in
    let n : Seen = with_step s t in
    let tail : List ℕ = joined (quoted_bytes ",") (map spell_step (u ∷ ts)) ++ ended (parens part) in
    let next : stepped m.0 44 ≡ state_at Begun 0 q n
    = m.2.comma ∙ ap (enter s) (follow_comma s.part (subst (λ (z : Part). IsList z) (sym e) i) t.place q s (omega arith)) ∙ ap (λ (w : Step). state_at Begun 0 q (with_step s w)) m.2.is in
    let low : n.from ≡ 0 = ap (λ (z : Part). cond (in_offset z) (axis_meant t.place + 1) s.from) e ∙ ap (λ (c : Bool). cond c (axis_meant t.place + 1) s.from) (no_offset_lem part i) ∙ from in
    let long : length n.steps ≡ length s.steps + 1 = length-append s.steps (t ∷ []) in
    let h = strides_run ts u q n 0 part e i refl low (omega arith) fs.0 fs.1 in (
      h.0,
      h.1,
      h.2,
      h.3,
      ap (λ (l : List ℕ). runs stepped (state_at Begun k p s) l) (append_assoc (spell_step t) (44 ∷ joined (quoted_bytes ",") (map spell_step (u ∷ ts))) (ended (parens part)))
          ∙ via (state_at Begun k p s) m.0 (spell_step t) (44 ∷ tail) m.1 (then m.0 (state_at Begun 0 q n) 44 tail next h.4),
      record {
        part = h.5.part;
        extents = h.5.extents;
        steps = h.5.steps ∙ append_assoc s.steps (t ∷ []) (u ∷ ts);
        shard = h.5.shard;
      },
    )

-- both lists
lists_text : (paren : Bool) (l : Lists) → spell_lists paren l ++ (93 ∷ []) ≡ opening_bytes paren ++ ((joined (quoted_bytes ",") (map decimal l.extents) ++ between paren) ++ (joined (quoted_bytes ",") (map spell_step l.steps) ++ ended paren))
lists_text paren l = by (joined (quoted_bytes ",") (map decimal l.extents)) (joined (quoted_bytes ",") (map spell_step l.steps)) (opening_bytes paren) (closing paren)
  where
    by : (e t o c : List ℕ) → ((o ++ (e ++ c)) ++ (58 ∷ (o ++ (t ++ c)))) ++ (93 ∷ []) ≡ o ++ ((e ++ (c ++ (58 ∷ o))) ++ (t ++ (c ++ (93 ∷ []))))
    by e t o c = simp append_assoc

-- what a list leaves
pub record ListsRead (s s' : Seen) (l : Lists) : Type 0 where
  pub part : s'.part ≡ s.part
  pub lists : here s' ≡ l
  pub shard : s'.shard ≡ s.shard

joined_reads : (s x y : Seen) (es : List ℕ) (ts : List Step) (l : Lists) → s.extents ≡ [] → s.steps ≡ [] → Kept s x es → ListRead x y ts → l.extents ≡ es → l.steps ≡ ts → ListsRead s y l
joined_reads s x y es ts l none none' k r a b =
    let pe : y.extents ≡ l.extents = r.extents ∙ k.extents ∙ ap (λ (m : List ℕ). m ++ es) none ∙ sym a in
    let ps : y.steps ≡ l.steps = r.steps ∙ ap (λ (m : List Step). m ++ ts) (k.steps ∙ none') ∙ sym b in
    let lists : here y ≡ l = λ j. record { extents = pe j; steps = ps j } in
    record { part = r.part ∙ k.part; lists = lists; shard = r.shard ∙ k.shard }

-- a list of the notation, from its first extent on
abbrev ListsRun : State → Seen → Lists → Type 0
ListsRun r s l =
    (k : ℕ) × (p' : Piece) × (s' : Seen) × (letter k ≡ 0)
    × (runs stepped r ((joined (quoted_bytes ",") (map decimal l.extents) ++ between (parens s.part)) ++ (joined (quoted_bytes ",") (map spell_step l.steps) ++ ended (parens s.part))) ≡ state_at (after s.part) k p' s')
    × ListsRead s s' l

lists_run : (l : Lists) (p : Piece) (s : Seen) (r : State) → IsList s.part → ((v : ℕ) → Short v → runs stepped r (decimal v) ≡ state_at Extent 0 (with_number p v) s)
    → s.extents ≡ [] → s.steps ≡ [] → s.from ≡ 0
    → least_axis s.part ≤ length l.extents → 1 ≤ length l.extents → Limits (most s.part) (Fine s.part) l → ListsRun r s l
lists_run l p s r i first none none' from many some limits = by l.extents l.steps refl refl
  where
    finish : (d : ℕ) (es : List ℕ) (t : Step) (ts : List Step) → l.extents ≡ d ∷ es → l.steps ≡ t ∷ ts
        → (k : ℕ) (q : Piece) (x : Seen) → letter k ≡ 0 → runs stepped r (joined (quoted_bytes ",") (map decimal (d ∷ es)) ++ between (parens s.part)) ≡ state_at Begun k q x → Kept s x (d ∷ es) → ListsRun r s l
    finish d es t ts a b k q x o run kept' =
        let fine : Each (Fine s.part) (t ∷ ts) = subst (λ (z : List Step). Each (Fine s.part) z) b limits.sound in
        let all : x.extents ≡ d ∷ es = kept'.extents ∙ ap (λ (m : List ℕ). m ++ (d ∷ es)) none in
        let y = strides_run ts t q x k s.part kept'.part i o (kept'.from ∙ from)
        (omega (arith, ap length (kept'.steps ∙ none'), ap length all, ap length a, ap length b, limits.same)) fine.0 fine.1 in
        let text : runs stepped r ((joined (quoted_bytes ",") (map decimal l.extents) ++ between (parens s.part)) ++ (joined (quoted_bytes ",") (map spell_step l.steps) ++ ended (parens s.part))) ≡ state_at (after s.part) y.0 y.1 y.2
        = ap (λ (z : List ℕ). runs stepped r ((joined (quoted_bytes ",") (map decimal z) ++ between (parens s.part)) ++ (joined (quoted_bytes ",") (map spell_step l.steps) ++ ended (parens s.part)))) a
        ∙ ap (λ (z : List Step). runs stepped r ((joined (quoted_bytes ",") (map decimal (d ∷ es)) ++ between (parens s.part)) ++ (joined (quoted_bytes ",") (map spell_step z) ++ ended (parens s.part)))) b
        ∙ via r (state_at Begun k q x) (joined (quoted_bytes ",") (map decimal (d ∷ es)) ++ between (parens s.part)) (joined (quoted_bytes ",") (map spell_step (t ∷ ts)) ++ ended (parens s.part)) run y.4 in
        (y.0, y.1, y.2, y.3, text, joined_reads s x y.2 (d ∷ es) (t ∷ ts) l none none' kept' y.5 a b)

    by : (es : List ℕ) (ts : List Step) → l.extents ≡ es → l.steps ≡ ts → ListsRun r s l
    by [] ts a b = absurd (omega (arith, ap length a))
    by (d ∷ es) [] a b = absurd (omega (arith, ap length a, ap length b, limits.same))
    by (d ∷ es) (t ∷ ts) a b =
        let short : Each Short (d ∷ es) = subst (λ (z : List ℕ). Each Short z) a limits.short in
        let x = extents_run es d p s r (first d short.0) (omega (arith, ap length none, ap length a, limits.few)) (omega (arith, ap length none, ap length a)) short.1 in
        finish d es t ts a b x.0 x.1 x.2 x.3 x.4 x.5

-- a text may end here, and says this
pub record Ends (r : State) (n : Notation) : Type 0 where
  pub owes : letter r.owed ≡ 0
  pub whole : is_whole r.phase r.seen.part ≡ true
  pub says : ending r ≡ n

rising_bound : (from : ℕ) (ss : List Step) (end : ℕ) → Rising from ss end → from ≤ end
rising_bound from [] end r = r
rising_bound from (o ∷ ss) end r = omega (arith, rising_bound (axis_meant o.place + 1) ss end r.1, r.0)

laid_next : (part : Part) → part ≡ Offset → (place : NamedAxis) (p : Piece) (s : Seen) → axis_meant place < 7 → follow part place p (spot_of s) 43 ≡ go Begun 0 p (AStep place)
laid_next Shard e place p s l = absurd (true≢false (ap is_shard e))
laid_next Several e place p s l = absurd (false≢true (ap in_offset e))
laid_next Single e place p s l = absurd (false≢true (ap in_offset e))
laid_next Offset e place p s l = rw (lt-ltb (axis_meant place) 7 l)

abbrev with_offsets : Lists → Lists → List Step → Notation
with_offsets l m ss = record { shard = l; replica = m; offsets = ss }

abbrev saying_offsets : Seen → List Step → Notation
saying_offsets s ss = with_offsets s.shard s.replica ss

said_offsets : (part : Part) (s : Seen) → s.part ≡ part → part ≡ Offset → said s ≡ saying_offsets s s.steps
said_offsets Shard s e o = absurd (true≢false (ap is_shard o))
said_offsets Several s e o = absurd (false≢true (ap in_offset o))
said_offsets Single s e o = absurd (false≢true (ap in_offset o))
said_offsets Offset s e o = rw e

offsets_run : (ss : List Step) (t : Step) (p : Piece) (s : Seen) (r : State) → Starts p s r → s.part ≡ Offset → Plain t → Each Plain ss → s.from ≤ axis_meant t.place → Rising (axis_meant t.place + 1) ss 8
    → Ends (runs stepped r (spell_step t ++ spell_offsets ss)) (saying_offsets s (s.steps ++ (t ∷ ss)))
offsets_run [] t p s r st e f fs low rise =
    let m = step_run p s r st t f.0 low (λ _. f.1) in
    let w = m.2.whole e f.1 in
    let q : State = m.0 in
    subst⁻¹ (λ (z : State). Ends z (saying_offsets s (s.steps ++ (t ∷ [])))) (via r q (spell_step t) [] m.1 refl)
    (record { owes = w.owes; whole = w.whole; says = w.ends ∙ said_offsets s.part (with_step s t) refl e })
offsets_run (u ∷ ss) t p s r st e f fs low rise =
    let m = step_run p s r st t f.0 low (λ _. f.1) in
    let below : axis_meant t.place < 7 = omega (arith, rise.0, rising_bound (axis_meant u.place + 1) ss 8 rise.1) in
    let q : Piece = m.2.piece in
    let n : Seen = with_step s t in
    let next : stepped m.0 43 ≡ state_at Begun 0 q n = m.2.plus ∙ ap (enter s) (laid_next s.part e t.place q s below) ∙ ap (λ (w : Step). state_at Begun 0 q (with_step s w)) m.2.is in
    let tail : List ℕ = spell_step u ++ spell_offsets ss in
    let from : n.from ≡ axis_meant t.place + 1 = ap (λ (z : Part). cond (in_offset z) (axis_meant t.place + 1) s.from) e in
    let rest = offsets_run ss u q n (state_at Begun 0 q n) (begun_starts q n 0 refl) e fs.0 fs.1 (omega (arith, from, rise.0)) rise.1 in
    subst⁻¹ (λ (z : State). Ends z (saying_offsets s (s.steps ++ (t ∷ u ∷ ss)))) (via r m.0 (spell_step t) (43 ∷ tail) m.1 (then m.0 (state_at Begun 0 q n) 43 tail next refl))
    (record { owes = rest.owes; whole = rest.whole; says = rest.says ∙ ap (saying_offsets s) (append_assoc s.steps (t ∷ []) (u ∷ ss)) })

-- the shard
shard_run : (l : Lists) → 1 ≤ length l.extents → Limits 8 Sound l
    → (k : ℕ) × (p : Piece) × (s : Seen) × (letter k ≡ 0) × (runs stepped start (spell_shard l) ≡ state_at Closed k p s) × ListsRead start.seen s l
shard_run l some limits =
    let r : State = state_at First 26 start.piece start.seen in
    let x = lists_run l start.piece start.seen r tt (extent_run start.piece start.seen 26 refl) refl refl refl some some limits in
    let tail : List ℕ = (joined (quoted_bytes ",") (map decimal l.extents) ++ between true) ++ (joined (quoted_bytes ",") (map spell_step l.steps) ++ ended true) in (
      x.0,
      x.1,
      x.2,
      x.3,
      ap (λ (t : List ℕ). runs stepped start (83 ∷ 91 ∷ t)) (lists_text true l) ∙ via start r (83 ∷ 91 ∷ 40 ∷ []) tail (owed_run First start.piece start.seen).0 x.4,
      x.5,
    )

-- what has been said when the shard or the replica has been read
shard_said : (s : Seen) (l : Lists) → s.part ≡ Shard → here s ≡ l → said s ≡ with_offsets l no_lists []
shard_said s l e h = rw e (ap (λ (z : Lists). with_offsets z no_lists []) h)

several_said : (s : Seen) (k l : Lists) → s.part ≡ Several → s.shard ≡ k → here s ≡ l → said s ≡ with_offsets k l []
several_said s k l e f h = rw e (λ j. with_offsets (f j) (h j) [])

single_said : (s : Seen) (k l : Lists) → s.part ≡ Single → s.shard ≡ k → here s ≡ l → said s ≡ with_offsets k l []
single_said s k l e f h = rw e (λ j. with_offsets (f j) (h j) [])

-- the replica, after its `+R[`
replica_run : (l : Lists) (p : Piece) (s : Seen) (k : ℕ) → letter k ≡ 0 → is_none l.extents ≡ false → Limits 4 Plain l
    → (k' : ℕ) × (p' : Piece) × (s' : Seen) × (letter k' ≡ 0) × (runs stepped (state_at Closed k p s) (spell_some l) ≡ state_at Ended k' p' s') × (said s' ≡ with_offsets (said s).shard l [])
replica_run l p s k o some limits = by l.extents refl
  where
    r : State
    r = state_at Opened 33 p s

    opened : runs stepped (state_at Closed k p s) (43 ∷ 82 ∷ 91 ∷ []) ≡ r
    opened = then (state_at Closed k p s) (state_at Plus 0 p s) 43 (82 ∷ 91 ∷ []) (decides Closed k p s 43 o) (then (state_at Plus 0 p s) (state_at Opened 32 p s) 82 (91 ∷ []) (decides Plus 0 p s 82 refl) (owed_run Opened p s).3)

    by : (es : List ℕ) → l.extents ≡ es → (k' : ℕ) × (p' : Piece) × (s' : Seen) × (letter k' ≡ 0) × (runs stepped (state_at Closed k p s) (spell_some l) ≡ state_at Ended k' p' s') × (said s' ≡ with_offsets (said s).shard l [])
    by [] a = absurd (true≢false (sym (ap is_none a) ∙ some))
    by (e ∷ []) a =
        let n : Seen = as_part s Single in
        let x = lists_run l p n r tt (opened_run p s 33 refl) refl refl refl (omega (arith, ap length a)) (omega (arith, ap length a)) (record { few = omega (arith, ap length a); same = limits.same; short = limits.short; sound = limits.sound }) in
        let tail : List ℕ = (joined (quoted_bytes ",") (map decimal l.extents) ++ between false) ++ (joined (quoted_bytes ",") (map spell_step l.steps) ++ ended false) in (
          x.0,
          x.1,
          x.2,
          x.3,
          ap (λ (c : Bool). runs stepped (state_at Closed k p s) (43 ∷ 82 ∷ 91 ∷ (spell_lists c l ++ (93 ∷ [])))) (ap several a)
              ∙ ap (λ (t : List ℕ). runs stepped (state_at Closed k p s) (43 ∷ 82 ∷ 91 ∷ t)) (lists_text false l) ∙ via (state_at Closed k p s) r (43 ∷ 82 ∷ 91 ∷ []) tail opened x.4,
          single_said x.2 (said s).shard l x.5.part x.5.shard x.5.lists,
        )
    by (e ∷ f ∷ es) a =
        let n : Seen = as_part s Several in
        let x = lists_run l p n (state_at First 0 p n) tt (extent_run p n 0 refl) refl refl refl (omega (arith, ap length a)) (omega (arith, ap length a)) limits in
        let tail : List ℕ = (joined (quoted_bytes ",") (map decimal l.extents) ++ between true) ++ (joined (quoted_bytes ",") (map spell_step l.steps) ++ ended true) in (
          x.0,
          x.1,
          x.2,
          x.3,
          ap (λ (c : Bool). runs stepped (state_at Closed k p s) (43 ∷ 82 ∷ 91 ∷ (spell_lists c l ++ (93 ∷ [])))) (ap several a ∙ lt-ltb 1 (length (e ∷ f ∷ es)) (omega arith))
              ∙ ap (λ (t : List ℕ). runs stepped (state_at Closed k p s) (43 ∷ 82 ∷ 91 ∷ t)) (lists_text true l)
              ∙ via (state_at Closed k p s) r (43 ∷ 82 ∷ 91 ∷ []) (40 ∷ tail) opened (then r (state_at First 0 p n) 40 tail (decides Opened 33 p s 40 refl) x.4),
          several_said x.2 (said s).shard l x.5.part x.5.shard x.5.lists,
        )

-- the offsets, after the shard or after the replica
after_shard : (ss : List Step) (p : Piece) (s : Seen) (k : ℕ) → letter k ≡ 0 → (said s).offsets ≡ [] → Each Plain ss → Rising 0 ss 8
    → Ends (runs stepped (state_at Closed k p s) (spell_offsets ss)) (with_offsets (said s).shard (said s).replica ss)
after_shard [] p s k o bare f r = record { owes = o; whole = refl; says = ap (with_offsets (said s).shard (said s).replica) bare }
after_shard (t ∷ ss) p s k o bare f r =
    let tail : List ℕ = spell_step t ++ spell_offsets ss in
    subst⁻¹ (λ (z : State). Ends z (with_offsets (said s).shard (said s).replica (t ∷ ss))) (then (state_at Closed k p s) (state_at Plus 0 p s) 43 tail (decides Closed k p s 43 o) refl)
    (offsets_run ss t p (as_part s Offset) (state_at Plus 0 p s) (plus_starts p s 0 refl) refl f.0 f.1 r.0 r.1)

after_replica : (ss : List Step) (p : Piece) (s : Seen) (k : ℕ) → letter k ≡ 0 → (said s).offsets ≡ [] → Each Plain ss → Rising 0 ss 8
    → Ends (runs stepped (state_at Ended k p s) (spell_offsets ss)) (with_offsets (said s).shard (said s).replica ss)
after_replica [] p s k o bare f r = record { owes = o; whole = refl; says = ap (with_offsets (said s).shard (said s).replica) bare }
after_replica (t ∷ ss) p s k o bare f r =
    let tail : List ℕ = spell_step t ++ spell_offsets ss in
    subst⁻¹ (λ (z : State). Ends z (with_offsets (said s).shard (said s).replica (t ∷ ss))) (then (state_at Ended k p s) (state_at Begun 0 p (as_part s Offset)) 43 tail (decides Ended k p s 43 o) refl)
    (offsets_run ss t p (as_part s Offset) (state_at Begun 0 p (as_part s Offset)) (begun_starts p (as_part s Offset) 0 refl) refl f.0 f.1 r.0 r.1)

none_lists : (es : List ℕ) (ts : List Step) → is_none es ≡ true → length ts ≡ length es → no_lists ≡ record { extents = es; steps = ts }
none_lists [] [] e f = refl
none_lists [] (t ∷ ts) e f = absurd (omega arith)
none_lists (d ∷ es) ts e f = absurd (omega (arith, eqb-true (length (d ∷ es)) 0 e))

-- the machine ends well over every correct text, and holds what the text says
pub complete : (n : Notation) → Within n → Ends (runs stepped start (spell n)) n
complete n w = by (is_none n.replica.extents) refl
  where
    sh : (k : ℕ) × (p : Piece) × (s : Seen) × (letter k ≡ 0) × (runs stepped start (spell_shard n.shard) ≡ state_at Closed k p s) × ListsRead start.seen s n.shard
    sh = shard_run n.shard w.some w.shard

    q : State
    q = state_at Closed sh.0 sh.1 sh.2

    text : runs stepped start (spell n) ≡ runs stepped q (spell_replica n.replica ++ spell_offsets n.offsets)
    text = via start q (spell_shard n.shard) (spell_replica n.replica ++ spell_offsets n.offsets) sh.4 refl

    told : said sh.2 ≡ with_offsets n.shard no_lists []
    told = shard_said sh.2 n.shard sh.5.part sh.5.lists

    by : (c : Bool) → is_none n.replica.extents ≡ c → Ends (runs stepped start (spell n)) n
    by true e =
        let a = after_shard n.offsets sh.1 sh.2 sh.0 sh.3 (ap (λ (z : Notation). z.offsets) told) w.offsets w.rising in
        let none : no_lists ≡ n.replica = none_lists n.replica.extents n.replica.steps e w.replica.same in
        let same : with_offsets (said sh.2).shard (said sh.2).replica n.offsets ≡ n = ap (λ (z : Notation). with_offsets z.shard z.replica n.offsets) told ∙ ap (λ (z : Lists). with_offsets n.shard z n.offsets) none in
        let drop : spell_replica n.replica ≡ [] = ap (λ (c : Bool). cond c [] (spell_some n.replica)) e in
        subst⁻¹ (λ (z : State). Ends z n) (text ∙ ap (λ (l : List ℕ). runs stepped q (l ++ spell_offsets n.offsets)) drop)
        (record { owes = a.owes; whole = a.whole; says = a.says ∙ same })
    by false e =
        let x = replica_run n.replica sh.1 sh.2 sh.0 sh.3 e w.replica in
        let both : said x.2 ≡ with_offsets n.shard n.replica [] = x.5 ∙ ap (λ (z : Notation). with_offsets z.shard n.replica []) told in
        let a = after_replica n.offsets x.1 x.2 x.0 x.3 (ap (λ (z : Notation). z.offsets) both) w.offsets w.rising in
        let same : with_offsets (said x.2).shard (said x.2).replica n.offsets ≡ n = ap (λ (z : Notation). with_offsets z.shard z.replica n.offsets) both in
        let some : spell_replica n.replica ≡ spell_some n.replica = ap (λ (c : Bool). cond c [] (spell_some n.replica)) e in
        subst⁻¹ (λ (z : State). Ends z n)
        (text ∙ ap (λ (l : List ℕ). runs stepped q (l ++ spell_offsets n.offsets)) some ∙ via q (state_at Ended x.0 x.1 x.2) (spell_some n.replica) (spell_offsets n.offsets) x.4 refl)
        (record { owes = a.owes; whole = a.whole; says = a.says ∙ same })
