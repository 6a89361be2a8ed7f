-- Lists as runs of the notation's machine: an extent, a stride or an offset more carries a run on and writes the same slot of the layout that the code
-- writes; what follows it, by the machine's own tests, goes on, ends the list or is where the text goes wrong.
use Rattle.std.specs.Prelude.{Ok}
use Prim.Native.Nat.{ℕ, ◌+◌, ◌≤◌, ◌<◌}
use mathlib.Core.Path.{◌≡◌, refl, ap, ◌∙◌, subst}
use mathlib.Core.Bool.{Bool, true, false, cond, ◌&&◌, false≢true, true≢false}
use mathlib.Core.List.{List}
use native.Mathlib.Omega.{arith}
use borrow.Author.Tests.{ltb-true, eqb-true, lt-ltb, le-ltb}
use lib.Dec.{leb, ltb, eqb}
use lib.IntN.{ℤ, pos}
use lib.ListN.{length, get_or, set, replicate}
use Rattle.answers.specs.Refusals.{no_refusal}
use Rattle.card.specs.declared.Iter.{Iter}
use Rattle.card.specs.declared.Iters.{Iters}
use Rattle.notation.specs.Text.{axis_meant, is_marked}
use Rattle.card.specs.Card.{none}
use Rattle.notation.specs.Meaning.{value_of}
use Rattle.notation.specs.Promise.{Answered, no_iters}
use Rattle.notation.specs.Machine.{digit_of, continues, most, least_axis, parens, is_shard, in_offset, after, go, with_number, step_of, list_move, follow, move_of, recorded, add_extent, add_step, extent_added, is_stuck, stuck, refused_at, ends_well, last_event}
use Rattle.notation.specs.declared.Layout.{Layout}
use Rattle.notation.specs.declared.Phase.{Phase}
use Rattle.notation.specs.declared.Phase.TheVariants.{First, Extent, Begun, Ended, Opened}
use Rattle.notation.specs.declared.Part.{Part}
use Rattle.notation.specs.declared.Part.TheVariants.{Shard, Several, Single, Offset}
use Rattle.notation.specs.declared.Piece.{Piece}
use Rattle.notation.specs.declared.Stand.{Stand}
use Rattle.notation.specs.declared.Step.{Step}
use Rattle.notation.specs.declared.NamedAxis.{NamedAxis}
use Rattle.notation.specs.declared.Event.{Event}
use Rattle.notation.specs.declared.Event.TheVariants.{Same, Extent as AnExtent, Step as AStep, Part as APart}
use Rattle.notation.specs.declared.Move.{Move}
use Rattle.notation.specs.declared.Reader.{Reader}
use Rattle.notation.proofs.Lists.{both}
use Rattle.reading_tokens.specs.Run.{reader_at, Stands, Numbered, Worded, StepMayBegin, Finished, Strided}
use Rattle.reading_tokens.specs.declared.Token.{Token}
use Rattle.reading_tokens.specs.declared.Stride.{Stride}
use Rattle.reading_tokens.proofs.Laws.{one_on, wrong_here, decided, no_digit}
use Rattle.reading_lists.specs.Lists.{spot_in, laid_in, nothing_marked, Standing, Fitting, ExtentRun, ExtentsFrom, PaceRun, Paced, Listed, one_iter, Singled, with_offset, AxesRise, OffsetRun, Offsets}
use Rattle.reading_lists.specs.declared.Single.{Single as ReadSingle}
use Rattle.notation.proofs.Image.{answered_in_text, answered_at_end}
use Rattle.reading_lists.specs.declared.Extents.{Extents}
use Rattle.reading_lists.specs.declared.StepsRead.{StepsRead}

-- a test at a place within the text
within_test : (t : List ℕ) (i : ℕ) (x y v : Bool) → i < length t → ((ltb i (length t) && x) && y) ≡ v → (x && y) ≡ v
within_test t i x y v inside h = rw (lt-ltb i (length t) inside) at h

pub within_yes : (t : List ℕ) (i : ℕ) (x y : Bool) → ((ltb i (length t) && x) && y) ≡ true → i < length t
within_yes t i x y h = ltb-true i (length t) (both (ltb i (length t)) x (both (ltb i (length t) && x) y h).0).0

and_false : (x : Bool) → (x && false) ≡ false
and_false true = refl
and_false false = refl

-- a comma, or none, and whether there is room for one more
pub no_comma : (x y : Bool) → x ≡ false → (x && y) ≡ false
no_comma x y e = rw e

pub comma_more : (x : Bool) (k n : ℕ) → x ≡ true → k < n → (x && ltb k n) ≡ true
comma_more x k n e h = rw (e, lt-ltb k n h)

pub comma_past : (x : Bool) (k n : ℕ) → x ≡ true → n ≤ k → (x && ltb k n) ≡ false
comma_past x k n e h = rw (e, le-ltb k n h)

pub comma_only : (t : List ℕ) (i : ℕ) (y : Bool) → (ltb i (length t) && eqb (get_or t i 0) 44) ≡ true → ((ltb i (length t) && eqb (get_or t i 0) 41) && y) ≡ false
comma_only t i y h =
    let comma : get_or t i 0 ≡ 44 = eqb-true (get_or t i 0) 44 (both (ltb i (length t)) (eqb (get_or t i 0) 44) h).1 in
    rw (comma, and_false (ltb i (length t)))

-- an extent after which nothing goes on but what follows
pub record InExtent (t : List ℕ) (i v : ℕ) (s : Stand) (l : Layout) : Type 0 where
  pub piece : Piece
  pub here : Stands t i (reader_at Extent 0 (with_number piece v) s) l
  pub stops : i < length t → continues v (digit_of (get_or t i 0)) ≡ false

pub in_extent : (t : List ℕ) (i : ℕ) (n : Token) (s : Stand) (l : Layout) → Numbered t i 0 n → n.fits ≡ true → Standing t i First s l → InExtent t n.next n.value s l
in_extent t i n s l a f h =
    record {
      piece = h.piece;
      here = a.runs_to f (reader_at First h.owed h.piece s) Extent h.piece Same l refl refl h.here
          (λ _ d. decided First h.owed h.piece s (get_or t i 0) h.paid ∙ rw (both (leb 0 (digit_of (get_or t i 0))) (ltb (digit_of (get_or t i 0)) 10) d).1);
      stops = a.stops f;
    }

extent_moves : (t : List ℕ) (i v : ℕ) (s : Stand) (l : Layout) (h : InExtent t i v s l) → i < length t
    → move_of (reader_at Extent 0 (with_number h.piece v) s) (get_or t i 0)
    ≡ cond (eqb (get_or t i 0) 44 && ltb (s.extents + 1) (most s.part)) (go First 0 (with_number h.piece v) AnExtent)
    (cond (eqb (get_or t i 0) (cond (parens s.part) 41 58) && leb (least_axis s.part) (s.extents + 1)) (go Begun (cond (parens s.part) 27 0) (with_number h.piece v) AnExtent)
    (stuck (with_number h.piece v)))
extent_moves t i v s l h inside = decided Extent 0 (with_number h.piece v) s (get_or t i 0) refl ∙ rw (h.stops inside)

extent_laid : (part : Part) (k v : ℕ) (l : Layout) (i : Iters) (m : List Bool) → add_extent part k v (laid_in part l i m) ≡ laid_in part l (extent_added i k v) m
extent_laid Shard k v l i m = refl
extent_laid Several k v l i m = refl
extent_laid Single k v l i m = refl
extent_laid Offset k v l i m = refl

abbrev pub extent_of : ℕ → Iter
extent_of v = record { extent = v; stride = pos 0; axis = 0 }

module _ (t : List ℕ) (from few many i k : ℕ) (at : List Iter) (n : Token) (r : ExtentRun t from few many i k at) (a : Numbered t i 0 n) where
  abbrev laid : Part → Layout → List Bool → Layout
  laid part l m = laid_in part l (record { at = at; count = k }) m

  reached : n.fits ≡ true → (part : Part) (l : Layout) (m : List Bool) → Fitting part few many → Standing t from First (spot_in part 0 0) (laid_in part l no_iters m)
      → InExtent t n.next n.value (spot_in part k 0) (laid part l m)
  reached f part l m g h = in_extent t i n (spot_in part k 0) (laid part l m) a f (r part l m g h)

  pub extents_more : n.fits ≡ true → ((ltb n.next (length t) && eqb (get_or t n.next 0) 44) && ltb (k + 1) many) ≡ true
      → ExtentRun t from few many (n.next + 1) (k + 1) (set at k (extent_of n.value))
  extents_more f c part l m g h =
      let e = reached f part l m g h in
      let inside = within_yes t n.next (eqb (get_or t n.next 0) 44) (ltb (k + 1) many) c in
      let p : Piece = with_number e.piece n.value in
      record {
        owed = 0;
        piece = p;
        paid = refl;
        here = subst (λ (z : Layout). Stands t (n.next + 1) (reader_at First 0 p (spot_in part (k + 1) 0)) z) (extent_laid part k n.value l (record { at = at; count = k }) m)
            (one_on t n.next (reader_at Extent 0 p (spot_in part k 0)) (laid part l m) (go First 0 p AnExtent) e.here inside
            (extent_moves t n.next n.value (spot_in part k 0) (laid part l m) e inside ∙ rw (g.2, within_test t n.next (eqb (get_or t n.next 0) 44) (ltb (k + 1) many) true inside c)) refl);
      }

  pub extents_none : (at' : List Iter) (k' : ℕ) → n.fits ≡ false → ExtentsFrom t from few many (record { fits = false; next = n.next; at = at'; count = k' })
  extents_none at' k' f =
      record {
        runs_to = λ g. absurd (false≢true g);
        some = λ g. absurd (false≢true g);
        room = λ g. absurd (false≢true g);
        fails = λ _ part l m g h.
            let s = r part l m g h in
            a.fails f (reader_at First s.owed s.piece (spot_in part k 0)) (laid part l m) s.here (rw s.paid)
            (λ _ d. ap (λ (z : Move). is_stuck z.phase) (decided First s.owed s.piece (spot_in part k 0) (get_or t i 0) s.paid) ∙ rw (no_digit (digit_of (get_or t i 0)) d));
      }

  pub extents_bad : (at' : List Iter) (k' : ℕ) → n.fits ≡ true → ((ltb n.next (length t) && eqb (get_or t n.next 0) 44) && ltb (k + 1) many) ≡ false
      → ((ltb n.next (length t) && eqb (get_or t n.next 0) 41) && leb few (k + 1)) ≡ false → ExtentsFrom t from few many (record { fits = false; next = n.next; at = at'; count = k' })
  extents_bad at' k' f c d =
      record {
        runs_to = λ g. absurd (false≢true g);
        some = λ g. absurd (false≢true g);
        room = λ g. absurd (false≢true g);
        fails = λ _ part l m g h.
            let e = reached f part l m g h in
            wrong_here t n.next (reader_at Extent 0 (with_number e.piece n.value) (spot_in part k 0)) (laid part l m) e.here refl
            (λ inside. ap (λ (z : Move). is_stuck z.phase) (extent_moves t n.next n.value (spot_in part k 0) (laid part l m) e inside)
            ∙ rw (g.0, g.1, g.2, within_test t n.next (eqb (get_or t n.next 0) 44) (ltb (k + 1) many) false inside c, within_test t n.next (eqb (get_or t n.next 0) 41) (leb few (k + 1)) false inside d));
      }

  pub extents_good : (w : Token) → k + 1 ≤ 8 → n.fits ≡ true → ((ltb n.next (length t) && eqb (get_or t n.next 0) 44) && ltb (k + 1) many) ≡ false
      → ((ltb n.next (length t) && eqb (get_or t n.next 0) 41) && leb few (k + 1)) ≡ true → Worded t (n.next + 1) 27 0 w
      → ExtentsFrom t from few many (record { fits = w.fits; next = w.next; at = set at k (extent_of n.value); count = k + 1 })
  extents_good w small f c d b =
      let inside = within_yes t n.next (eqb (get_or t n.next 0) 41) (leb few (k + 1)) d in
      let on : (part : Part) (l : Layout) (m : List Bool) → Fitting part few many → Standing t from First (spot_in part 0 0) (laid_in part l no_iters m)
      → (p : Piece) × Stands t (n.next + 1) (reader_at Begun 27 p (spot_in part (k + 1) 0)) (laid_in part l (record { at = set at k (extent_of n.value); count = k + 1 }) m)
      = λ part l m g h.
      let e = reached f part l m g h in
      let p : Piece = with_number e.piece n.value in (
        p,
        subst (λ (z : Layout). Stands t (n.next + 1) (reader_at Begun 27 p (spot_in part (k + 1) 0)) z) (extent_laid part k n.value l (record { at = at; count = k }) m)
            (one_on t n.next (reader_at Extent 0 p (spot_in part k 0)) (laid part l m) (go Begun 27 p AnExtent) e.here inside
            (extent_moves t n.next n.value (spot_in part k 0) (laid part l m) e inside
            ∙ rw (g.0, g.1, g.2, within_test t n.next (eqb (get_or t n.next 0) 44) (ltb (k + 1) many) false inside c, within_test t n.next (eqb (get_or t n.next 0) 41) (leb few (k + 1)) true inside d)) refl),
      ) in
      record {
        runs_to = λ u part l m g h.
            let z = on part l m g h in
            record { owed = w.owed; piece = z.0; paid = b.paid u; here = b.runs_to u Begun z.0 (spot_in part (k + 1) 0) (laid_in part l (record { at = set at k (extent_of n.value); count = k + 1 }) m) z.1 };
        some = λ _. omega arith;
        room = λ _. small;
        fails = λ u part l m g h.
            let z = on part l m g h in
            b.fails u Begun z.0 (spot_in part (k + 1) 0) (laid_in part l (record { at = set at k (extent_of n.value); count = k + 1 }) m) z.1;
      }

-- where a stride may begin
pub ready_begun : (t : List ℕ) (i : ℕ) (s : Stand) (l : Layout) → Standing t i Begun s l → StepMayBegin t i s l
ready_begun t i s l h =
    record {
      reader = reader_at Begun h.owed h.piece s;
      piece = h.piece;
      event = Same;
      here = h.here;
      quiet = refl;
      spot = refl;
      begins = λ _. decided Begun h.owed h.piece s (get_or t i 0) h.paid;
      open_end = rw h.paid;
    }

follow_list : (part : Part) (at : NamedAxis) (p : Piece) (s : Stand) (b : ℕ) → in_offset part ≡ false → follow part at p s b ≡ list_move at p s b
follow_list Shard at p s b e = refl
follow_list Several at p s b e = refl
follow_list Single at p s b e = refl
follow_list Offset at p s b e = absurd (true≢false e)

not_offset : (part : Part) → parens part ≡ true → in_offset part ≡ false
not_offset Shard e = refl
not_offset Several e = refl
not_offset Single e = refl
not_offset Offset e = absurd (false≢true e)

after_alive : (part : Part) → is_stuck (after part) ≡ false
after_alive Shard = refl
after_alive Several = refl
after_alive Single = refl
after_alive Offset = refl

abbrev pub step_iter : Iter → Step → Iter
step_iter i step = record { extent = i.extent; stride = value_of step; axis = axis_meant step.place }

step_laid : (part : Part) (k : ℕ) (step : Step) (l : Layout) (at : List Iter) (n : ℕ) (m : List Bool) → in_offset part ≡ false
    → add_step part k step (laid_in part l (record { at = at; count = n }) m) ≡ laid_in part l (record { at = set at k (step_iter (get_or at k none) step); count = n }) (set m k (is_marked step.place))
step_laid Shard k step l at n m e = refl
step_laid Several k step l at n m e = refl
step_laid Single k step l at n m e = refl
step_laid Offset k step l at n m e = absurd (true≢false e)

-- one byte after a stride
pub step_on : (t : List ℕ) (i : ℕ) (step : Step) (part : Part) (n k : ℕ) (l : Layout) (at : List Iter) (m : List Bool) (q : Phase) (o : ℕ) → in_offset part ≡ false → i < length t → is_stuck q ≡ false
    → (f : Finished t i step (spot_in part n k) (laid_in part l (record { at = at; count = n }) m))
    → list_move step.place f.piece (spot_in part n k) (get_or t i 0) ≡ go q o f.piece (AStep step.place)
    → Stands t (i + 1) (reader_at q o f.piece (spot_in part n (k + 1))) (laid_in part l (record { at = set at k (step_iter (get_or at k none) step); count = n }) (set m k (is_marked step.place)))
step_on t i step part n k l at m q o e inside alive f moves =
    let p : Piece = f.piece in
    let s : Stand = spot_in part n k in
    let base : Layout = laid_in part l (record { at = at; count = n }) m in
    let on = one_on t i (reader_at f.phase f.owed p s) base (go q o p (AStep step.place)) f.here inside (f.follows inside ∙ follow_list part step.place p s (get_or t i 0) e ∙ moves) alive in
    subst (λ (z : Layout). Stands t (i + 1) (reader_at q o p (spot_in part n (k + 1))) z) (ap (λ (z : Step). add_step part k z base) f.is ∙ step_laid part k step l at n m e)
    (subst (λ (z : Bool). Stands t (i + 1) (reader_at q o p (record { part = part; from = cond z (axis_meant step.place + 1) 0; extents = n; steps = k + 1 })) (add_step part k (step_of p step.place) base)) e on)

module _ (t : List ℕ) (from : ℕ) (iters : List Iter) (n : ℕ) (shard : Bool) (i k : ℕ) (at : List Iter) (marks : List Bool) (o : Stride) (r : PaceRun t from iters n shard i k at marks) (a : Strided t i 0 shard o) where
  abbrev paced : Part → Layout → Layout
  paced part l = laid_in part l (record { at = at; count = n }) marks

  abbrev start : Part → Layout → Type 0
  start part l = Standing t from Begun (spot_in part n 0) (laid_in part l (record { at = iters; count = n }) nothing_marked)

  pace_reached : o.fits ≡ true → (part : Part) (l : Layout) → parens part ≡ true → is_shard part ≡ shard → start part l → Finished t o.next o.step (spot_in part n k) (paced part l)
  pace_reached f part l g e h = a.runs_to f (spot_in part n k) (paced part l) refl e (ready_begun t i (spot_in part n k) (paced part l) (r part l g e h))

  pub steps_more : o.fits ≡ true → ((ltb o.next (length t) && eqb (get_or t o.next 0) 44) && ltb (k + 1) n) ≡ true
      → PaceRun t from iters n shard (o.next + 1) (k + 1) (set at k (step_iter (get_or at k none) o.step)) (set marks k (is_marked o.step.place))
  steps_more f c part l g e h =
      let z = pace_reached f part l g e h in
      let inside = within_yes t o.next (eqb (get_or t o.next 0) 44) (ltb (k + 1) n) c in
      record {
        owed = 0;
        piece = z.piece;
        paid = refl;
        here = step_on t o.next o.step part n k l at marks Begun 0 (not_offset part g) inside refl z
            (rw (within_test t o.next (eqb (get_or t o.next 0) 44) (ltb (k + 1) n) true inside c));
      }

  pub steps_none : (at' : List Iter) (m' : List Bool) → o.fits ≡ false → Paced t from iters n shard (record { fits = false; next = o.next; at = at'; marks = m' })
  steps_none at' m' f =
      record {
        runs_to = λ g. absurd (false≢true g);
        fails = λ _ part l g e h. a.fails f (spot_in part n k) (paced part l) refl (ready_begun t i (spot_in part n k) (paced part l) (r part l g e h));
      }

  pub steps_bad : (at' : List Iter) (m' : List Bool) → o.fits ≡ true → ((ltb o.next (length t) && eqb (get_or t o.next 0) 44) && ltb (k + 1) n) ≡ false
      → ((ltb o.next (length t) && eqb (get_or t o.next 0) 41) && eqb (k + 1) n) ≡ false → Paced t from iters n shard (record { fits = false; next = o.next; at = at'; marks = m' })
  steps_bad at' m' f c d =
      record {
        runs_to = λ g. absurd (false≢true g);
        fails = λ _ part l g e h.
            let z = pace_reached f part l g e h in
            wrong_here t o.next (reader_at z.phase z.owed z.piece (spot_in part n k)) (paced part l) z.here (z.open_end (not_offset part g))
            (λ inside. ap (λ (w : Move). is_stuck w.phase) (z.follows inside ∙ follow_list part o.step.place z.piece (spot_in part n k) (get_or t o.next 0) (not_offset part g))
            ∙ rw (g, within_test t o.next (eqb (get_or t o.next 0) 44) (ltb (k + 1) n) false inside c, within_test t o.next (eqb (get_or t o.next 0) 41) (eqb (k + 1) n) false inside d));
      }

  pub steps_good : (w : Token) → o.fits ≡ true → ((ltb o.next (length t) && eqb (get_or t o.next 0) 44) && ltb (k + 1) n) ≡ false
      → ((ltb o.next (length t) && eqb (get_or t o.next 0) 41) && eqb (k + 1) n) ≡ true → Worded t (o.next + 1) 30 0 w
      → Paced t from iters n shard (record { fits = w.fits; next = w.next; at = set at k (step_iter (get_or at k none) o.step); marks = set marks k (is_marked o.step.place) })
  steps_good w f c d b =
      let inside = within_yes t o.next (eqb (get_or t o.next 0) 41) (eqb (k + 1) n) d in
      let last : k + 1 ≡ n = eqb-true (k + 1) n (both (ltb o.next (length t) && eqb (get_or t o.next 0) 41) (eqb (k + 1) n) d).1 in
      let on : (part : Part) (l : Layout) → parens part ≡ true → is_shard part ≡ shard → start part l
      → (p : Piece) × Stands t (o.next + 1) (reader_at (after part) 30 p (spot_in part n n)) (laid_in part l (record { at = set at k (step_iter (get_or at k none) o.step); count = n }) (set marks k (is_marked o.step.place)))
      = λ part l g e h.
      let z = pace_reached f part l g e h in (
        z.piece,
        subst (λ (y : ℕ). Stands t (o.next + 1) (reader_at (after part) 30 z.piece (spot_in part n y)) (laid_in part l (record { at = set at k (step_iter (get_or at k none) o.step); count = n }) (set marks k (is_marked o.step.place)))) last
            (step_on t o.next o.step part n k l at marks (after part) 30 (not_offset part g) inside (after_alive part) z
            (rw (g, within_test t o.next (eqb (get_or t o.next 0) 44) (ltb (k + 1) n) false inside c, within_test t o.next (eqb (get_or t o.next 0) 41) (eqb (k + 1) n) true inside d))),
      ) in
      record {
        runs_to = λ u part l g e h.
            let z = on part l g e h in
            record {
              owed = w.owed;
              piece = z.0;
              paid = b.paid u;
              here = b.runs_to u (after part) z.0 (spot_in part n n) (laid_in part l (record { at = set at k (step_iter (get_or at k none) o.step); count = n }) (set marks k (is_marked o.step.place))) z.1;
            };
        fails = λ u part l g e h.
            let z = on part l g e h in
            b.fails u (after part) z.0 (spot_in part n n) (laid_in part l (record { at = set at k (step_iter (get_or at k none) o.step); count = n }) (set marks k (is_marked o.step.place))) z.1;
      }

-- a list is its extents and its strides
pub list_bad : (t : List ℕ) (from few many : ℕ) (shard : Bool) (e : Extents) (i : Iters) (m : List Bool) → ExtentsFrom t from few many e → e.fits ≡ false
    → Listed t from few many shard (record { fits = false; next = e.next; iters = i; marks = m })
list_bad t from few many shard e i m a f =
    record {
      runs_to = λ g. absurd (false≢true g);
      fails = λ _ part l g d h. a.fails f part l nothing_marked g h;
    }

pub list_good : (t : List ℕ) (from few many : ℕ) (shard : Bool) (e : Extents) (k : StepsRead) → ExtentsFrom t from few many e → e.fits ≡ true → Paced t e.next e.at e.count shard k
    → Listed t from few many shard (record { fits = k.fits; next = k.next; iters = record { at = k.at; count = e.count }; marks = k.marks })
list_good t from few many shard e k a f b =
    record {
      runs_to = λ u part l g d h. b.runs_to u part l g.0 d (a.runs_to f part l nothing_marked g h);
      fails = λ u part l g d h. b.fails u part l g.0 d (a.runs_to f part l nothing_marked g h);
    }

-- a single iter
module _ (t : List ℕ) (from : ℕ) (n : Token) (a : Numbered t from 0 n) where
  abbrev bare : Layout → Layout
  bare l = laid_in Single l no_iters nothing_marked

  abbrev sized : Layout → Layout
  sized l = laid_in Single l (one_iter (extent_of n.value)) nothing_marked

  abbrev Opening : Stand → Layout → Type 0
  Opening s l = Standing t from Opened s (bare l)

  abbrev NoParen : Type 0
  NoParen = from < length t → eqb (get_or t from 0) 40 ≡ false

  single_in : n.fits ≡ true → (s : Stand) (l : Layout) → NoParen → Opening s l → InExtent t n.next n.value (spot_in Single 0 0) (bare l)
  single_in f s l c h =
      record {
        piece = h.piece;
        here = a.runs_to f (reader_at Opened h.owed h.piece s) Extent h.piece (APart Single) (bare l) refl refl h.here
            (λ inside d. decided Opened h.owed h.piece s (get_or t from 0) h.paid ∙ rw (c inside, (both (leb 0 (digit_of (get_or t from 0))) (ltb (digit_of (get_or t from 0)) 10) d).1));
        stops = a.stops f;
      }

  abbrev wrong_single : ℕ → ReadSingle
  wrong_single i = record { fits = false; next = i; iter = none }

  pub single_none : n.fits ≡ false → Singled t from (wrong_single n.next)
  single_none f =
      record {
        runs_to = λ g. absurd (false≢true g);
        fails = λ _ s l c h.
            a.fails f (reader_at Opened h.owed h.piece s) (bare l) h.here (rw h.paid)
            (λ inside d. ap (λ (z : Move). is_stuck z.phase) (decided Opened h.owed h.piece s (get_or t from 0) h.paid) ∙ rw (c inside, no_digit (digit_of (get_or t from 0)) d));
      }

  pub single_no_colon : n.fits ≡ true → (n.next < length t → eqb (get_or t n.next 0) 58 ≡ false) → Singled t from (wrong_single n.next)
  single_no_colon f d =
      record {
        runs_to = λ g. absurd (false≢true g);
        fails = λ _ s l c h.
            let e = single_in f s l c h in
            wrong_here t n.next (reader_at Extent 0 (with_number e.piece n.value) (spot_in Single 0 0)) (bare l) e.here refl
            (λ inside. ap (λ (z : Move). is_stuck z.phase) (extent_moves t n.next n.value (spot_in Single 0 0) (bare l) e inside) ∙ rw (and_false (eqb (get_or t n.next 0) 44), d inside));
      }

  single_colon : n.fits ≡ true → n.next < length t → get_or t n.next 0 ≡ 58 → (s : Stand) (l : Layout) → NoParen → Opening s l → Standing t (n.next + 1) Begun (spot_in Single 1 0) (sized l)
  single_colon f inside d s l c h =
      let e = single_in f s l c h in
      let p : Piece = with_number e.piece n.value in
      record {
        owed = 0;
        piece = p;
        paid = refl;
        here = one_on t n.next (reader_at Extent 0 p (spot_in Single 0 0)) (bare l) (go Begun 0 p AnExtent) e.here inside (extent_moves t n.next n.value (spot_in Single 0 0) (bare l) e inside ∙ rw d) refl;
      }

  module _ (f : n.fits ≡ true) (inside : n.next < length t) (d : get_or t n.next 0 ≡ 58) (o : Stride) (b : Strided t (n.next + 1) 0 false o) where
    pub single_no_step : o.fits ≡ false → Singled t from (wrong_single o.next)
    single_no_step u =
        record {
          runs_to = λ g. absurd (false≢true g);
          fails = λ _ s l c h. b.fails u (spot_in Single 1 0) (sized l) refl (ready_begun t (n.next + 1) (spot_in Single 1 0) (sized l) (single_colon f inside d s l c h));
        }

    stepped : o.fits ≡ true → (s : Stand) (l : Layout) → NoParen → Opening s l → Finished t o.next o.step (spot_in Single 1 0) (sized l)
    stepped u s l c h = b.runs_to u (spot_in Single 1 0) (sized l) refl refl (ready_begun t (n.next + 1) (spot_in Single 1 0) (sized l) (single_colon f inside d s l c h))

    pub single_no_bracket : o.fits ≡ true → (o.next < length t → eqb (get_or t o.next 0) 93 ≡ false) → Singled t from (wrong_single o.next)
    single_no_bracket u v =
        record {
          runs_to = λ g. absurd (false≢true g);
          fails = λ _ s l c h.
              let z = stepped u s l c h in
              wrong_here t o.next (reader_at z.phase z.owed z.piece (spot_in Single 1 0)) (sized l) z.here (z.open_end refl)
              (λ within. ap (λ (w : Move). is_stuck w.phase) (z.follows within) ∙ rw (and_false (eqb (get_or t o.next 0) 44), v within));
        }

    pub single_good : o.fits ≡ true → o.next < length t → get_or t o.next 0 ≡ 93 → Singled t from (record { fits = true; next = o.next + 1; iter = step_iter (extent_of n.value) o.step })
    single_good u within v =
        record {
          runs_to = λ _ s l c h.
              let z = stepped u s l c h in
              record {
                owed = 0;
                piece = z.piece;
                paid = refl;
                here = step_on t o.next o.step Single 1 0 l (set (replicate 8 none) 0 (extent_of n.value)) nothing_marked Ended 0 refl within refl z (rw v);
              };
          fails = λ g. absurd (true≢false g);
        }

-- where a text may end, and where it goes wrong though it might end
pub right_here : (t : List ℕ) (i : ℕ) (r : Reader) (l : Layout) → Stands t i r l → length t ≤ i → ends_well r ≡ true
    → Answered t (record { answer = no_refusal; layout = recorded (last_event r.phase r.piece) r.piece r.spot l })
right_here t i r l h ge w =
    rw w at (answered_at_end t i (omega (arith, h.within)) r l (record { stands = h.reader; holds = h.layout }) h.alive)

pub stuck_here : (t : List ℕ) (i : ℕ) (r : Reader) (l : Layout) → Stands t i r l → i < length t → is_stuck (move_of r (get_or t i 0)).phase ≡ true → Answered t (refused_at i)
stuck_here t i r l h inside dead = answered_in_text t i inside r l (record { stands = h.reader; holds = h.layout }) h.alive dead

-- offsets
module _ (t : List ℕ) (from i low : ℕ) (offset : List ℤ) (o : Stride) (r : OffsetRun t from i low offset) (a : Strided t i low false o) where
  abbrev begin : Layout → Type 0
  begin l = AxesRise t from 0 (with_offset l (replicate 8 (pos 0)))

  abbrev here : ℕ → Stand
  here k = record { part = Offset; from = low; extents = 0; steps = k }

  abbrev moved_on : List ℤ
  moved_on = set offset (axis_meant o.step.place) (value_of o.step)

  offset_read : o.fits ≡ true → (l : Layout) → (b : begin l) → Finished t o.next o.step (here (r l b).steps) (with_offset l offset)
  offset_read f l b = a.runs_to f (here (r l b).steps) (with_offset l offset) refl refl (r l b).ready

  pub offsets_none : (x : List ℤ) → o.fits ≡ false → Offsets t from (record { fits = false; next = o.next; offset = x })
  offsets_none x f =
      record {
        done = λ g. absurd (false≢true g);
        fails = λ _ l b. a.fails f (here (r l b).steps) (with_offset l offset) refl (r l b).ready;
      }

  pub offsets_done : o.fits ≡ true → length t ≤ o.next → Offsets t from (record { fits = true; next = o.next; offset = moved_on })
  offsets_done f ge =
      record {
        done = λ _ l b.
            let z = offset_read f l b in
            let e = z.ends refl (a.plain f refl) in
            let y = right_here t o.next (reader_at z.phase z.owed z.piece (here (r l b).steps)) (with_offset l offset) z.here ge e.0 in
            subst (λ (w : Step). Answered t (record { answer = no_refusal; layout = with_offset l (set offset (axis_meant o.step.place) (value_of w)) })) z.is
            (subst (λ (w : Event). Answered t (record { answer = no_refusal; layout = recorded w z.piece (here (r l b).steps) (with_offset l offset) })) e.1 y);
        fails = λ g. absurd (true≢false g);
      }

  pub offsets_bad : (x : List ℤ) → o.fits ≡ true → o.next < length t → (eqb (get_or t o.next 0) 43 && ltb (axis_meant o.step.place) 7) ≡ false
      → Offsets t from (record { fits = false; next = o.next; offset = x })
  offsets_bad x f inside c =
      record {
        done = λ g. absurd (false≢true g);
        fails = λ _ l b.
            let z = offset_read f l b in
            stuck_here t o.next (reader_at z.phase z.owed z.piece (here (r l b).steps)) (with_offset l offset) z.here inside
            (ap (λ (w : Move). is_stuck w.phase) (z.follows inside) ∙ rw c);
      }

  pub offsets_more : o.fits ≡ true → o.next < length t → (eqb (get_or t o.next 0) 43 && ltb (axis_meant o.step.place) 7) ≡ true
      → OffsetRun t from (o.next + 1) (axis_meant o.step.place + 1) moved_on
  offsets_more f inside c l b =
      let z = offset_read f l b in
      let k = (r l b).steps in
      let s : Stand = record { part = Offset; from = axis_meant o.step.place + 1; extents = 0; steps = k + 1 } in
      let on = one_on t o.next (reader_at z.phase z.owed z.piece (here k)) (with_offset l offset) (go Begun 0 z.piece (AStep o.step.place)) z.here inside (z.follows inside ∙ rw c) refl in
      record {
        steps = k + 1;
        ready = ready_begun t (o.next + 1) s (with_offset l moved_on)
            (record { owed = 0; piece = z.piece; paid = refl; here = subst (λ (w : Step). Stands t (o.next + 1) (reader_at Begun 0 z.piece s) (with_offset l (set offset (axis_meant o.step.place) (value_of w)))) z.is on });
      }
