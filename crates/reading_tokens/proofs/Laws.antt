-- Tokens as runs of the notation's machine: a byte that leads somewhere carries a run one place on, one that does not is where the text goes wrong, and runs
-- after each other are a run, since each is an implication.
use Prim.Native.Nat.{ℕ, ◌+◌, ◌*◌, ◌%◌, ◌≤◌, ◌<◌}
use mathlib.Core.Path.{◌≡◌, refl, sym, ap, ◌∙◌, subst, subst⁻¹}
use mathlib.Core.Bool.{Bool, true, false, ◌&&◌, false≢true, true≢false}
use mathlib.Core.Logic.{⊎_elim}
use mathlib.Core.List.{List}
use native.Mathlib.Omega.{arith}
use borrow.Author.Tests.{ltb-true, eqb-true, eq-eqb, ne_eqb, le-leb, lt-ltb}
use lib.Dec.{leb, ltb, eqb}
use lib.ListN.{length, get_or, take}
use Rattle.laws.proofs.Order.{le_or_lt}
use Rattle.notation.specs.Promise.{Answered}
use Rattle.notation.specs.Machine.{digit_of, continues, initial_of, rest_of, letter, go, with_number, with_sign, with_axis, step_of, is_shard, phase_move, moved, move_of, next_reader, next_spot, recorded, adds, is_stuck, ends_well, refused_at}
use Rattle.notation.specs.declared.Layout.{Layout}
use Rattle.notation.specs.declared.Phase.{Phase}
use Rattle.notation.specs.declared.Phase.TheVariants.{First, Extent, Begun, Minus, Size, At, Tee, Named, Starred, Closed, Plus, Opened, Ended, Stuck}
use Rattle.notation.specs.declared.Piece.{Piece}
use Rattle.notation.specs.declared.Stand.{Stand}
use Rattle.notation.specs.declared.Event.TheVariants.{Same}
use Rattle.notation.specs.declared.NamedAxis.TheVariants.{Bare, At as OnAxis, Marked}
use Rattle.notation.specs.declared.Step.{Step}
use Rattle.notation.specs.declared.Move.{Move}
use Rattle.notation.specs.declared.Reader.{Reader}
use Rattle.notation.proofs.Image.{Holds, Goes, goes_on, answered_in_text, answered_at_end, unrecorded}
use Rattle.notation.proofs.Lists.{both}
use Rattle.reading_tokens.specs.Run.{reader_at, Stands, counts, DigitRun, Digits, between, Numbered, WordRun, Worded, Axised, StepMayBegin, Sized, Finished, AxisRead, Strided}
use Rattle.reading_tokens.specs.declared.Token.{Token}
use Rattle.reading_tokens.specs.declared.Measure.{Measure}
use Rattle.reading_tokens.specs.declared.Spotted.{Spotted}

holds : (t : List ℕ) (i : ℕ) (r : Reader) (l : Layout) → Stands t i r l → Holds (take i t) r l
holds t i r l h = record { stands = h.reader; holds = h.layout }

-- one byte on
pub one_on : (t : List ℕ) (i : ℕ) (r : Reader) (l : Layout) (m : Move) → Stands t i r l → i < length t → move_of r (get_or t i 0) ≡ m → is_stuck m.phase ≡ false
    → Stands t (i + 1) (next_reader m r.spot) (recorded m.event m.piece r.spot l)
one_on t i r l m h inside e alive =
    let g = subst (λ (n : Move). Goes (take (i + 1) t) n r.spot l) e (goes_on t i inside r l (holds t i r l h)) in
    record { within = omega arith; reader = g.next.stands; layout = g.next.holds; alive = alive }

-- one byte on, with an event that adds nothing
pub quiet_on : (t : List ℕ) (i : ℕ) (r : Reader) (l : Layout) (m : Move) → Stands t i r l → i < length t → move_of r (get_or t i 0) ≡ m → is_stuck m.phase ≡ false → adds m.event ≡ false
    → Stands t (i + 1) (next_reader m r.spot) l
quiet_on t i r l m h inside e alive n =
    subst (λ (k : Layout). Stands t (i + 1) (next_reader m r.spot) k) (unrecorded m.event m.piece r.spot l n) (one_on t i r l m h inside e alive)

-- no text goes on here
pub wrong_here : (t : List ℕ) (i : ℕ) (r : Reader) (l : Layout) → Stands t i r l → ends_well r ≡ false → (i < length t → is_stuck (move_of r (get_or t i 0)).phase ≡ true) → Answered t (refused_at i)
wrong_here t i r l h open_end dead =
    ⊎_elim
    (λ (ge : length t ≤ i). rw open_end at (answered_at_end t i (omega (arith, h.within)) r l (holds t i r l h) h.alive))
    (λ (lt : i < length t). answered_in_text t i lt r l (holds t i r l h) h.alive (dead lt))
    (le_or_lt (length t) i)

-- where letters are owed no text ends, and only the next of them goes on
pub owing_open : (q : Phase) (o : ℕ) (p : Piece) (s : Stand) → eqb (letter o) 0 ≡ false → ends_well (reader_at q o p s) ≡ false
owing_open q o p s e = rw e

pub owed_on : (q : Phase) (o : ℕ) (p : Piece) (s : Stand) (b : ℕ) → eqb (letter o) 0 ≡ false → eqb b (letter o) ≡ true → move_of (reader_at q o p s) b ≡ go q (o % 64 + 1) p Same
unfolding moved
owed_on q o p s b e f = rw (e, f)

pub owed_stuck : (q : Phase) (o : ℕ) (p : Piece) (s : Stand) (b : ℕ) → eqb (letter o) 0 ≡ false → eqb b (letter o) ≡ false → is_stuck (move_of (reader_at q o p s) b).phase ≡ true
unfolding moved
owed_stuck q o p s b e f = rw (e, f)

-- a digit goes on a number
pub digit_on : (q : Phase) (p : Piece) (v : ℕ) (s : Stand) (b : ℕ) → counts q ≡ true → continues v (digit_of b) ≡ true → move_of (reader_at q 0 (with_number p v) s) b ≡ go q 0 (with_number p (v * 10 + digit_of b)) Same
unfolding moved
digit_on First p v s b n c = absurd (false≢true n)
digit_on Extent p v s b n c = rw c
digit_on Begun p v s b n c = absurd (false≢true n)
digit_on Minus p v s b n c = absurd (false≢true n)
digit_on Size p v s b n c = rw c
digit_on At p v s b n c = absurd (false≢true n)
digit_on Tee p v s b n c = absurd (false≢true n)
digit_on Named p v s b n c = absurd (false≢true n)
digit_on Starred p v s b n c = absurd (false≢true n)
digit_on Closed p v s b n c = absurd (false≢true n)
digit_on Plus p v s b n c = absurd (false≢true n)
digit_on Opened p v s b n c = absurd (false≢true n)
digit_on Ended p v s b n c = absurd (false≢true n)
digit_on Stuck p v s b n c = absurd (false≢true n)

pub counting_alive : (q : Phase) → counts q ≡ true → is_stuck q ≡ false
counting_alive First n = refl
counting_alive Extent n = refl
counting_alive Begun n = refl
counting_alive Minus n = refl
counting_alive Size n = refl
counting_alive At n = refl
counting_alive Tee n = refl
counting_alive Named n = refl
counting_alive Starred n = refl
counting_alive Closed n = refl
counting_alive Plus n = refl
counting_alive Opened n = refl
counting_alive Ended n = refl
counting_alive Stuck n = absurd (false≢true n)

abbrev pub good : ℕ → ℕ → ℕ → Token
good i o v = record { fits = true; next = i; owed = o; value = v }

abbrev pub bad : ℕ → Token
bad i = record { fits = false; next = i; owed = 0; value = 0 }

pub digits_more : (t : List ℕ) (from first i v : ℕ) → DigitRun t from first i v → i < length t → continues v (digit_of (get_or t i 0)) ≡ true → DigitRun t from first (i + 1) (v * 10 + digit_of (get_or t i 0))
digits_more t from first i v r inside c q p s l n h =
    one_on t i (reader_at q 0 (with_number p v) s) l (go q 0 (with_number p (v * 10 + digit_of (get_or t i 0))) Same) (r q p s l n h) inside (digit_on q p v s (get_or t i 0) n c) (counting_alive q n)

pub still_small : (v d : ℕ) → continues v d ≡ true → v * 10 + d < 100000
still_small v d c =
    let a = both (ltb d 10) (leb 1 v && ltb v 10000) c in
    omega (arith, ltb-true d 10 a.0, ltb-true v 10000 (both (leb 1 v) (ltb v 10000) a.1).1)

pub number_good : (t : List ℕ) (from least : ℕ) (k : Token) → from < length t → between least (digit_of (get_or t from 0)) ≡ true → Digits t (from + 1) (digit_of (get_or t from 0)) k → Numbered t from least k
number_good t from least k inside c d =
    record {
      runs_to = λ f r q p e l n quiet h first.
          d.runs_to q p (next_spot e r.spot) l n (quiet_on t from r l (go q 0 (with_number p (digit_of (get_or t from 0))) e) h inside (first inside c) (counting_alive q n) quiet);
      stops = λ f. d.stops;
      small = λ f. d.small (omega (arith, ltb-true (digit_of (get_or t from 0)) 10 (both (leb least (digit_of (get_or t from 0))) (ltb (digit_of (get_or t from 0)) 10) c).1));
      fails = λ f. absurd (true≢false (sym d.fit ∙ f));
    }

pub number_bad : (t : List ℕ) (from least : ℕ) → (from < length t → between least (digit_of (get_or t from 0)) ≡ false) → Numbered t from least (bad from)
number_bad t from least c =
    record {
      runs_to = λ f. absurd (false≢true f);
      stops = λ f. absurd (false≢true f);
      small = λ f. absurd (false≢true f);
      fails = λ f r l h open_end dead. wrong_here t from r l h open_end (λ inside. dead inside (c inside));
    }

pub word_more : (t : List ℕ) (from owed i o : ℕ) → WordRun t from owed i o → i < length t → (letter o ≡ 0 → ⊥) → get_or t i 0 ≡ letter o → WordRun t from owed (i + 1) (o % 64 + 1)
word_more t from owed i o r inside e f q p s l h =
    let here = r q p s l h in
    one_on t i (reader_at q o p s) l (go q (o % 64 + 1) p Same) here inside (owed_on q o p s (get_or t i 0) (ne_eqb (letter o) 0 e) (eq-eqb (get_or t i 0) (letter o) f)) here.alive

pub word_good : (t : List ℕ) (from owed value i o : ℕ) → WordRun t from owed i o → letter o ≡ 0 → Worded t from owed value (good i o value)
word_good t from owed value i o r e =
    record { runs_to = λ _. r; paid = λ _. e; same = λ _. refl; fails = λ f. absurd (true≢false f) }

pub word_bad : (t : List ℕ) (from owed value i o : ℕ) → WordRun t from owed i o → (letter o ≡ 0 → ⊥) → (i < length t → get_or t i 0 ≡ letter o → ⊥) → Worded t from owed value (bad i)
word_bad t from owed value i o r e f =
    record {
      runs_to = λ g. absurd (false≢true g);
      paid = λ g. absurd (false≢true g);
      same = λ g. absurd (false≢true g);
      fails = λ _ q p s l h. wrong_here t i (reader_at q o p s) l (r q p s l h) (owing_open q o p s (ne_eqb (letter o) 0 e)) (λ inside. owed_stuck q o p s (get_or t i 0) (ne_eqb (letter o) 0 e) (ne_eqb (get_or t i 0) (letter o) (f inside)));
    }

-- where nothing is owed the phase decides
pub decided : (q : Phase) (o : ℕ) (p : Piece) (s : Stand) (b : ℕ) → letter o ≡ 0 → move_of (reader_at q o p s) b ≡ phase_move q p s b
unfolding moved
decided q o p s b e = rw e

-- an axis: a byte, and the rest of its name
pub axis_good : (q : Phase) (t : List ℕ) (from least o a : ℕ) (k : Token) → from < length t → a ≤ 7 → least ≤ a
    → ((p : Piece) (s : Stand) → s.from ≡ least → move_of (reader_at q 0 p s) (get_or t from 0) ≡ go Named o (with_axis p a) Same) → Worded t (from + 1) o a k → Axised q t from least k
axis_good q t from least o a k inside high low moves w =
    record {
      runs_to = λ f p s l e h.
          subst (λ (v : ℕ). Stands t k.next (reader_at Named k.owed (with_axis p v) s) l) (sym (w.same f))
          (w.runs_to f Named (with_axis p a) s l (one_on t from (reader_at q 0 p s) l (go Named o (with_axis p a) Same) h inside (moves p s e) refl));
      paid = w.paid;
      known = λ f. subst⁻¹ (λ (v : ℕ). v ≤ 7) (w.same f) high;
      low = λ f. subst⁻¹ (λ (v : ℕ). least ≤ v) (w.same f) low;
      fails = λ f p s l e h. w.fails f Named (with_axis p a) s l (one_on t from (reader_at q 0 p s) l (go Named o (with_axis p a) Same) h inside (moves p s e) refl);
    }

pub axis_bad : (q : Phase) (t : List ℕ) (from least : ℕ) → ((p : Piece) (s : Stand) → ends_well (reader_at q 0 p s) ≡ false)
    → (from < length t → (p : Piece) (s : Stand) → s.from ≡ least → is_stuck (move_of (reader_at q 0 p s) (get_or t from 0)).phase ≡ true) → Axised q t from least (bad from)
axis_bad q t from least open_end dead =
    record {
      runs_to = λ f. absurd (false≢true f);
      paid = λ f. absurd (false≢true f);
      known = λ f. absurd (false≢true f);
      low = λ f. absurd (false≢true f);
      fails = λ f p s l e h. wrong_here t from (reader_at q 0 p s) l h (open_end p s) (λ inside. dead inside p s e);
    }

pub tee_c : (p : Piece) (s : Stand) (b : ℕ) → b ≡ 67 → move_of (reader_at Tee 0 p s) b ≡ go Named 20 (with_axis p 6) Same
tee_c p s b c = decided Tee 0 p s b refl ∙ rw (eq-eqb b 67 c)

pub tee_l : (p : Piece) (s : Stand) (b least : ℕ) → (b ≡ 67 → ⊥) → (eqb b 76 && leb least 5) ≡ true → s.from ≡ least → move_of (reader_at Tee 0 p s) b ≡ go Named 16 (with_axis p 5) Same
tee_l p s b least c d e = decided Tee 0 p s b refl ∙ rw (ne_eqb b 67 c, e, d)

pub tee_stuck : (p : Piece) (s : Stand) (b least : ℕ) → (b ≡ 67 → ⊥) → (eqb b 76 && leb least 5) ≡ false → s.from ≡ least → is_stuck (move_of (reader_at Tee 0 p s) b).phase ≡ true
tee_stuck p s b least c d e = ap (λ (m : Move). is_stuck m.phase) (decided Tee 0 p s b refl) ∙ rw (ne_eqb b 67 c, e, d)

pub axis_tee : (t : List ℕ) (from least : ℕ) (k : Token) → from < length t → (eqb (get_or t from 0) 84 && leb least 6) ≡ true → Axised Tee t (from + 1) least k → Axised At t from least k
axis_tee t from least k inside c d =
    let on : (p : Piece) (s : Stand) → s.from ≡ least → move_of (reader_at At 0 p s) (get_or t from 0) ≡ go Tee 0 p Same
    = λ p s e. decided At 0 p s (get_or t from 0) refl ∙ rw (e, c) in
    record {
      runs_to = λ f p s l e h. d.runs_to f p s l e (one_on t from (reader_at At 0 p s) l (go Tee 0 p Same) h inside (on p s e) refl);
      paid = d.paid;
      known = d.known;
      low = d.low;
      fails = λ f p s l e h. d.fails f p s l e (one_on t from (reader_at At 0 p s) l (go Tee 0 p Same) h inside (on p s e) refl);
    }

pub axis_named : (p : Piece) (s : Stand) (b least : ℕ) → (eqb b 84 && leb least 6) ≡ false → (ltb (initial_of b) 8 && leb least (initial_of b)) ≡ true → s.from ≡ least
    → move_of (reader_at At 0 p s) b ≡ go Named (rest_of (initial_of b)) (with_axis p (initial_of b)) Same
axis_named p s b least c d e = decided At 0 p s b refl ∙ rw (e, c, d)

pub axis_stuck : (p : Piece) (s : Stand) (b least : ℕ) → (eqb b 84 && leb least 6) ≡ false → (ltb (initial_of b) 8 && leb least (initial_of b)) ≡ false → s.from ≡ least
    → is_stuck (move_of (reader_at At 0 p s) b).phase ≡ true
axis_stuck p s b least c d e = ap (λ (m : Move). is_stuck m.phase) (decided At 0 p s b refl) ∙ rw (e, c, d)

pub no_digit : (d : ℕ) → between 0 d ≡ false → ltb d 10 ≡ false
no_digit d c = rw (le-leb 0 d (omega arith)) at c

-- the sign and the number
pub size_plain : (t : List ℕ) (from : ℕ) (k : Token) → (from < length t → eqb (get_or t from 0) 45 ≡ false) → Numbered t from 0 k
    → Sized t from (record { fits = k.fits; next = k.next; negative = false; size = k.value })
size_plain t from k c n =
    record {
      runs_to = λ f s l r. record {
        piece = r.piece;
        here = subst (λ (w : Stand). Stands t k.next (reader_at Size 0 (with_sign (with_number r.piece k.value) false) w) l) r.spot
            (n.runs_to f r.reader Size (with_sign r.piece false) r.event l refl r.quiet r.here
            (λ inside d. r.begins inside ∙ rw (c inside, (both (leb 0 (digit_of (get_or t from 0))) (ltb (digit_of (get_or t from 0)) 10) d).1)));
        stops = n.stops f;
      };
      small = n.small;
      fails = λ f s l r.
          n.fails f r.reader l r.here r.open_end
          (λ inside d. ap (λ (m : Move). is_stuck m.phase) (r.begins inside) ∙ rw (c inside, no_digit (digit_of (get_or t from 0)) d));
    }

pub size_minus : (t : List ℕ) (from : ℕ) (k : Token) → from < length t → get_or t from 0 ≡ 45 → Numbered t (from + 1) 1 k
    → Sized t from (record { fits = k.fits; next = k.next; negative = true; size = k.value })
size_minus t from k inside c n =
    let on : (s : Stand) (l : Layout) (r : StepMayBegin t from s l) → Stands t (from + 1) (reader_at Minus 0 (with_sign r.piece true) s) l
    = λ s l r. subst (λ (w : Stand). Stands t (from + 1) (reader_at Minus 0 (with_sign r.piece true) w) l) r.spot
    (quiet_on t from r.reader l (go Minus 0 (with_sign r.piece true) r.event) r.here inside (r.begins inside ∙ rw (eq-eqb (get_or t from 0) 45 c)) refl r.quiet) in
    record {
      runs_to = λ f s l r. record {
        piece = r.piece;
        here = n.runs_to f (reader_at Minus 0 (with_sign r.piece true) s) Size (with_sign r.piece true) Same l refl refl (on s l r)
            (λ _ d. decided Minus 0 (with_sign r.piece true) s (get_or t (from + 1) 0) refl ∙ rw d);
        stops = n.stops f;
      };
      small = n.small;
      fails = λ f s l r.
          n.fails f (reader_at Minus 0 (with_sign r.piece true) s) l (on s l r) refl
          (λ _ d. ap (λ (m : Move). is_stuck m.phase) (decided Minus 0 (with_sign r.piece true) s (get_or t (from + 1) 0) refl) ∙ rw d);
    }

-- after a whole stride or offset
finished_bare : (t : List ℕ) (i : ℕ) (p : Piece) (s : Stand) (l : Layout) → Stands t i (reader_at Size 0 p s) l → (i < length t → continues p.value (digit_of (get_or t i 0)) ≡ false)
    → (i < length t → eqb (get_or t i 0) 64 ≡ false) → Finished t i (step_of p Bare) s l
finished_bare t i p s l h c d =
    record {
      phase = Size;
      owed = 0;
      piece = p;
      here = h;
      is = refl;
      follows = λ inside. decided Size 0 p s (get_or t i 0) refl ∙ rw (c inside, d inside);
      open_end = λ e. e;
      ends = λ e _. (e, refl);
    }

finished_at : (t : List ℕ) (i o a : ℕ) (p : Piece) (s : Stand) (l : Layout) → Stands t i (reader_at Named o (with_axis p a) s) l → letter o ≡ 0 → (i < length t → (eqb (get_or t i 0) 42 && is_shard s.part) ≡ false)
    → Finished t i (step_of p (OnAxis a)) s l
finished_at t i o a p s l h paid c =
    record {
      phase = Named;
      owed = o;
      piece = with_axis p a;
      here = h;
      is = refl;
      follows = λ inside. decided Named o (with_axis p a) s (get_or t i 0) paid ∙ rw (c inside);
      open_end = λ e. rw (paid, e);
      ends = λ e _. (rw (paid, e), refl);
    }

finished_marked : (t : List ℕ) (i o a : ℕ) (p : Piece) (s : Stand) (l : Layout) → Stands t i (reader_at Named o (with_axis p a) s) l → letter o ≡ 0 → i < length t → eqb (get_or t i 0) 42 ≡ true → is_shard s.part ≡ true
    → Finished t (i + 1) (step_of p (Marked a)) s l
finished_marked t i o a p s l h paid inside c m =
    record {
      phase = Starred;
      owed = 0;
      piece = with_axis p a;
      here = one_on t i (reader_at Named o (with_axis p a) s) l (go Starred 0 (with_axis p a) Same) h inside (decided Named o (with_axis p a) s (get_or t i 0) paid ∙ rw (c, m)) refl;
      is = refl;
      follows = λ _. decided Starred 0 (with_axis p a) s (get_or t (i + 1) 0) refl;
      open_end = λ _. refl;
      ends = λ _ e. absurd (true≢false e);
    }

pub spot_bare : (t : List ℕ) (from least : ℕ) (marks : Bool) → (from < length t → eqb (get_or t from 0) 64 ≡ false) → AxisRead t from least marks (record { fits = true; next = from; place = Bare })
spot_bare t from least marks c =
    record {
      runs_to = λ _ p s l _ _ h stops. finished_bare t from p s l h stops c;
      known = λ _. omega arith;
      low = λ _ h. h;
      plain = λ _ _. refl;
      fails = λ f. absurd (true≢false f);
    }

at_sign : (t : List ℕ) (from : ℕ) (p : Piece) (s : Stand) (l : Layout) → from < length t → eqb (get_or t from 0) 64 ≡ true → Stands t from (reader_at Size 0 p s) l
    → (from < length t → continues p.value (digit_of (get_or t from 0)) ≡ false) → Stands t (from + 1) (reader_at At 0 p s) l
at_sign t from p s l inside c h stops =
    one_on t from (reader_at Size 0 p s) l (go At 0 p Same) h inside (decided Size 0 p s (get_or t from 0) refl ∙ rw (stops inside, c)) refl

pub spot_bad : (t : List ℕ) (from least : ℕ) (marks : Bool) (k : Token) → from < length t → eqb (get_or t from 0) 64 ≡ true → Axised At t (from + 1) least k → k.fits ≡ false
    → AxisRead t from least marks (record { fits = false; next = k.next; place = Bare })
spot_bad t from least marks k inside c a bad-axis =
    record {
      runs_to = λ f. absurd (false≢true f);
      known = λ f. absurd (false≢true f);
      low = λ f. absurd (false≢true f);
      plain = λ f. absurd (false≢true f);
      fails = λ _ p s l e h stops. a.fails bad-axis p s l e (at_sign t from p s l inside c h stops);
    }

pub spot_at_lem : (t : List ℕ) (from least : ℕ) (marks : Bool) (k : Token) → from < length t → eqb (get_or t from 0) 64 ≡ true → Axised At t (from + 1) least k → k.fits ≡ true
    → ((ltb k.next (length t) && eqb (get_or t k.next 0) 42) && marks) ≡ false → AxisRead t from least marks (record { fits = true; next = k.next; place = OnAxis k.value })
spot_at_lem t from least marks k inside c a f u =
    record {
      runs_to = λ _ p s l e m h stops.
          finished_at t k.next k.owed k.value p s l (a.runs_to f p s l e (at_sign t from p s l inside c h stops)) (a.paid f)
          (λ (within : k.next < length t). rw (m, ← (rw (lt-ltb k.next (length t) within) at u)));
      known = λ _. a.known f;
      low = λ _ _. a.low f;
      plain = λ _ _. refl;
      fails = λ g. absurd (true≢false g);
    }

pub spot_marked : (t : List ℕ) (from least : ℕ) (marks : Bool) (k : Token) → from < length t → eqb (get_or t from 0) 64 ≡ true → Axised At t (from + 1) least k → k.fits ≡ true
    → ((ltb k.next (length t) && eqb (get_or t k.next 0) 42) && marks) ≡ true → AxisRead t from least marks (record { fits = true; next = k.next + 1; place = Marked k.value })
spot_marked t from least marks k inside c a f u =
    let b = both (ltb k.next (length t) && eqb (get_or t k.next 0) 42) marks u in
    let d = both (ltb k.next (length t)) (eqb (get_or t k.next 0) 42) b.0 in
    record {
      runs_to = λ _ p s l e m h stops.
          finished_marked t k.next k.owed k.value p s l (a.runs_to f p s l e (at_sign t from p s l inside c h stops)) (a.paid f) (ltb-true k.next (length t) d.0) d.1 (m ∙ b.1);
      known = λ _. a.known f;
      low = λ _ _. a.low f;
      plain = λ _ n. absurd (true≢false (sym b.1 ∙ n));
      fails = λ g. absurd (true≢false g);
    }

pub step_good : (t : List ℕ) (from least : ℕ) (marks : Bool) (m : Measure) (k : Spotted) → m.fits ≡ true → Sized t from m → AxisRead t m.next least marks k
    → Strided t from least marks (record { fits = k.fits; next = k.next; step = record { negative = m.negative; size = m.size; place = k.place } })
step_good t from least marks m k f a b =
    record {
      runs_to = λ g s l e shard r.
          let z = a.runs_to f s l r in
          b.runs_to g (with_sign (with_number z.piece m.size) m.negative) s l e shard z.here z.stops;
      small = λ _. a.small f;
      known = b.known;
      low = b.low;
      plain = b.plain;
      fails = λ g s l e r. let z = a.runs_to f s l r in b.fails g (with_sign (with_number z.piece m.size) m.negative) s l e z.here z.stops;
    }

pub step_bad : (t : List ℕ) (from least : ℕ) (marks : Bool) (m : Measure) (step : Step) → m.fits ≡ false → Sized t from m → Strided t from least marks (record { fits = false; next = m.next; step = step })
step_bad t from least marks m step f a =
    record {
      runs_to = λ g. absurd (false≢true g);
      small = λ g. absurd (false≢true g);
      known = λ g. absurd (false≢true g);
      low = λ g. absurd (false≢true g);
      plain = λ g. absurd (false≢true g);
      fails = λ _ s l e r. a.fails f s l r;
    }

-- a byte that stands at a place, or does not
pub stands_yes : (t : List ℕ) (i b : ℕ) → (ltb i (length t) && eqb (get_or t i 0) b) ≡ true → (i < length t) × (get_or t i 0 ≡ b)
stands_yes t i b h = let d = both (ltb i (length t)) (eqb (get_or t i 0) b) h in (ltb-true i (length t) d.0, eqb-true (get_or t i 0) b d.1)

pub stands_no : (t : List ℕ) (i b : ℕ) → (ltb i (length t) && eqb (get_or t i 0) b) ≡ false → i < length t → eqb (get_or t i 0) b ≡ false
stands_no t i b h inside = rw (lt-ltb i (length t) inside) at h

pub marked_inside : (t : List ℕ) (i : ℕ) (marks : Bool) → ((ltb i (length t) && eqb (get_or t i 0) 42) && marks) ≡ true → i < length t
marked_inside t i marks h = (stands_yes t i 42 (both (ltb i (length t) && eqb (get_or t i 0) 42) marks h).0).0

pub at_most_7 : (a least : ℕ) → (ltb a 8 && leb least a) ≡ true → a ≤ 7
at_most_7 a least h = omega (arith, ltb-true a 8 (both (ltb a 8) (leb least a) h).0)

pub second_yes : (x y : Bool) → (x && y) ≡ true → y ≡ true
second_yes x y h = (both x y h).1
