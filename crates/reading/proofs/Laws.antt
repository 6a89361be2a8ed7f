-- From part to part of a text: what is answered from a part on follows from the run over that part and what is answered after it.
use Rattle.std.specs.Prelude.{Ok}
use Prim.Native.Nat.{ℕ, ◌+◌, ◌≤◌, ◌<◌}
use mathlib.Core.Path.{◌≡◌, refl, ap, ◌∙◌, subst}
use mathlib.Core.Bool.{Bool, true, false}
use mathlib.Core.List.{List}
use native.Mathlib.Omega.{arith}
use borrow.Author.Tests.{eq-eqb, ne_eqb}
use lib.Dec.{eqb}
use lib.IntN.{ℤ, pos}
use lib.ListN.{length, get_or, replicate}
use Rattle.answers.specs.Refusals.{no_refusal}
use Rattle.card.specs.declared.Iters.{Iters}
use Rattle.notation.specs.Promise.{Answered, no_iters, no_layout}
use Rattle.notation.specs.Machine.{go, is_stuck, refused_at, no_piece}
use Rattle.notation.specs.declared.Layout.{Layout}
use Rattle.notation.specs.declared.Reading.{Reading}
use Rattle.notation.specs.declared.Phase.TheVariants.{First, Begun, Closed, Plus, Opened, Ended}
use Rattle.notation.specs.declared.Part.TheVariants.{Shard, Several, Single, Offset}
use Rattle.notation.specs.declared.Stand.{Stand}
use Rattle.notation.specs.declared.Event.TheVariants.{Same, Part as APart}
use Rattle.notation.specs.declared.Move.{Move}
use Rattle.reading_tokens.specs.Run.{reader_at, Stands, Worded}
use Rattle.reading_tokens.specs.declared.Token.{Token}
use Rattle.reading_tokens.proofs.Laws.{one_on, decided}
use Rattle.reading_lists.specs.Lists.{spot_in, Standing, Listed, one_iter, Singled, with_offset, AxesRise, Offsets}
use Rattle.reading_lists.specs.declared.List.{List as ReadList}
use Rattle.reading_lists.specs.declared.Single.{Single as ReadSingle}
use Rattle.reading_lists.specs.declared.Shifts.{Shifts}
use Rattle.reading_lists.proofs.Laws.{ready_begun, right_here, stuck_here}
use Rattle.reading.specs.Parts.{OffsetsAnswered, ReplicaAnswered, SeveralAnswered, SingleAnswered, PlusAnswered}

-- a phase in which a text may end
pub may_stop : (t : List ℕ) (i : ℕ) (s : Stand) (l : Layout) → length t ≤ i → Standing t i Ended s l → Answered t (record { answer = no_refusal; layout = l })
may_stop t i s l ge h = right_here t i (reader_at Ended h.owed h.piece s) l h.here ge (rw h.paid)

pub shard_stops : (t : List ℕ) (i : ℕ) (s : Stand) (l : Layout) → length t ≤ i → Standing t i Closed s l → Answered t (record { answer = no_refusal; layout = l })
shard_stops t i s l ge h = right_here t i (reader_at Closed h.owed h.piece s) l h.here ge (rw h.paid)

pub ended_wrong : (t : List ℕ) (i : ℕ) (s : Stand) (l : Layout) → i < length t → (get_or t i 0 ≡ 43 → ⊥) → Standing t i Ended s l → Answered t (refused_at i)
ended_wrong t i s l inside c h =
    stuck_here t i (reader_at Ended h.owed h.piece s) l h.here inside
    (ap (λ (m : Move). is_stuck m.phase) (decided Ended h.owed h.piece s (get_or t i 0) h.paid) ∙ rw (ne_eqb (get_or t i 0) 43 c))

pub closed_wrong : (t : List ℕ) (i : ℕ) (s : Stand) (l : Layout) → i < length t → (get_or t i 0 ≡ 43 → ⊥) → Standing t i Closed s l → Answered t (refused_at i)
closed_wrong t i s l inside c h =
    stuck_here t i (reader_at Closed h.owed h.piece s) l h.here inside
    (ap (λ (m : Move). is_stuck m.phase) (decided Closed h.owed h.piece s (get_or t i 0) h.paid) ∙ rw (ne_eqb (get_or t i 0) 43 c))

pub ended_plus : (t : List ℕ) (i : ℕ) (s : Stand) (l : Layout) → i < length t → get_or t i 0 ≡ 43 → Standing t i Ended s l → AxesRise t (i + 1) 0 l
ended_plus t i s l inside c h =
    record {
      steps = 0;
      ready = ready_begun t (i + 1) (record { part = Offset; from = 0; extents = 0; steps = 0 }) l
          (record {
            owed = 0;
            piece = h.piece;
            paid = refl;
            here = one_on t i (reader_at Ended h.owed h.piece s) l (go Begun 0 h.piece (APart Offset)) h.here inside (decided Ended h.owed h.piece s (get_or t i 0) h.paid ∙ rw (eq-eqb (get_or t i 0) 43 c)) refl;
          });
    }

pub closed_plus : (t : List ℕ) (i : ℕ) (s : Stand) (l : Layout) → i < length t → get_or t i 0 ≡ 43 → Standing t i Closed s l → Standing t (i + 1) Plus s l
closed_plus t i s l inside c h =
    record {
      owed = 0;
      piece = h.piece;
      paid = refl;
      here = one_on t i (reader_at Closed h.owed h.piece s) l (go Plus 0 h.piece Same) h.here inside (decided Closed h.owed h.piece s (get_or t i 0) h.paid ∙ rw (eq-eqb (get_or t i 0) 43 c)) refl;
    }

-- offsets after a plus
pub plus_rising : (t : List ℕ) (i : ℕ) (s : Stand) (l : Layout) → (i < length t → eqb (get_or t i 0) 82 ≡ false) → Standing t i Plus s l → AxesRise t i 0 l
plus_rising t i s l c h =
    record {
      steps = 0;
      ready = record {
        reader = reader_at Plus h.owed h.piece s;
        piece = h.piece;
        event = APart Offset;
        here = h.here;
        quiet = refl;
        spot = refl;
        begins = λ inside. decided Plus h.owed h.piece s (get_or t i 0) h.paid ∙ rw (c inside);
        open_end = rw h.paid;
      };
    }

pub offsets_right : (t : List ℕ) (from : ℕ) (l : Layout) (k : Shifts) → Offsets t from k → k.fits ≡ true → OffsetsAnswered t from l (record { answer = no_refusal; layout = with_offset l k.offset })
offsets_right t from l k a f still h = a.done f l (subst (λ (o : List ℤ). AxesRise t from 0 (with_offset l o)) still h)

pub offsets_wrong : (t : List ℕ) (from : ℕ) (l : Layout) (k : Shifts) → Offsets t from k → k.fits ≡ false → OffsetsAnswered t from l (refused_at k.next)
offsets_wrong t from l k a f still h = a.fails f l (subst (λ (o : List ℤ). AxesRise t from 0 (with_offset l o)) still h)

abbrev with_replica : Layout → Iters → Layout
with_replica l i = record { shard = l.shard; marks = l.marks; replica = i; offset = l.offset }

-- a replica of several iters, and a single one
pub several_wrong : (t : List ℕ) (from : ℕ) (l : Layout) (k : ReadList) → Listed t from 2 4 false k → k.fits ≡ false → SeveralAnswered t from l (refused_at k.next)
several_wrong t from l k a f alone h =
    a.fails f Several l (refl, refl, refl) refl (subst (λ (i : Iters). Standing t from First (spot_in Several 0 0) (with_replica l i)) alone.0 h)

pub several_right : (t : List ℕ) (from : ℕ) (l : Layout) (k : ReadList) (r : Reading) → Listed t from 2 4 false k → k.fits ≡ true → ReplicaAnswered t k.next (with_replica l k.iters) r → SeveralAnswered t from l r
several_right t from l k r a f next alone h =
    next alone.1 (spot_in Several k.iters.count k.iters.count)
    (a.runs_to f Several l (refl, refl, refl) refl (subst (λ (i : Iters). Standing t from First (spot_in Several 0 0) (with_replica l i)) alone.0 h))

pub single_wrong : (t : List ℕ) (from : ℕ) (l : Layout) (k : ReadSingle) → Singled t from k → k.fits ≡ false → SingleAnswered t from l (refused_at k.next)
single_wrong t from l k a f alone c s h = a.fails f s l c (subst (λ (i : Iters). Standing t from Opened s (with_replica l i)) alone.0 h)

pub single_right : (t : List ℕ) (from : ℕ) (l : Layout) (k : ReadSingle) (r : Reading) → Singled t from k → k.fits ≡ true → ReplicaAnswered t k.next (with_replica l (one_iter k.iter)) r → SingleAnswered t from l r
single_right t from l k r a f next alone c s h = next alone.1 (spot_in Single 1 1) (a.runs_to f s l c (subst (λ (i : Iters). Standing t from Opened s (with_replica l i)) alone.0 h))

-- `R` and its bracket
pub plus_r : (t : List ℕ) (i : ℕ) (s : Stand) (l : Layout) → i < length t → get_or t i 0 ≡ 82 → (h : Standing t i Plus s l) → Stands t (i + 1) (reader_at Opened 32 h.piece s) l
plus_r t i s l inside c h =
    one_on t i (reader_at Plus h.owed h.piece s) l (go Opened 32 h.piece Same) h.here inside (decided Plus h.owed h.piece s (get_or t i 0) h.paid ∙ rw (eq-eqb (get_or t i 0) 82 c)) refl

pub bracket_wrong : (t : List ℕ) (i : ℕ) (l : Layout) (w : Token) → i < length t → get_or t i 0 ≡ 82 → Worded t (i + 1) 32 0 w → w.fits ≡ false → PlusAnswered t i l (refused_at w.next)
bracket_wrong t i l w inside c a f alone s h = a.fails f Opened h.piece s l (plus_r t i s l inside c h)

pub bracket_right : (t : List ℕ) (i : ℕ) (s : Stand) (l : Layout) (w : Token) → i < length t → get_or t i 0 ≡ 82 → Worded t (i + 1) 32 0 w → w.fits ≡ true → Standing t i Plus s l → Standing t w.next Opened s l
bracket_right t i s l w inside c a f h = record { owed = w.owed; piece = h.piece; paid = a.paid f; here = a.runs_to f Opened h.piece s l (plus_r t i s l inside c h) }

pub opened_paren : (t : List ℕ) (i : ℕ) (s : Stand) (l : Layout) → i < length t → get_or t i 0 ≡ 40 → Standing t i Opened s l → Standing t (i + 1) First (spot_in Several 0 0) l
opened_paren t i s l inside c h =
    record {
      owed = 0;
      piece = h.piece;
      paid = refl;
      here = one_on t i (reader_at Opened h.owed h.piece s) l (go First 0 h.piece (APart Several)) h.here inside (decided Opened h.owed h.piece s (get_or t i 0) h.paid ∙ rw (eq-eqb (get_or t i 0) 40 c)) refl;
    }

-- the start, and the shard
begins : (t : List ℕ) → Stands t 0 (reader_at First 23 no_piece (spot_in Shard 0 0)) no_layout
begins t = record { within = omega arith; reader = refl; layout = refl; alive = refl }

pub open_wrong : (t : List ℕ) (w : Token) → Worded t 0 23 0 w → w.fits ≡ false → Answered t (refused_at w.next)
open_wrong t w a f = a.fails f First no_piece (spot_in Shard 0 0) no_layout (begins t)

opened : (t : List ℕ) (w : Token) → Worded t 0 23 0 w → w.fits ≡ true → Standing t w.next First (spot_in Shard 0 0) no_layout
opened t w a f = record { owed = w.owed; piece = no_piece; paid = a.paid f; here = a.runs_to f First no_piece (spot_in Shard 0 0) no_layout (begins t) }

abbrev pub shard_layout : Iters → List Bool → Layout
shard_layout i m = record { shard = i; marks = m; replica = no_iters; offset = replicate 8 (pos 0) }

pub shard_wrong : (t : List ℕ) (w : Token) (k : ReadList) → Worded t 0 23 0 w → w.fits ≡ true → Listed t w.next 1 8 true k → k.fits ≡ false → Answered t (refused_at k.next)
shard_wrong t w k a f b g = b.fails g Shard no_layout (refl, refl, refl) refl (opened t w a f)

pub shard_right : (t : List ℕ) (w : Token) (k : ReadList) → Worded t 0 23 0 w → w.fits ≡ true → Listed t w.next 1 8 true k → k.fits ≡ true
    → Standing t k.next Closed (spot_in Shard k.iters.count k.iters.count) (shard_layout k.iters k.marks)
shard_right t w k a f b g = b.runs_to g Shard no_layout (refl, refl, refl) refl (opened t w a f)
