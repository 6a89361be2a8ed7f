-- The machine's steps as equations.
use Prim.Native.Nat.{ℕ, zero, suc, ◌+◌, ◌-◌, ◌*◌, ◌%◌, ◌≤◌, ◌<◌}
use mathlib.Core.Path.{◌≡◌, refl, sym, ap, ◌∙◌, subst, subst⁻¹}
use mathlib.Core.Bool.{Bool, true, false, cond, ◌&&◌, false≢true, true≢false}
use mathlib.Core.List.{List, [], ◌∷◌, ◌++◌, append-nil, append_assoc}
use native.Mathlib.Omega.{arith}
use borrow.Author.Tests.{lt-ltb, le-ltb, le-leb, lt-leb, eq-eqb, ne_eqb}
use lib.Dec.{leb, ltb, eqb}
use Rattle.notation.specs.Text.{decimal, name, axis_meant, spell_place, spell_signed, spell_step, Short, Sound, is_marked}
use Rattle.notation.specs.Machine.{digit_of, continues, initial_of, rest_of, letter, is_shard, in_offset, is_whole, go, with_number, with_sign, with_axis, step_of, phase_move, follow, moved, Seen, spot_of, said, with_step, as_part, State, state_at, enter, stepped, ending, runs}
use Rattle.notation.specs.declared.Phase.{Phase}
use Rattle.notation.specs.declared.Phase.TheVariants.{First, Extent, Begun, Minus, Size, At, Tee, Named, Starred, Closed, Plus, Opened, Ended, Stuck}
use Rattle.notation.specs.declared.Part.{Part}
use Rattle.notation.specs.declared.Part.TheVariants.{Shard, Several, Single, Offset}
use Rattle.notation.specs.declared.NamedAxis.{NamedAxis}
use Rattle.notation.specs.declared.NamedAxis.TheVariants.{Bare, At as OnAxis, Marked}
use Rattle.notation.specs.declared.Step.{Step}
use Rattle.notation.specs.declared.Piece.{Piece}
use Rattle.notation.specs.declared.Move.{Move}
use Rattle.notation.specs.declared.Event.TheVariants.{Same}
use Rattle.notation.proofs.Exact.{runs_append}
use Rattle.notation.proofs.Numbers.{reads_number}

pub digit_of_lem : (d : ℕ) → d < 10 → digit_of (48 + d) ≡ d
digit_of_lem d h = rw (le-ltb (48 + d) 48 (omega arith), le-ltb 57 (48 + d) (omega arith)) (omega arith)

going_on : (v d : ℕ) → 1 ≤ v → v < 10000 → d < 10 → continues v (digit_of (48 + d)) ≡ true
going_on v d p l h = rw (digit_of_lem d h, lt-ltb d 10 h, le-leb 1 v p, lt-ltb v 10000 l)

-- one byte, and the rest; a piece, and the rest
pub then : (s s' : State) (b : ℕ) (t : List ℕ) {end : State} → stepped s b ≡ s' → runs stepped s' t ≡ end → runs stepped s (b ∷ t) ≡ end
then s s' b t e f = rw e f

pub via : (s s' : State) (t u : List ℕ) {end : State} → runs stepped s t ≡ s' → runs stepped s' u ≡ end → runs stepped s (t ++ u) ≡ end
via s s' t u e f = runs_append stepped s t u ∙ ap (λ (r : State). runs stepped r u) e ∙ f

-- where nothing is owed the phase decides
pub decides : (q : Phase) (k : ℕ) (p : Piece) (s : Seen) (b : ℕ) → letter k ≡ 0 → stepped (state_at q k p s) b ≡ enter s (phase_move q p (spot_of s) b)
unfolding stepped moved
decides q k p s b e = rw e

module _ (p : Piece) (s : Seen) where
  pub first_digit : (k : ℕ) → letter k ≡ 0 → (d : ℕ) → 0 ≤ d → d < 10 → stepped (state_at First k p s) (48 + d) ≡ state_at Extent 0 (with_number p d) s
  first_digit k o d _ l = decides First k p s (48 + d) o ∙ rw (digit_of_lem d l, lt-ltb d 10 l)

  next_digit : (v d : ℕ) → 1 ≤ v → v < 10000 → d < 10 → stepped (state_at Extent 0 (with_number p v) s) (48 + d) ≡ state_at Extent 0 (with_number p (v * 10 + d)) s
  next_digit v d q l h = decides Extent 0 (with_number p v) s (48 + d) refl ∙ rw (going_on v d q l h, digit_of_lem d h)

  pub extent_run : (k : ℕ) → letter k ≡ 0 → (v : ℕ) → Short v → runs stepped (state_at First k p s) (decimal v) ≡ state_at Extent 0 (with_number p v) s
  extent_run k o v short = reads_number stepped (state_at First k p s) (λ w. state_at Extent 0 (with_number p w) s) 0 (omega arith) (first_digit k o) next_digit v (omega arith) short

  -- a single replica's extent follows the bracket at once
  pub opened_digit : (k : ℕ) → letter k ≡ 0 → (d : ℕ) → 0 ≤ d → d < 10 → stepped (state_at Opened k p s) (48 + d) ≡ state_at Extent 0 (with_number p d) (as_part s Single)
  opened_digit k o d _ l = decides Opened k p s (48 + d) o ∙ rw (ne_eqb (48 + d) 40 (omega arith), digit_of_lem d l, lt-ltb d 10 l)

  next_single : (v d : ℕ) → 1 ≤ v → v < 10000 → d < 10 → stepped (state_at Extent 0 (with_number p v) (as_part s Single)) (48 + d) ≡ state_at Extent 0 (with_number p (v * 10 + d)) (as_part s Single)
  next_single v d q l h = decides Extent 0 (with_number p v) (as_part s Single) (48 + d) refl ∙ rw (going_on v d q l h, digit_of_lem d h)

  pub opened_run : (k : ℕ) → letter k ≡ 0 → (v : ℕ) → Short v → runs stepped (state_at Opened k p s) (decimal v) ≡ state_at Extent 0 (with_number p v) (as_part s Single)
  opened_run k o v short = reads_number stepped (state_at Opened k p s) (λ w. state_at Extent 0 (with_number p w) (as_part s Single)) 0 (omega arith) (opened_digit k o) next_single v (omega arith) short

  size_next : (n : Bool) (v d : ℕ) → 1 ≤ v → v < 10000 → d < 10 → stepped (state_at Size 0 (with_sign (with_number p v) n) s) (48 + d) ≡ state_at Size 0 (with_sign (with_number p (v * 10 + d)) n) s
  size_next n v d q l h = decides Size 0 (with_sign (with_number p v) n) s (48 + d) refl ∙ rw (going_on v d q l h, digit_of_lem d h)

  pub size_first : (k : ℕ) → letter k ≡ 0 → (d : ℕ) → 0 ≤ d → d < 10 → stepped (state_at Begun k p s) (48 + d) ≡ state_at Size 0 (with_sign (with_number p d) false) s
  size_first k o d _ l = decides Begun k p s (48 + d) o ∙ rw (ne_eqb (48 + d) 45 (omega arith), digit_of_lem d l, lt-ltb d 10 l)

  pub minus_first : (d : ℕ) → 1 ≤ d → d < 10 → stepped (state_at Minus 0 (with_sign p true) s) (48 + d) ≡ state_at Size 0 (with_sign (with_number p d) true) s
  minus_first d q l = decides Minus 0 (with_sign p true) s (48 + d) refl ∙ rw (digit_of_lem d l, lt-ltb d 10 l, le-leb 1 d q)

  -- a state in which a stride or an offset may begin
  pub record Starts (r : State) : Type 0 where
    pub minus : stepped r 45 ≡ state_at Minus 0 (with_sign p true) s
    pub digit : (d : ℕ) → 0 ≤ d → d < 10 → stepped r (48 + d) ≡ state_at Size 0 (with_sign (with_number p d) false) s

  pub begun_starts : (k : ℕ) → letter k ≡ 0 → Starts (state_at Begun k p s)
  begun_starts k o = record { minus = decides Begun k p s 45 o; digit = size_first k o }

  signed_run : (r : State) → Starts r → (n : Bool) (v : ℕ) → Short v → (n ≡ true → 1 ≤ v) → runs stepped r (spell_signed n v) ≡ state_at Size 0 (with_sign (with_number p v) n) s
  signed_run r i false v short q = reads_number stepped r (λ w. state_at Size 0 (with_sign (with_number p w) false) s) 0 (omega arith) i.digit (size_next false) v (omega arith) short
  signed_run r i true v short q =
      then r (state_at Minus 0 (with_sign p true) s) 45 (decimal v) i.minus
      (reads_number stepped (state_at Minus 0 (with_sign p true) s) (λ w. state_at Size 0 (with_sign (with_number p w) true) s) 1 (omega arith) minus_first (size_next true) v (q refl) short)

  at_sign : stepped (state_at Size 0 p s) 64 ≡ state_at At 0 p s
  at_sign = decides Size 0 p s 64 refl

  pub initial : (b a : ℕ) → eqb b 84 ≡ false → initial_of b ≡ a → ltb a 8 ≡ true → s.from ≤ a → stepped (state_at At 0 p s) b ≡ state_at Named (rest_of a) (with_axis p a) s
  initial b a e i l f = decides At 0 p s b refl ∙ rw (e, i, l, le-leb s.from a f)

  tee : s.from ≤ 6 → stepped (state_at At 0 p s) 84 ≡ state_at Tee 0 p s
  tee f = decides At 0 p s 84 refl ∙ rw (le-leb s.from 6 f)

  tee_l : s.from ≤ 5 → stepped (state_at Tee 0 p s) 76 ≡ state_at Named 16 (with_axis p 5) s
  tee_l f = decides Tee 0 p s 76 refl ∙ rw (le-leb s.from 5 f)

  pub tee_c : stepped (state_at Tee 0 p s) 67 ≡ state_at Named 20 (with_axis p 6) s
  tee_c = decides Tee 0 p s 67 refl

pub plus_starts : (p : Piece) (s : Seen) (k : ℕ) → letter k ≡ 0 → Starts p (as_part s Offset) (state_at Plus k p s)
plus_starts p s k o =
    record {
      minus = decides Plus k p s 45 o;
      digit = λ d z l. decides Plus k p s (48 + d) o ∙ rw (ne_eqb (48 + d) 82 (omega arith), ne_eqb (48 + d) 45 (omega arith), digit_of_lem d l, lt-ltb d 10 l);
    }

-- bytes that are owed
pub owed_run : (q : Phase) (p : Piece) (s : Seen) → (runs stepped (state_at q 23 p s) (83 ∷ 91 ∷ 40 ∷ []) ≡ state_at q 26 p s) × (runs stepped (state_at q 27 p s) (58 ∷ 40 ∷ []) ≡ state_at q 29 p s) × (runs stepped (state_at q 30 p s) (93 ∷ []) ≡ state_at q 31 p s) × (runs stepped (state_at q 32 p s) (91 ∷ []) ≡ state_at q 33 p s)
unfolding stepped moved
owed_run q p s = (refl, refl, refl, refl)

letters : (q : Phase) (p : Piece) (s : Seen)
    → (runs stepped (state_at q 1 p s) (105 ∷ 100 ∷ []) ≡ state_at q 3 p s) × (runs stepped (state_at q 4 p s) (97 ∷ 114 ∷ 112 ∷ 105 ∷ 100 ∷ []) ≡ state_at q 9 p s) × (runs stepped (state_at q 10 p s) (97 ∷ 110 ∷ 101 ∷ 105 ∷ 100 ∷ []) ≡ state_at q 15 p s)
    × (runs stepped (state_at q 16 p s) (97 ∷ 110 ∷ 101 ∷ []) ≡ state_at q 19 p s) × (runs stepped (state_at q 20 p s) (111 ∷ 108 ∷ []) ≡ state_at q 22 p s)
unfolding stepped moved
letters q p s = (refl, refl, refl, refl, refl)

module _ (p : Piece) (s : Seen) where
  abbrev AtName : ℕ → Type 0
  AtName a = s.from ≤ a → (k : ℕ) × (letter k ≡ 0) × (runs stepped (state_at Size 0 p s) (64 ∷ name a) ≡ state_at Named k (with_axis p a) s)

  after : (b a : ℕ) (t : List ℕ) (k : ℕ) → eqb b 84 ≡ false → initial_of b ≡ a → ltb a 8 ≡ true → s.from ≤ a → runs stepped (state_at Named (rest_of a) (with_axis p a) s) t ≡ state_at Named k (with_axis p a) s
      → runs stepped (state_at Size 0 p s) (64 ∷ b ∷ t) ≡ state_at Named k (with_axis p a) s
  after b a t k e i l f n = then (state_at Size 0 p s) (state_at At 0 p s) 64 (b ∷ t) (at_sign p s) (then (state_at At 0 p s) (state_at Named (rest_of a) (with_axis p a) s) b t (initial p s b a e i l f) n)

  name_run : (a : ℕ) → a ≤ 7 → AtName a
  name_run a l = eight AtName
      (λ f. (3, refl, after 112 0 (105 ∷ 100 ∷ []) 3 refl refl refl f (letters Named (with_axis p 0) s).0))
      (λ f. (9, refl, after 119 1 (97 ∷ 114 ∷ 112 ∷ 105 ∷ 100 ∷ []) 9 refl refl refl f (letters Named (with_axis p 1) s).1))
      (λ f. (15, refl, after 108 2 (97 ∷ 110 ∷ 101 ∷ 105 ∷ 100 ∷ []) 15 refl refl refl f (letters Named (with_axis p 2) s).2))
      (λ f. (0, refl, after 80 3 [] 0 refl refl refl f refl))
      (λ f. (0, refl, after 70 4 [] 0 refl refl refl f refl))
      (λ f. (19, refl, then (state_at Size 0 p s) (state_at At 0 p s) 64 (name 5) (at_sign p s) (then (state_at At 0 p s) (state_at Tee 0 p s) 84 (76 ∷ 97 ∷ 110 ∷ 101 ∷ []) (tee p s (omega arith)) (then (state_at Tee 0 p s) (state_at Named 16 (with_axis p 5) s) 76 (97 ∷ 110 ∷ 101 ∷ []) (tee_l p s f) (letters Named (with_axis p 5) s).3))))
      (λ f. (22, refl, then (state_at Size 0 p s) (state_at At 0 p s) 64 (name 6) (at_sign p s) (then (state_at At 0 p s) (state_at Tee 0 p s) 84 (67 ∷ 111 ∷ 108 ∷ []) (tee p s f) (then (state_at Tee 0 p s) (state_at Named 20 (with_axis p 6) s) 67 (111 ∷ 108 ∷ []) (tee_c p s) (letters Named (with_axis p 6) s).4))))
      (λ f. (0, refl, after 109 7 [] 0 refl refl refl f refl))
      a l
    where
      eight : (P : ℕ → Type 0) → P 0 → P 1 → P 2 → P 3 → P 4 → P 5 → P 6 → P 7 → (a : ℕ) → a ≤ 7 → P a
      eight P p0 p1 p2 p3 p4 p5 p6 p7 zero l = p0
      eight P p0 p1 p2 p3 p4 p5 p6 p7 (suc zero) l = p1
      eight P p0 p1 p2 p3 p4 p5 p6 p7 (suc (suc zero)) l = p2
      eight P p0 p1 p2 p3 p4 p5 p6 p7 (suc (suc (suc zero))) l = p3
      eight P p0 p1 p2 p3 p4 p5 p6 p7 (suc (suc (suc (suc zero)))) l = p4
      eight P p0 p1 p2 p3 p4 p5 p6 p7 (suc (suc (suc (suc (suc zero))))) l = p5
      eight P p0 p1 p2 p3 p4 p5 p6 p7 (suc (suc (suc (suc (suc (suc zero)))))) l = p6
      eight P p0 p1 p2 p3 p4 p5 p6 p7 (suc (suc (suc (suc (suc (suc (suc zero))))))) l = p7
      eight P p0 p1 p2 p3 p4 p5 p6 p7 (suc (suc (suc (suc (suc (suc (suc (suc n)))))))) l = absurd (omega arith)

-- a state in which the last offset has been read
pub record Final (r : State) (s : Seen) (t : Step) : Type 0 where
  pub owes : letter r.owed ≡ 0
  pub whole : is_whole r.phase r.seen.part ≡ true
  pub ends : ending r ≡ said (with_step s t)

-- a state after a whole stride or offset: what follows is decided by the part
pub record After (r : State) (s : Seen) (t : Step) : Type 0 where
  pub piece : Piece
  pub is : step_of piece t.place ≡ t
  pub comma : stepped r 44 ≡ enter s (follow s.part t.place piece (spot_of s) 44)
  pub paren : stepped r 41 ≡ enter s (follow s.part t.place piece (spot_of s) 41)
  pub bracket : stepped r 93 ≡ enter s (follow s.part t.place piece (spot_of s) 93)
  pub plus : stepped r 43 ≡ enter s (follow s.part t.place piece (spot_of s) 43)
  pub whole : s.part ≡ Offset → is_marked t.place ≡ false → Final r s t

pub step_run : (p : Piece) (s : Seen) (r₀ : State) → Starts p s r₀ → (t : Step) → Sound t → s.from ≤ axis_meant t.place → (is_shard s.part ≡ false → is_marked t.place ≡ false)
    → (r : State) × (runs stepped r₀ (spell_step t) ≡ r) × After r s t
step_run p s r₀ o t sound low plain = by t.place sound.2 low plain
  where
    n : Bool
    n = t.negative

    v : ℕ
    v = t.size

    p' : Piece
    p' = with_sign (with_number p v) n

    read : runs stepped r₀ (spell_signed n v) ≡ state_at Size 0 p' s
    read = signed_run p s r₀ o n v sound.0 sound.1

    by : (place : NamedAxis) → axis_meant place ≤ 7 → s.from ≤ axis_meant place → (is_shard s.part ≡ false → is_marked place ≡ false)
        → (r : State) × (runs stepped r₀ (spell_signed n v ++ spell_place place) ≡ r) × After r s (record { negative = n; size = v; place = place })
    by Bare high l u = (
      state_at Size 0 p' s,
      via r₀ (state_at Size 0 p' s) (spell_signed n v) [] read refl,
      record { piece = p'; is = refl; comma = decides Size 0 p' s 44 refl; paren = decides Size 0 p' s 41 refl; bracket = decides Size 0 p' s 93 refl; plus = decides Size 0 p' s 43 refl; whole = λ e _. record { owes = refl; whole = ap in_offset e; ends = refl } },
    )
    by (OnAxis a) high l u =
        let m = name_run p' s a high l in
        let q : Piece = with_axis p' a in (
          state_at Named m.0 q s,
          via r₀ (state_at Size 0 p' s) (spell_signed n v) (64 ∷ name a) read m.2,
          record { piece = q; is = refl; comma = decides Named m.0 q s 44 m.1; paren = decides Named m.0 q s 41 m.1; bracket = decides Named m.0 q s 93 m.1; plus = decides Named m.0 q s 43 m.1; whole = λ e _. record { owes = m.1; whole = ap in_offset e; ends = refl } },
        )
    by (Marked a) high l u =
        let m = name_run p' s a high l in
        let q : Piece = with_axis p' a in (
          state_at Starred 0 q s,
          via r₀ (state_at Size 0 p' s) (spell_signed n v) (64 ∷ (name a ++ (42 ∷ []))) read
              (via (state_at Size 0 p' s) (state_at Named m.0 q s) (64 ∷ name a) (42 ∷ []) m.2 (decides Named m.0 q s 42 m.1 ∙ ap (enter s) (starred s.part (λ e. true≢false (u e))))),
          record { piece = q; is = refl; comma = decides Starred 0 q s 44 refl; paren = decides Starred 0 q s 41 refl; bracket = decides Starred 0 q s 93 refl; plus = decides Starred 0 q s 43 refl; whole = λ _ z. absurd (true≢false z) },
        )
      where
        starred : (part : Part) → (is_shard part ≡ false → ⊥) → cond (is_shard part) (go Starred 0 (with_axis p' a) Same) (follow part (OnAxis a) (with_axis p' a) (spot_of s) 42) ≡ go Starred 0 (with_axis p' a) Same
        starred Shard u = refl
        starred Several u = absurd (u refl)
        starred Single u = absurd (u refl)
        starred Offset u = absurd (u refl)
