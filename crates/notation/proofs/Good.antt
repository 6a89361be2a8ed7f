-- What the reader's state says of the text that it has read, with the bytes that are owed.
use Prim.Native.Nat.{ℕ, zero, suc, ◌+◌, ◌*◌, ◌%◌, ◌≤◌, ◌<◌}
use mathlib.Core.Path.{◌≡◌, refl, sym, ap, ◌∙◌, subst, subst⁻¹}
use mathlib.Core.Logic.{⊎_elim}
use mathlib.Core.Bool.{Bool, true, false, cond, not, ◌&&◌, false≢true}
use mathlib.Core.List.{List, [], ◌∷◌, ◌++◌, append-nil, append_assoc, map}
use native.Mathlib.Omega.{arith}
use native.Mathlib.Nat.{eq-or-lt_of_le}
use native.Mathlib.Numerals.{add-one}
use borrow.Author.Tests.{lt-ltb, ne_eqb, ltb-true, ltb-false, leb-true, leb-false, eqb-true, eqb-false}
use lib.Dec.{leb, ltb, eqb}
use lib.ListN.{length, get_or, drop, length-append}
use lib.Seq.{drop-cons}
use Rattle.notation.specs.Quoted.{quoted_bytes}
use Rattle.notation.specs.Text.{decimal, name, axis_meant, spell_place, spell_signed, spell_step, tails, joined, opening_bytes, closing, enclosed, Lists, spell_lists, spell_shard, spell_replica, spell_offsets, Notation, spell, Short, Each, Sound, is_marked, Plain, Rising, Limits, Within, Correct}
use Rattle.notation.specs.Machine.{digit_of, continues, initial_of, rest_of, words_to_follow, letter, most, least_axis, parens, is_shard, in_offset, go, stuck, with_number, with_sign, with_axis, step_of, spot_of, Seen, no_lists, here, said, with_extent, with_step, as_part, enter, state_at, State, first_move, extent_move, begun_move, minus_move, list_move, offset_move, follow, size_move, at_move, tee_move, named_move, starred_move, closed_move, plus_move, opened_move, ended_move, phase_move, moved, stepped}
use Rattle.notation.specs.declared.Phase.{Phase}
use Rattle.notation.specs.declared.Phase.TheVariants.{First, Extent, Begun, Minus, Size, At, Tee, Named, Starred, Closed, Plus, Opened, Ended, Stuck}
use Rattle.notation.specs.declared.Part.{Part}
use Rattle.notation.specs.declared.Part.TheVariants.{Shard, Several, Single, Offset}
use Rattle.notation.specs.declared.NamedAxis.{NamedAxis}
use Rattle.notation.specs.declared.NamedAxis.TheVariants.{Bare, At as OnAxis, Marked}
use Rattle.notation.specs.declared.Step.{Step}
use Rattle.notation.specs.declared.Piece.{Piece}
use Rattle.notation.specs.declared.Event.{Event}
use Rattle.notation.specs.declared.Event.TheVariants.{Same, Part as APart}
use Rattle.notation.specs.declared.Move.{Move}
use Rattle.notation.proofs.Numbers.{decimal_snoc, decimal_digit}
use Rattle.notation.proofs.Lists.{pick, pick_both, both, map_append, lead, lead_snoc, joined_mid, offsets_mid, each_append, rising_snoc, rising_more, rising_length, several, is_none}

-- the bytes from a place of the words up to a zero
abbrev up_to : List ℕ → List ℕ
up_to [] = []
up_to (a ∷ l) = cond (eqb a 0) [] (a ∷ up_to l)

abbrev pub owing : ℕ → List ℕ
owing owed = up_to (drop (owed % 64) words_to_follow)

-- what strides a part may have
abbrev pub Fine : Part → Step → Type 0
Fine Shard s = Sound s
Fine Several s = Plain s
Fine Single s = Plain s
Fine Offset s = Plain s

abbrev pub IsList : Part → Type 0
IsList Shard = Unit {0}
IsList Several = Unit {0}
IsList Single = Unit {0}
IsList Offset = ⊥

-- a finished shard
pub record ShardRead (l : Lists) : Type 0 where
  pub some : 1 ≤ length l.extents
  pub limits : Limits 8 Sound l

-- what is known before a list, by its part
abbrev pub Outer : Part → Lists → Type 0
Outer Shard l = Unit {0}
Outer Several l = ShardRead l
Outer Single l = ShardRead l
Outer Offset l = ⊥

-- the text before a list
abbrev pub prefix : Part → Lists → List ℕ
prefix Shard l = 83 ∷ 91 ∷ []
prefix Several l = spell_shard l ++ (43 ∷ 82 ∷ 91 ∷ [])
prefix Single l = spell_shard l ++ (43 ∷ 82 ∷ 91 ∷ [])
prefix Offset l = []

-- among the extents of a list, after so much of a number
pub record InExtents (s : Seen) (part x : List ℕ) : Type 0 where
  pub outer : Outer s.part s.shard
  pub from0 : s.from ≡ 0
  pub none : s.steps ≡ []
  pub room : length s.extents + 1 ≤ most s.part
  pub short : Each Short s.extents
  pub read : x ≡ (prefix s.part s.shard ++ (opening_bytes (parens s.part) ++ lead (map decimal s.extents))) ++ part

-- before a stride of a list
abbrev pub before_stride : Part → Seen → List ℕ
before_stride part s =
    prefix part s.shard ++ (enclosed (parens part) (map decimal s.extents) ++ (58 ∷ (opening_bytes (parens part) ++ lead (map spell_step s.steps))))

pub record InStrides (part : Part) (s : Seen) : Type 0 where
  pub outer : Outer part s.shard
  pub from0 : s.from ≡ 0
  pub enough : least_axis part ≤ length s.extents
  pub few : length s.extents ≤ most part
  pub room : length s.steps + 1 ≤ length s.extents
  pub short : Each Short s.extents
  pub fine : Each (Fine part) s.steps

-- before an offset
pub record InOffsets (s : Seen) : Type 0 where
  pub shard : ShardRead s.shard
  pub replica : Limits 4 Plain s.replica
  pub fine : Each Plain s.steps
  pub rising : Rising 0 s.steps s.from
  pub low : s.from ≤ 7

abbrev pub before_offset : Seen → List ℕ
before_offset s = spell_shard s.shard ++ (spell_replica s.replica ++ spell_offsets s.steps)

abbrev pub Before : Part → Seen → Type 0
Before Shard s = InStrides Shard s
Before Several s = InStrides Several s
Before Single s = InStrides Single s
Before Offset s = InOffsets s

abbrev pub front : Part → Seen → List ℕ
front Shard s = before_stride Shard s
front Several s = before_stride Several s
front Single s = before_stride Single s
front Offset s = before_offset s ++ (43 ∷ [])

pub record InStep (s : Seen) (piece x : List ℕ) : Type 0 where
  pub before : Before s.part s
  pub read : x ≡ front s.part s ++ piece

abbrev pub Fitting : Piece → Type 0
Fitting p = Short p.value × (p.negative ≡ true → 1 ≤ p.value)

abbrev pub sign : Piece → List ℕ
sign p = spell_signed p.negative p.value

abbrev pub Shape : Phase → Piece → Seen → List ℕ → Type 0
Shape First p s x = InExtents s [] x
Shape Extent p s x = Short p.value × InExtents s (decimal p.value) x
Shape Begun p s x = InStep s [] x
Shape Minus p s x = (p.negative ≡ true) × InStep s (45 ∷ []) x
Shape Size p s x = Fitting p × InStep s (sign p) x
Shape At p s x = Fitting p × InStep s (sign p ++ (64 ∷ [])) x
Shape Tee p s x = (s.from ≤ 6) × Fitting p × InStep s (sign p ++ (64 ∷ 84 ∷ [])) x
Shape Named p s x = (s.from ≤ p.axis) × (p.axis ≤ 7) × Fitting p × InStep s (sign p ++ (64 ∷ name p.axis)) x
Shape Starred p s x = (s.part ≡ Shard) × (p.axis ≤ 7) × Fitting p × InStep s (sign p ++ (64 ∷ (name p.axis ++ (42 ∷ [])))) x
Shape Closed p s x = ShardRead (said s).shard × ((said s).replica ≡ no_lists) × ((said s).offsets ≡ []) × (x ≡ spell_shard (said s).shard)
Shape Plus p s x = ShardRead (said s).shard × ((said s).replica ≡ no_lists) × ((said s).offsets ≡ []) × (x ≡ spell_shard (said s).shard ++ (43 ∷ []))
Shape Opened p s x = ShardRead (said s).shard × ((said s).replica ≡ no_lists) × ((said s).offsets ≡ []) × (x ≡ spell_shard (said s).shard ++ (43 ∷ 82 ∷ 91 ∷ []))
Shape Ended p s x = ShardRead (said s).shard × Limits 4 Plain (said s).replica × ((said s).offsets ≡ []) × (x ≡ spell_shard (said s).shard ++ spell_replica (said s).replica)
Shape Stuck p s x = Unit {0}

abbrev pub Good : State → List ℕ → Type 0
Good r t = Shape r.phase r.piece r.seen (t ++ owing r.owed)

-- a byte that is a digit
digit_byte : (b : ℕ) → ltb (digit_of b) 10 ≡ true → b ≡ 48 + digit_of b
digit_byte b = pick (λ (d : ℕ). ltb d 10 ≡ true → b ≡ 48 + d) (ltb b 48)
    (λ e h. absurd (omega (arith, ltb-true 10 10 h)))
    (λ e. pick (λ (d : ℕ). ltb d 10 ≡ true → b ≡ 48 + d) (ltb 57 b) (λ e₂ h. absurd (omega (arith, ltb-true 10 10 h))) (λ e₂ h. omega (arith, ltb-false b 48 e)))

-- a digit of a number
digit_more : (v b : ℕ) → continues v (digit_of b) ≡ true → Short (v * 10 + digit_of b) × (decimal v ++ (b ∷ []) ≡ decimal (v * 10 + digit_of b))
digit_more v b e =
    let t = both (ltb (digit_of b) 10) (leb 1 v && ltb v 10000) e in
    let u = both (leb 1 v) (ltb v 10000) t.1 in
    let small : digit_of b < 10 = ltb-true (digit_of b) 10 t.0 in
    let pos : 1 ≤ v = leb-true 1 v u.0 in
    let low : v < 10000 = ltb-true v 10000 u.1 in
    (omega arith, ap (λ (c : ℕ). decimal v ++ (c ∷ [])) (digit_byte b t.0) ∙ sym (decimal_snoc v (digit_of b) pos low small))

digit_first : (b : ℕ) → ltb (digit_of b) 10 ≡ true → Short (digit_of b) × (b ∷ [] ≡ decimal (digit_of b))
digit_first b e =
    let small : digit_of b < 10 = ltb-true (digit_of b) 10 e in
    (omega arith, ap (λ (c : ℕ). c ∷ []) (digit_byte b e) ∙ sym (decimal_digit (digit_of b) small))

-- the first letter of a name, and its rest
name_first : (b : ℕ) → ltb (initial_of b) 8 ≡ true → b ∷ owing (rest_of (initial_of b)) ≡ name (initial_of b)
name_first b =
    let P : ℕ → Type 0 = λ a. ltb a 8 ≡ true → b ∷ owing (rest_of a) ≡ name a in
    pick P (eqb b 112) (λ e _. rw (eqb-true b 112 e)) (λ _.
    pick P (eqb b 119) (λ e _. rw (eqb-true b 119 e)) (λ _.
    pick P (eqb b 108) (λ e _. rw (eqb-true b 108 e)) (λ _.
    pick P (eqb b 80) (λ e _. rw (eqb-true b 80 e)) (λ _.
    pick P (eqb b 70) (λ e _. rw (eqb-true b 70 e)) (λ _.
    pick P (eqb b 109) (λ e _. rw (eqb-true b 109 e)) (λ _ f. absurd (false≢true f)))))))

-- one byte more of the text, and the rest that is then owed
text_more : (x p part part' rest : List ℕ) (b : ℕ) → x ≡ p ++ part → part ++ (b ∷ rest) ≡ part' → (x ++ (b ∷ [])) ++ rest ≡ p ++ part'
text_more x p part part' rest b e f =
    append_assoc x (b ∷ []) rest ∙ ap (λ (l : List ℕ). l ++ (b ∷ rest)) e ∙ append_assoc p part (b ∷ rest) ∙ ap (λ (l : List ℕ). p ++ l) f

extents_more : {s : Seen} {part x : List ℕ} (part' : List ℕ) (b : ℕ) → InExtents s part x → part ++ (b ∷ []) ≡ part' → InExtents s part' ((x ++ (b ∷ [])) ++ [])
extents_more {s} {part} {x} part' b i f =
    record { outer = i.outer; from0 = i.from0; none = i.none; room = i.room; short = i.short; read = text_more x (prefix s.part s.shard ++ (opening_bytes (parens s.part) ++ lead (map decimal s.extents))) part part' [] b i.read f }

step_more : {s : Seen} {part x : List ℕ} (part' rest : List ℕ) (b : ℕ) → InStep s part x → part ++ (b ∷ rest) ≡ part' → InStep s part' ((x ++ (b ∷ [])) ++ rest)
step_more {s} {part} {x} part' rest b i f = record { before = i.before; read = text_more x (front s.part s) part part' rest b i.read f }

-- a list goes on
comma_text : (f o : List ℕ) (ts : List (List ℕ)) (t x : List ℕ) (b : ℕ) → x ≡ (f ++ (o ++ lead ts)) ++ t → b ≡ 44 → (x ++ (b ∷ [])) ++ [] ≡ (f ++ (o ++ lead (ts ++ (t ∷ [])))) ++ []
comma_text f o ts t x b e h =
    let w : x ++ (b ∷ []) ≡ f ++ (o ++ lead (ts ++ (t ∷ [])))
    = ap (λ (c : ℕ). x ++ (c ∷ [])) h ∙ ap (λ (l : List ℕ). l ++ (44 ∷ [])) e ∙ append_assoc (f ++ (o ++ lead ts)) t (44 ∷ []) ∙ append_assoc f (o ++ lead ts) (t ++ (44 ∷ []))
    ∙ ap (λ (l : List ℕ). f ++ l) (append_assoc o (lead ts) (t ++ (44 ∷ [])) ∙ ap (λ (l : List ℕ). o ++ l) (sym (lead_snoc ts t))) in
    ap (λ (l : List ℕ). l ++ []) w

-- a list is closed
close_text : (f o c : List ℕ) (ts : List (List ℕ)) (t x rest : List ℕ) → x ≡ (f ++ (o ++ lead ts)) ++ t → x ++ (c ++ rest) ≡ f ++ ((o ++ (joined (quoted_bytes ",") (ts ++ (t ∷ [])) ++ c)) ++ rest)
close_text f o c ts t x rest e =
    ap (λ (l : List ℕ). l ++ (c ++ rest)) e ∙ append_assoc (f ++ (o ++ lead ts)) t (c ++ rest) ∙ append_assoc f (o ++ lead ts) (t ++ (c ++ rest))
    ∙ ap (λ (l : List ℕ). f ++ l)
    (append_assoc o (lead ts) (t ++ (c ++ rest)) ∙ ap (λ (l : List ℕ). o ++ l) (sym (append_assoc (lead ts) t (c ++ rest)) ∙ ap (λ (l : List ℕ). l ++ (c ++ rest)) (sym (joined_last ts t)) ∙ sym (append_assoc (joined (quoted_bytes ",") (ts ++ (t ∷ []))) c rest))
    ∙ sym (append_assoc o (joined (quoted_bytes ",") (ts ++ (t ∷ [])) ++ c) rest))
  where
    joined_last : (ts : List (List ℕ)) (t : List ℕ) → joined (quoted_bytes ",") (ts ++ (t ∷ [])) ≡ lead ts ++ t
    joined_last ts t = joined_mid ts t [] ∙ ap (λ (l : List ℕ). lead ts ++ l) (append-nil t)

pub most_8 : (part : Part) → most part ≤ 8
most_8 Shard = omega arith
most_8 Several = omega arith
most_8 Single = omega arith
most_8 Offset = omega arith

abbrev with : Seen → Part → Seen
with s part = record { part = part; from = s.from; extents = s.extents; steps = s.steps; shard = s.shard; replica = s.replica }

module _ (s : Seen) (v : ℕ) (x : List ℕ) (b : ℕ) (short : Short v) where
  longer : length (s.extents ++ (v ∷ [])) ≡ length s.extents + 1
  longer = length-append s.extents (v ∷ [])

  extent_comma : InExtents s (decimal v) x → b ≡ 44 → length s.extents + 1 < most s.part → InExtents (with_extent s v) [] ((x ++ (b ∷ [])) ++ [])
  extent_comma i e l =
      record {
        outer = i.outer;
        from0 = i.from0;
        none = i.none;
        room = omega (arith, longer);
        short = each_append Short s.extents (v ∷ []) i.short (short, tt);
        read = rw (map_append decimal s.extents (v ∷ [])) (comma_text (prefix s.part s.shard) (opening_bytes (parens s.part)) (map decimal s.extents) (decimal v) x b i.read e);
      }

  strides_begun : (part : Part) → InExtents (with s part) (decimal v) x → least_axis part ≤ length s.extents + 1 → InStrides part (with_extent (with s part) v)
  strides_begun part i l =
      record {
        outer = i.outer;
        from0 = i.from0;
        enough = omega (arith, longer);
        few = omega (arith, longer, i.room);
        room = omega (arith, longer, ap length i.none);
        short = each_append Short s.extents (v ∷ []) i.short (short, tt);
        fine = subst⁻¹ (λ (l : List Step). Each (Fine part) l) i.none tt;
      }

  strides_text : (part : Part) → InExtents (with s part) (decimal v) x → x ++ (closing (parens part) ++ (58 ∷ opening_bytes (parens part))) ≡ before_stride part (with_extent (with s part) v) ++ []
  strides_text part i =
      let o : List ℕ = opening_bytes (parens part) in
      let f : List ℕ = prefix part s.shard in
      let m : List ℕ = o ++ (joined (quoted_bytes ",") (map decimal s.extents ++ (decimal v ∷ [])) ++ closing (parens part)) in
      rw (map_append decimal s.extents (v ∷ []), i.none)
      (close_text (prefix part s.shard) o (closing (parens part)) (map decimal s.extents) (decimal v) x (58 ∷ o) i.read ∙ ap (λ (l : List ℕ). f ++ (m ++ (58 ∷ l))) (sym (append-nil o)) ∙ sym (append-nil (f ++ (m ++ (58 ∷ (o ++ []))))))

  extent_closed : (part : Part) → InExtents (with s part) (decimal v) x → b ≡ cond (parens part) 41 58 → least_axis part ≤ length s.extents + 1
      → InStep (with_extent (with s part) v) [] ((x ++ (b ∷ [])) ++ owing (cond (parens part) 27 0))
  extent_closed Shard i e l = record { before = strides_begun Shard i l; read = rw e (append_assoc x (41 ∷ []) (58 ∷ 40 ∷ []) ∙ strides_text Shard i) }
  extent_closed Several i e l = record { before = strides_begun Several i l; read = rw e (append_assoc x (41 ∷ []) (58 ∷ 40 ∷ []) ∙ strides_text Several i) }
  extent_closed Single i e l = record { before = strides_begun Single i l; read = rw e (append-nil (x ++ (58 ∷ [])) ∙ strides_text Single i) }
  extent_closed Offset i e l = absurd (omega (arith, i.room))

-- a replica's list
several_some : (l : List ℕ) → 2 ≤ length l → (several l ≡ true) × (is_none l ≡ false)
several_some l h = (lt-ltb 1 (length l) h, ne_eqb (length l) 0 (λ e. omega arith))

single_some : (l : List ℕ) → length l ≡ 1 → (several l ≡ false) × (is_none l ≡ false)
single_some l h = (rw h refl, rw h refl)

regroup : (f e w : List ℕ) → f ++ (e ++ (58 ∷ w)) ≡ (f ++ (e ++ (58 ∷ []))) ++ w
regroup f e w = sym (append_assoc f (e ++ (58 ∷ [])) w ∙ ap (λ (l : List ℕ). f ++ l) (append_assoc e (58 ∷ []) w))

module _ (s : Seen) (t : Step) (x : List ℕ) (b : ℕ) (part : Part) (i : InStrides part s) where
  abbrev outside : List ℕ
  outside = prefix part s.shard

  abbrev extents_text : List ℕ
  extents_text = enclosed (parens part) (map decimal s.extents)

  abbrev sofar : List (List ℕ)
  sofar = map spell_step s.steps

  one_step : map spell_step (s.steps ++ (t ∷ [])) ≡ sofar ++ (spell_step t ∷ [])
  one_step = map_append spell_step s.steps (t ∷ [])

  one_longer : length (s.steps ++ (t ∷ [])) ≡ length s.steps + 1
  one_longer = length-append s.steps (t ∷ [])

  regrouped : x ≡ before_stride part s ++ spell_step t → x ≡ ((outside ++ (extents_text ++ (58 ∷ []))) ++ (opening_bytes (parens part) ++ lead sofar)) ++ spell_step t
  regrouped e = e ∙ ap (λ (l : List ℕ). l ++ spell_step t) (regroup outside extents_text (opening_bytes (parens part) ++ lead sofar))

  -- the text of both lists, the last stride included
  strides_closed : x ≡ before_stride part s ++ spell_step t → (rest : List ℕ)
      → x ++ (closing (parens part) ++ rest) ≡ outside ++ (spell_lists (parens part) (here (with_step s t)) ++ rest)
  strides_closed e rest =
      let ts : List (List ℕ) = map spell_step (s.steps ++ (t ∷ [])) in
      close_text (outside ++ (extents_text ++ (58 ∷ []))) (opening_bytes (parens part)) (closing (parens part)) sofar (spell_step t) x rest (regrouped e)
      ∙ ap (λ (k : List (List ℕ)). (outside ++ (extents_text ++ (58 ∷ []))) ++ (enclosed (parens part) k ++ rest)) (sym one_step)
      ∙ sym (regroup outside extents_text (enclosed (parens part) ts ++ rest))
      ∙ ap (λ (k : List ℕ). outside ++ k) (sym (append_assoc extents_text (58 ∷ enclosed (parens part) ts) rest))

  strides_limits : Fine part t → length s.steps + 1 ≡ length s.extents → Limits (most part) (Fine part) (here (with_step s t))
  strides_limits f l =
      record { few = i.few; same = one_longer ∙ l; short = i.short; sound = each_append (Fine part) s.steps (t ∷ []) i.fine (f, tt) }

  stride_comma : in_offset s.part ≡ false → Fine part t → x ≡ before_stride part s ++ spell_step t → b ≡ 44 → length s.steps + 1 < length s.extents
      → InStrides part (with_step s t) × ((x ++ (b ∷ [])) ++ [] ≡ before_stride part (with_step s t) ++ [])
  stride_comma list f e h l =
      let ts : List (List ℕ) = map spell_step (s.steps ++ (t ∷ [])) in (
        record {
          outer = i.outer;
          from0 = ap (λ (c : Bool). cond c (axis_meant t.place + 1) s.from) list ∙ i.from0;
          enough = i.enough;
          few = i.few;
          room = omega (arith, one_longer);
          short = i.short;
          fine = each_append (Fine part) s.steps (t ∷ []) i.fine (f, tt);
        },
        comma_text (outside ++ (extents_text ++ (58 ∷ []))) (opening_bytes (parens part)) sofar (spell_step t) x b (regrouped e) h
            ∙ ap (λ (k : List (List ℕ)). ((outside ++ (extents_text ++ (58 ∷ []))) ++ (opening_bytes (parens part) ++ lead k)) ++ []) (sym one_step)
            ∙ ap (λ (k : List ℕ). k ++ []) (sym (regroup outside extents_text (opening_bytes (parens part) ++ lead ts))),
      )

-- a stride or an offset begins, with a minus or a digit
stride_begun : (p : Piece) (s : Seen) (x : List ℕ) (b : ℕ) (e : Event) (P : Move → Type 0)
    → (Shape Minus (with_sign p true) s ((x ++ (b ∷ [])) ++ []) → P (go Minus 0 (with_sign p true) e))
    → (Shape Size (with_sign (with_number p (digit_of b)) false) s ((x ++ (b ∷ [])) ++ []) → P (go Size 0 (with_sign (with_number p (digit_of b)) false) e))
    → P (stuck p) → InStep s [] x → P (begun_move e p b)
stride_begun p s x b e P f g h i =
    pick P (eqb b 45) (λ q. f (refl, step_more (45 ∷ []) [] b i (rw (eqb-true b 45 q))))
    (λ _. pick P (ltb (digit_of b) 10)
    (λ q. g (((digit_first b q).0, λ n. absurd (false≢true n)), step_more (decimal (digit_of b)) [] b i (digit_first b q).1))
    (λ _. h))

module _ (p : Piece) (s : Seen) (x : List ℕ) (b : ℕ) where
  abbrev After : Move → Type 0
  After m = Good (enter s m) (x ++ (b ∷ []))

  good_first : Shape First p s x → After (first_move p b)
  good_first i = pick After (ltb (digit_of b) 10) (λ e. ((digit_first b e).0, extents_more (decimal (digit_of b)) b i (digit_first b e).1)) (λ e. tt)

  good_begun : Shape Begun p s x → After (begun_move Same p b)
  good_begun i = stride_begun p s x b Same After (λ g. g) (λ g. g) tt i

  good_minus : Shape Minus p s x → After (minus_move p b)
  good_minus i =
      pick_both After (leb 1 (digit_of b)) (ltb (digit_of b) 10)
      (λ q e. (((digit_first b e).0, λ _. leb-true 1 (digit_of b) q), step_more (spell_signed p.negative (digit_of b)) [] b i.1 (rw i.0 (ap (λ (l : List ℕ). 45 ∷ l) (digit_first b e).1))))
      tt

  good_at : Shape At p s x → After (at_move p (spot_of s) b)
  good_at i =
      pick_both After (eqb b 84) (leb s.from 6)
      (λ e l. (leb-true s.from 6 l, i.0, step_more (sign p ++ (64 ∷ 84 ∷ [])) [] b i.1 (rw (eqb-true b 84 e) (append_assoc (sign p) (64 ∷ []) (84 ∷ [])))))
      (pick_both After (ltb (initial_of b) 8) (leb s.from (initial_of b))
      (λ e l. (leb-true s.from (initial_of b) l, omega (arith, ltb-true (initial_of b) 8 e), i.0, step_more (sign p ++ (64 ∷ name (initial_of b))) (owing (rest_of (initial_of b))) b i.1 (append_assoc (sign p) (64 ∷ []) (b ∷ owing (rest_of (initial_of b))) ∙ ap (λ (l : List ℕ). sign p ++ (64 ∷ l)) (name_first b e))))
      tt)

  good_tee : Shape Tee p s x → After (tee_move p (spot_of s) b)
  good_tee i =
      pick After (eqb b 67) (λ e. (i.0, omega arith, i.1, step_more (sign p ++ (64 ∷ name 6)) (owing 20) b i.2 (rw (eqb-true b 67 e) (append_assoc (sign p) (64 ∷ 84 ∷ []) (67 ∷ 111 ∷ 108 ∷ [])))))
      (λ _. pick_both After (eqb b 76) (leb s.from 5)
      (λ e l. (leb-true s.from 5 l, omega arith, i.1, step_more (sign p ++ (64 ∷ name 5)) (owing 16) b i.2 (rw (eqb-true b 76 e) (append_assoc (sign p) (64 ∷ 84 ∷ []) (76 ∷ 97 ∷ 110 ∷ 101 ∷ [])))))
      tt)

  good_closed : Shape Closed p s x → After (closed_move p b)
  good_closed i = pick After (eqb b 43) (λ e. (i.0, i.1, i.2, append-nil (x ++ (b ∷ [])) ∙ rw (i.3, eqb-true b 43 e))) (λ _. tt)

  good_extent : Shape Extent p s x → After (extent_move p (spot_of s) b)
  good_extent i =
      pick After (continues p.value (digit_of b))
      (λ e. ((digit_more p.value b e).0, extents_more (decimal (p.value * 10 + digit_of b)) b i.1 (digit_more p.value b e).1))
      (λ _. pick_both After (eqb b 44) (ltb (length s.extents + 1) (most s.part))
      (λ e l. extent_comma s p.value x b i.0 i.1 (eqb-true b 44 e) (ltb-true (length s.extents + 1) (most s.part) l))
      (pick_both After (eqb b (cond (parens s.part) 41 58)) (leb (least_axis s.part) (length s.extents + 1))
      (λ e l. extent_closed s p.value x b i.0 s.part i.1 (eqb-true b (cond (parens s.part) 41 58) e) (leb-true (least_axis s.part) (length s.extents + 1) l))
      tt))

each_map : {A : Type 0} (P Q : A → Type 0) (f : (a : A) → P a → Q a) (l : List A) → Each P l → Each Q l
each_map P Q f [] e = tt
each_map P Q f (a ∷ l) e = (f a e.0, each_map P Q f l e.1)

-- an offset is finished
pub offset_text : (f r : List ℕ) (ss : List Step) (t : Step) (x : List ℕ) → x ≡ ((f ++ (r ++ spell_offsets ss)) ++ (43 ∷ [])) ++ spell_step t → x ≡ f ++ (r ++ spell_offsets (ss ++ (t ∷ [])))
offset_text f r ss t x e =
    e ∙ append_assoc (f ++ (r ++ spell_offsets ss)) (43 ∷ []) (spell_step t) ∙ append_assoc f (r ++ spell_offsets ss) (43 ∷ spell_step t)
    ∙ ap (λ (l : List ℕ). f ++ l) (append_assoc r (spell_offsets ss) (43 ∷ spell_step t) ∙ ap (λ (l : List ℕ). r ++ l) (sym (offsets_mid ss t)))

-- a byte after a stride or offset
module _ (p : Piece) (place : NamedAxis) (x : List ℕ) (b : ℕ) where
  abbrev t : Step
  t = step_of p place

  abbrev Then : Seen → Move → Type 0
  Then s m = Good (enter s m) (x ++ (b ∷ []))

  abbrev lists : Seen → Lists
  lists s = here (with_step s t)

  -- the replica's text
  replica_several : (s : Seen) → 2 ≤ length s.extents → 43 ∷ 82 ∷ 91 ∷ (spell_lists true (lists s) ++ (93 ∷ [])) ≡ spell_replica (lists s)
  replica_several s h = rw ((several_some s.extents h).0, (several_some s.extents h).1)

  replica_single : (s : Seen) → length s.extents ≡ 1 → 43 ∷ 82 ∷ 91 ∷ (spell_lists false (lists s) ++ (93 ∷ [])) ≡ spell_replica (lists s)
  replica_single s h = rw ((single_some s.extents h).0, (single_some s.extents h).1)

  good_follow : (part : Part) (s : Seen) → Before part (with s part) → Fine part t → x ≡ front part (with s part) ++ spell_step t → s.from ≤ axis_meant place → Then (with s part) (follow part place p (spot_of (with s part)) b)
  good_follow Shard s₀ i f e low =
      let s : Seen = with s₀ Shard in
      pick_both (Then s) (eqb b 44) (ltb (length s.steps + 1) (length s.extents))
      (λ q l. let k = stride_comma s t x b Shard i refl f e (eqb-true b 44 q) (ltb-true (length s.steps + 1) (length s.extents) l) in record { before = k.0; read = k.1 })
      (pick_both (Then s) (eqb b 41) (eqb (length s.steps + 1) (length s.extents))
      (λ q l.
      let n : length s.steps + 1 ≡ length s.extents = eqb-true (length s.steps + 1) (length s.extents) l in
      (record { some = omega (arith, i.room); limits = strides_limits s t x b Shard i f n }, refl, refl, rw (eqb-true b 41 q) (append_assoc x (41 ∷ []) (93 ∷ []) ∙ strides_closed s t x b Shard i e (93 ∷ []))))
      tt)
  good_follow Several s₀ i f e low =
      let s : Seen = with s₀ Several in
      pick_both (Then s) (eqb b 44) (ltb (length s.steps + 1) (length s.extents))
      (λ q l. let k = stride_comma s t x b Several i refl f e (eqb-true b 44 q) (ltb-true (length s.steps + 1) (length s.extents) l) in record { before = k.0; read = k.1 })
      (pick_both (Then s) (eqb b 41) (eqb (length s.steps + 1) (length s.extents))
      (λ q l.
      let n : length s.steps + 1 ≡ length s.extents = eqb-true (length s.steps + 1) (length s.extents) l in (
        i.outer,
        strides_limits s t x b Several i f n,
        refl,
        rw (eqb-true b 41 q) (append_assoc x (41 ∷ []) (93 ∷ []) ∙ strides_closed s t x b Several i e (93 ∷ [])
            ∙ append_assoc (spell_shard s.shard) (43 ∷ 82 ∷ 91 ∷ []) (spell_lists true (lists s) ++ (93 ∷ []))
            ∙ ap (λ (l : List ℕ). spell_shard s.shard ++ l) (replica_several s i.enough)),
      ))
      tt)
  good_follow Single s₀ i f e low =
      let s : Seen = with s₀ Single in
      pick_both (Then s) (eqb b 44) (ltb (length s.steps + 1) (length s.extents))
      (λ q l. let k = stride_comma s t x b Single i refl f e (eqb-true b 44 q) (ltb-true (length s.steps + 1) (length s.extents) l) in record { before = k.0; read = k.1 })
      (pick_both (Then s) (eqb b 93) (eqb (length s.steps + 1) (length s.extents))
      (λ q l.
      let n : length s.steps + 1 ≡ length s.extents = eqb-true (length s.steps + 1) (length s.extents) l in
      let k = strides_limits s t x b Single i f n in (
        i.outer,
        record { few = omega (arith, k.few); same = k.same; short = k.short; sound = k.sound },
        refl,
        rw (eqb-true b 93 q) (append-nil (x ++ (93 ∷ [])) ∙ strides_closed s t x b Single i e (93 ∷ [])
            ∙ append_assoc (spell_shard s.shard) (43 ∷ 82 ∷ 91 ∷ []) (spell_lists false (lists s) ++ (93 ∷ []))
            ∙ ap (λ (l : List ℕ). spell_shard s.shard ++ l) (replica_single s (omega (arith, i.enough, i.few)))),
      ))
      tt)
  good_follow Offset s₀ i f e low =
      let s : Seen = with s₀ Offset in
      pick_both (Then s) (eqb b 43) (ltb (axis_meant place) 7)
      (λ q l.
      record {
        before = record {
          shard = i.shard;
          replica = i.replica;
          fine = each_append Plain s.steps (t ∷ []) i.fine (f, tt);
          rising = rising_snoc 0 s.steps s.from t i.rising low;
          low = omega (arith, ltb-true (axis_meant place) 7 l);
        };
        read =
            let f : List ℕ = spell_shard s.shard in
            let r : List ℕ = spell_replica s.replica in
            let w : x ++ (b ∷ []) ≡ (f ++ (r ++ spell_offsets (s.steps ++ (t ∷ [])))) ++ (43 ∷ [])
            = ap (λ (c : ℕ). x ++ (c ∷ [])) (eqb-true b 43 q) ∙ ap (λ (l : List ℕ). l ++ (43 ∷ [])) (offset_text f r s.steps t x e) in
            ap (λ (l : List ℕ). l ++ []) w;
      })
      tt

fine_plain : (part : Part) (t : Step) → Sound t → is_marked t.place ≡ false → Fine part t
fine_plain Shard t h u = h
fine_plain Several t h u = (h, u)
fine_plain Single t h u = (h, u)
fine_plain Offset t h u = (h, u)

pub from_low : (s : Seen) → (part : Part) → Before part s → s.from ≤ 7
from_low s Shard i = omega (arith, i.from0)
from_low s Several i = omega (arith, i.from0)
from_low s Single i = omega (arith, i.from0)
from_low s Offset i = i.low

module _ (p : Piece) (s : Seen) (x : List ℕ) (b : ℕ) where
  good_size : Shape Size p s x → Good (enter s (size_move p (spot_of s) b)) (x ++ (b ∷ []))
  good_size i =
      let P : Move → Type 0 = λ m. Good (enter s m) (x ++ (b ∷ [])) in
      pick P (continues p.value (digit_of b))
      (λ e. (((digit_more p.value b e).0, λ q. omega (arith, i.0.1 q)), step_more (spell_signed p.negative (p.value * 10 + digit_of b)) [] b i.1 (append_assoc (cond p.negative (45 ∷ []) []) (decimal p.value) (b ∷ []) ∙ ap (λ (l : List ℕ). cond p.negative (45 ∷ []) [] ++ l) (digit_more p.value b e).1)))
      (λ _. pick P (eqb b 64) (λ e. (i.0, step_more (sign p ++ (64 ∷ [])) [] b i.1 (rw (eqb-true b 64 e))))
      (λ _. good_follow p Bare x b s.part s i.1.before (fine_plain s.part (step_of p Bare) (i.0.0, i.0.1, omega arith) refl) (i.1.read ∙ ap (λ (l : List ℕ). front s.part s ++ l) (sym (append-nil (sign p)))) (from_low s s.part i.1.before)))

  good_named : Shape Named p s x → Good (enter s (named_move p (spot_of s) b)) (x ++ (b ∷ []))
  good_named i =
      let P : Move → Type 0 = λ m. Good (enter s m) (x ++ (b ∷ [])) in
      pick_both P (eqb b 42) (is_shard s.part)
      (λ e l. (is_shard_lem s.part l, i.1, i.2, step_more (sign p ++ (64 ∷ (name p.axis ++ (42 ∷ [])))) [] b i.3 (rw (eqb-true b 42 e) (append_assoc (sign p) (64 ∷ name p.axis) (42 ∷ [])))))
      (good_follow p (OnAxis p.axis) x b s.part s i.3.before (fine_plain s.part (step_of p (OnAxis p.axis)) (i.2.0, i.2.1, i.1) refl) i.3.read i.0)
    where
      is_shard_lem : (q : Part) → is_shard q ≡ true → q ≡ Shard
      is_shard_lem Shard e = refl
      is_shard_lem Several e = absurd (false≢true e)
      is_shard_lem Single e = absurd (false≢true e)
      is_shard_lem Offset e = absurd (false≢true e)

  good_starred : Shape Starred p s x → Good (enter s (starred_move p (spot_of s) b)) (x ++ (b ∷ []))
  good_starred i =
      let k = star s.part i.0 i.3.before in
      good_follow p (Marked p.axis) x b s.part s i.3.before k.0 i.3.read k.1
    where
      star : (q : Part) → q ≡ Shard → Before q s → Fine q (step_of p (Marked p.axis)) × (s.from ≤ p.axis)
      star Shard e c = ((i.2.0, i.2.1, i.1), omega (arith, c.from0))
      star Several e c = absurd (false≢true (ap is_shard e))
      star Single e c = absurd (false≢true (ap is_shard e))
      star Offset e c = absurd (false≢true (ap is_shard e))

  good_plus : Shape Plus p s x → Good (enter s (plus_move p b)) (x ++ (b ∷ []))
  good_plus i =
      pick (λ (m : Move). Good (enter s m) (x ++ (b ∷ []))) (eqb b 82)
      (λ e. (i.0, i.1, i.2, append_assoc x (b ∷ []) (91 ∷ []) ∙ rw (i.3, eqb-true b 82 e) (append_assoc (spell_shard (said s).shard) (43 ∷ []) (82 ∷ 91 ∷ []))))
      (λ _. stride_begun p (as_part s Offset) x b (APart Offset) (λ (m : Move). Good (enter s m) (x ++ (b ∷ []))) (λ g. g) (λ g. g) tt (offsets_begun i))
    where
      offsets_begun : Shape Plus p s x → InStep (as_part s Offset) [] x
      offsets_begun i =
          let f : List ℕ = spell_shard (said s).shard in
          let r : List ℕ = spell_replica (said s).replica in
          let none : r ≡ [] = ap (λ (k : Lists). spell_replica k) i.1 in
          record {
            before = record { shard = i.0; replica = subst (λ (k : Lists). Limits 4 Plain k) (sym i.1) (record { few = omega arith; same = refl; short = tt; sound = tt }); fine = tt; rising = omega arith; low = omega arith };
            read = i.3 ∙ ap (λ (l : List ℕ). l ++ (43 ∷ [])) (sym (append-nil f) ∙ ap (λ (l : List ℕ). f ++ (l ++ [])) (sym none)) ∙ sym (append-nil ((f ++ (r ++ [])) ++ (43 ∷ [])));
          }

  good_opened : Shape Opened p s x → Good (enter s (opened_move p b)) (x ++ (b ∷ []))
  good_opened i =
      pick (λ (m : Move). Good (enter s m) (x ++ (b ∷ []))) (eqb b 40)
      (λ e. record { outer = i.0; from0 = refl; none = refl; room = omega arith; short = tt; read = rw (i.3, eqb-true b 40 e) })
      (λ _. pick (λ (m : Move). Good (enter s m) (x ++ (b ∷ []))) (ltb (digit_of b) 10)
      (λ e. ((digit_first b e).0, record { outer = i.0; from0 = refl; none = refl; room = omega arith; short = tt; read = append-nil (x ++ (b ∷ [])) ∙ ap (λ (l : List ℕ). l ++ (b ∷ [])) i.3 ∙ ap (λ (l : List ℕ). (spell_shard (said s).shard ++ (43 ∷ 82 ∷ 91 ∷ [])) ++ l) (digit_first b e).1 ∙ ap (λ (l : List ℕ). l ++ decimal (digit_of b)) (sym (append-nil (spell_shard (said s).shard ++ (43 ∷ 82 ∷ 91 ∷ [])))) }))
      (λ _. tt))

  good_ended : Shape Ended p s x → Good (enter s (ended_move p b)) (x ++ (b ∷ []))
  good_ended i =
      pick (λ (m : Move). Good (enter s m) (x ++ (b ∷ []))) (eqb b 43)
      (λ e. record { before = record { shard = i.0; replica = i.1; fine = tt; rising = omega arith; low = omega arith }; read = ap (λ (l : List ℕ). l ++ []) (ap (λ (c : ℕ). x ++ (c ∷ [])) (eqb-true b 43 e) ∙ ap (λ (l : List ℕ). l ++ (43 ∷ [])) (i.3 ∙ ap (λ (l : List ℕ). spell_shard (said s).shard ++ l) (sym (append-nil (spell_replica (said s).replica))))) })
      (λ _. tt)

-- a byte that is owed
owing_next : (owed : ℕ) → eqb (letter owed) 0 ≡ false → owing owed ≡ letter owed ∷ owing (owed % 64 + 1)
owing_next owed e =
    let i : ℕ = owed % 64 in
    let inside : i < 64 = omega arith in
    let small : i + 1 < 64 = by i inside e in
    let same : (i + 1) % 64 ≡ suc i = omega arith in
    rw same (next words_to_follow i inside e)
  where
    next : (l : List ℕ) (i : ℕ) → i < length l → eqb (get_or l i 0) 0 ≡ false → up_to (drop i l) ≡ get_or l i 0 ∷ up_to (drop (suc i) l)
    next l i h e = ap up_to (drop-cons l i 0 h) ∙ ap (λ (t : Bool). cond t [] (get_or l i 0 ∷ up_to (drop (suc i) l))) e

    by : (i : ℕ) → i < 64 → eqb (get_or words_to_follow i 0) 0 ≡ false → i + 1 < 64
    by i h e =
        ⊎_elim
        (λ (last : i ≡ 63). absurd (false≢true (sym (subst (λ (k : ℕ). eqb (get_or words_to_follow k 0) 0 ≡ false) last e))))
        (λ (l : i < 63). omega arith)
        (eq-or-lt_of_le {n = i} {m = 63} (omega arith))

pub owing_none : (owed : ℕ) → eqb (letter owed) 0 ≡ true → owing owed ≡ []
owing_none owed e =
    let inside : owed % 64 < 64 = omega arith in
    ap up_to (drop-cons words_to_follow (owed % 64) 0 inside) ∙ ap (λ (t : Bool). cond t [] (letter owed ∷ up_to (drop (suc (owed % 64)) words_to_follow))) e

pub good_step : (r : State) (t : List ℕ) (b : ℕ) → Good r t → Good (stepped r b) (t ++ (b ∷ []))
unfolding stepped moved
good_step r t b g =
    pick (λ (m : Move). Good (enter r.seen m) (t ++ (b ∷ []))) (eqb (letter r.owed) 0)
    (λ e. go_on r.phase r.piece r.seen (subst (λ (l : List ℕ). Shape r.phase r.piece r.seen l) (rw (owing_none r.owed e) (append-nil t)) g))
    (λ e. pick (λ (m : Move). Good (enter r.seen m) (t ++ (b ∷ []))) (eqb b (letter r.owed))
    (λ f. subst (λ (l : List ℕ). Shape r.phase r.piece r.seen l) (rw (owing_next r.owed e, eqb-true b (letter r.owed) f) (sym (append_assoc t (letter r.owed ∷ []) (owing (r.owed % 64 + 1))))) g)
    (λ f. tt))
  where
    go_on : (q : Phase) (p : Piece) (s : Seen) → Shape q p s t → Good (enter s (phase_move q p (spot_of s) b)) (t ++ (b ∷ []))
    go_on First p s i = good_first p s t b i
    go_on Extent p s i = good_extent p s t b i
    go_on Begun p s i = good_begun p s t b i
    go_on Minus p s i = good_minus p s t b i
    go_on Size p s i = good_size p s t b i
    go_on At p s i = good_at p s t b i
    go_on Tee p s i = good_tee p s t b i
    go_on Named p s i = good_named p s t b i
    go_on Starred p s i = good_starred p s t b i
    go_on Closed p s i = good_closed p s t b i
    go_on Plus p s i = good_plus p s t b i
    go_on Opened p s i = good_opened p s t b i
    go_on Ended p s i = good_ended p s t b i
    go_on Stuck p s i = tt
