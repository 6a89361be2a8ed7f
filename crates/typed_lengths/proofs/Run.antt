-- What a run of the reader over a line says of it: over eight lengths it ends with these, and where it ends with eight lengths the line spells them.
use Prim.Native.Nat.{ℕ, zero, suc, ◌+◌, ◌-◌, ◌*◌, ◌≤◌, ◌<◌}
use mathlib.Core.Path.{◌≡◌, refl, sym, ap, ◌∙◌, subst, subst⁻¹}
use mathlib.Core.Bool.{Bool, true, false, cond, ◌&&◌, false≢true, true≢false}
use mathlib.Core.List.{List, [], ◌∷◌, ◌++◌, append-nil, append_assoc, map}
use native.Mathlib.Omega.{arith}
use native.Mathlib.Numerals.{add-one}
use borrow.Author.Tests.{lt-ltb, le-leb, ltb-true, ltb-false, leb-true, eqb-true}
use lib.Dec.{leb, ltb, eqb}
use lib.ListN.{length, get_or, set, take, replicate, length-set}
use lib.Seq.{take-suc, take-suc-set, take_all}
use Rattle.notation.specs.Quoted.{quoted_bytes}
use Rattle.notation.specs.Text.{decimal, Short, Each, tails, joined}
use Rattle.notation.specs.Machine.{digit_of, continues, runs}
use Rattle.notation.proofs.Exact.{runs_append}
use Rattle.notation.proofs.Numbers.{decimal_digit, decimal_snoc, reads_number}
use Rattle.notation.proofs.Steps.{digit_of_lem}
use Rattle.notation.proofs.Lists.{pick, pick_both, both, each_append}
use Rattle.typed_lengths.specs.Line.{LineSays, LengthsCome, LengthsAnswered}
use Rattle.typed_lengths.specs.Machine.{line_at, zeros, halted, line_start, before_move, inside_move, line_phase_move, line_stepped, is_inside, line_concluded}
use Rattle.typed_lengths.specs.declared.LinePhase.{LinePhase}
use Rattle.typed_lengths.specs.declared.LinePhase.TheVariants.{Before, Inside, Stuck}
use Rattle.typed_lengths.specs.declared.LineReader.{LineReader}
use Rattle.typed_lengths.specs.declared.LineOfLengths.{LineOfLengths}

-- numbers after spaces, and numbers parted by them
abbrev pub further : List ℕ → List ℕ
further ns = tails (quoted_bytes " ") (map decimal ns)

abbrev pub spaced : List ℕ → List ℕ
spaced ns = joined (quoted_bytes " ") (map decimal ns)

-- over eight lengths

going_on : (v d : ℕ) → 1 ≤ v → v < 10000 → d < 10 → continues v (digit_of (48 + d)) ≡ true
going_on v d p l h = rw (digit_of_lem d h, lt-ltb d 10 h, le-leb 1 v p, lt-ltb v 10000 l)

number_run : (c : ℕ) (l : List ℕ) (v : ℕ) → Short v → runs line_stepped (line_at Before 0 c l) (decimal v) ≡ line_at Inside v c l
unfolding line_stepped
number_run c l v short =
    reads_number line_stepped (line_at Before 0 c l) (λ w. line_at Inside w c l) 0 (omega arith)
    (λ d _ h. rw (digit_of_lem d h, lt-ltb d 10 h)) (λ w d p q h. rw (going_on w d p q h, digit_of_lem d h)) v (omega arith) short

space_step : (v c : ℕ) (l : List ℕ) → c < 7 → line_stepped (line_at Inside v c l) 32 ≡ line_at Before 0 (c + 1) (set l c v)
unfolding line_stepped
space_step v c l h = rw (lt-ltb c 7 h)

-- the last of the numbers, and the others in their slots
abbrev final : ℕ → List ℕ → ℕ
final n [] = n
final n (m ∷ ms) = final m ms

abbrev filled : ℕ → List ℕ → ℕ → List ℕ → List ℕ
filled c l n [] = l
filled c l n (m ∷ ms) = filled (c + 1) (set l c n) m ms

numbers_run : (ns : List ℕ) (n c : ℕ) (l : List ℕ) → c + length ns ≤ 7 → Short n → Each Short ns
    → runs line_stepped (line_at Before 0 c l) (decimal n ++ further ns) ≡ line_at Inside (final n ns) (c + length ns) (filled c l n ns)
numbers_run [] n c l few s ss =
    ap (λ (t : List ℕ). runs line_stepped (line_at Before 0 c l) t) (append-nil (decimal n)) ∙ number_run c l n s ∙ ap (λ (k : ℕ). line_at Inside n k l) (omega arith)
numbers_run (m ∷ ms) n c l few s ss =
    runs_append line_stepped (line_at Before 0 c l) (decimal n) (32 ∷ (decimal m ++ further ms))
    ∙ ap (λ (r : LineReader). runs line_stepped (line_stepped r 32) (decimal m ++ further ms)) (number_run c l n s)
    ∙ ap (λ (r : LineReader). runs line_stepped r (decimal m ++ further ms)) (space_step n c l (omega arith))
    ∙ numbers_run ms m (c + 1) (set l c n) (omega arith) ss.0 ss.1
    ∙ ap (λ (k : ℕ). line_at Inside (final m ms) k (filled (c + 1) (set l c n) m ms)) (omega arith)

pub complete : (line lengths : List ℕ) → LineSays line lengths → line_concluded (runs line_stepped line_start line) ≡ record { correct = true; lengths = lengths }
complete line lengths s = ap (λ (t : List ℕ). line_concluded (runs line_stepped line_start t)) s.spelled ∙ by lengths s.eight s.short
  where
    eighth : (a b c d e f g h : ℕ) → Each Short (a ∷ b ∷ c ∷ d ∷ e ∷ f ∷ g ∷ h ∷ [])
        → line_concluded (runs line_stepped line_start (spaced (a ∷ b ∷ c ∷ d ∷ e ∷ f ∷ g ∷ h ∷ []))) ≡ record { correct = true; lengths = a ∷ b ∷ c ∷ d ∷ e ∷ f ∷ g ∷ h ∷ [] }
    eighth a b c d e f g h s = ap line_concluded (numbers_run (b ∷ c ∷ d ∷ e ∷ f ∷ g ∷ h ∷ []) a 0 zeros (omega arith) s.0 s.1)

    by : (l : List ℕ) → length l ≡ 8 → Each Short l → line_concluded (runs line_stepped line_start (spaced l)) ≡ record { correct = true; lengths = l }
    by [] e s = absurd (omega arith)
    by (a ∷ []) e s = absurd (omega arith)
    by (a ∷ b ∷ []) e s = absurd (omega arith)
    by (a ∷ b ∷ c ∷ []) e s = absurd (omega arith)
    by (a ∷ b ∷ c ∷ d ∷ []) e s = absurd (omega arith)
    by (a ∷ b ∷ c ∷ d ∷ f ∷ []) e s = absurd (omega arith)
    by (a ∷ b ∷ c ∷ d ∷ f ∷ g ∷ []) e s = absurd (omega arith)
    by (a ∷ b ∷ c ∷ d ∷ f ∷ g ∷ h ∷ []) e s = absurd (omega arith)
    by (a ∷ b ∷ c ∷ d ∷ f ∷ g ∷ h ∷ i ∷ []) e s = eighth a b c d f g h i s
    by (a ∷ b ∷ c ∷ d ∷ f ∷ g ∷ h ∷ i ∷ j ∷ k) e s = absurd (omega arith)

-- and back: what has been read

abbrev lead : List ℕ → List ℕ
lead [] = []
lead (n ∷ ns) = decimal n ++ (32 ∷ lead ns)

lead_snoc : (ns : List ℕ) (n : ℕ) → lead (ns ++ (n ∷ [])) ≡ lead ns ++ (decimal n ++ (32 ∷ []))
lead_snoc [] n = refl
lead_snoc (m ∷ ns) n = ap (λ (t : List ℕ). decimal m ++ (32 ∷ t)) (lead_snoc ns n) ∙ sym (append_assoc (decimal m) (32 ∷ lead ns) (decimal n ++ (32 ∷ [])))

further_snoc : (ns : List ℕ) (n : ℕ) → further (ns ++ (n ∷ [])) ≡ 32 ∷ (lead ns ++ decimal n)
further_snoc [] n = ap (λ (t : List ℕ). 32 ∷ t) (append-nil (decimal n))
further_snoc (m ∷ ns) n =
    ap (λ (t : List ℕ). 32 ∷ (decimal m ++ t)) (further_snoc ns n) ∙ ap (λ (t : List ℕ). 32 ∷ t) (sym (append_assoc (decimal m) (32 ∷ lead ns) (decimal n)))

spaced_snoc : (ns : List ℕ) (n : ℕ) → spaced (ns ++ (n ∷ [])) ≡ lead ns ++ decimal n
spaced_snoc [] n = append-nil (decimal n)
spaced_snoc (m ∷ ns) n = ap (λ (t : List ℕ). decimal m ++ t) (further_snoc ns n) ∙ sym (append_assoc (decimal m) (32 ∷ lead ns) (decimal n))

-- a slot that is filled
take_filled : (l : List ℕ) (k v : ℕ) → k < length l → take (k + 1) (set l k v) ≡ take k l ++ (v ∷ [])
take_filled l k v h = rw (add-one k) (take-suc-set l k v h)

record Kept (r : LineReader) : Type 0 where
  few : r.count ≤ 7
  eight : length r.lengths ≡ 8
  short : Each Short (take r.count r.lengths)

abbrev before : LineReader → List ℕ
before r = lead (take r.count r.lengths)

abbrev Read : LinePhase → LineReader → List ℕ → Type 0
Read Before r t = Kept r × (t ≡ before r)
Read Inside r t = Kept r × Short r.value × (t ≡ before r ++ decimal r.value)
Read Stuck r t = Unit {0}

abbrev Good : LineReader → List ℕ → Type 0
Good r t = Read r.phase r t

digit_byte : (b : ℕ) → digit_of b < 10 → 48 + digit_of b ≡ b
digit_byte b h = by (ltb b 48) (ltb 57 b) refl refl
  where
    by : (t u : Bool) → ltb b 48 ≡ t → ltb 57 b ≡ u → 48 + digit_of b ≡ b
    by true u e f = let z : digit_of b ≡ 10 = rw e in absurd (omega (arith, z, h))
    by false true e f = let z : digit_of b ≡ 10 = rw (e, f) in absurd (omega (arith, z, h))
    by false false e f = let z : digit_of b ≡ b - 48 = rw (e, f) in omega (arith, z, ltb-false b 48 e)

before_good : (r : LineReader) (t : List ℕ) (b : ℕ) → Kept r → t ≡ before r → Good (before_move r b) (t ++ (b ∷ []))
before_good r t b k e =
    pick (λ (s : LineReader). Good s (t ++ (b ∷ []))) (ltb (digit_of b) 10)
    (λ h.
    let digit : digit_of b < 10 = ltb-true (digit_of b) 10 h in
    let one : (b ∷ []) ≡ decimal (digit_of b) = ap (λ (c : ℕ). c ∷ []) (sym (digit_byte b digit)) ∙ sym (decimal_digit (digit_of b) digit) in
    (record { few = k.few; eight = k.eight; short = k.short }, omega arith, ap (λ (x : List ℕ). x ++ (b ∷ [])) e ∙ ap (λ (x : List ℕ). before r ++ x) one))
    (λ _. tt)

inside_good : (r : LineReader) (t : List ℕ) (b : ℕ) → Kept r → Short r.value → t ≡ before r ++ decimal r.value → Good (inside_move r b) (t ++ (b ∷ []))
inside_good r t b k s e =
    pick (λ (q : LineReader). Good q (t ++ (b ∷ []))) (continues r.value (digit_of b))
    (λ h.
    let d = digit_of b in
    let v = r.value in
    let one = both (ltb d 10) (leb 1 v && ltb v 10000) h in
    let two = both (leb 1 v) (ltb v 10000) one.1 in
    let digit : digit_of b < 10 = ltb-true d 10 one.0 in
    let some : 1 ≤ r.value = leb-true 1 v two.0 in
    let small : r.value < 10000 = ltb-true v 10000 two.1 in
    let longer : decimal v ++ (b ∷ []) ≡ decimal (v * 10 + d) = ap (λ (c : ℕ). decimal v ++ (c ∷ [])) (sym (digit_byte b digit)) ∙ sym (decimal_snoc v d some small digit) in (
      record { few = k.few; eight = k.eight; short = k.short },
      omega arith,
      ap (λ (x : List ℕ). x ++ (b ∷ [])) e ∙ append_assoc (before r) (decimal v) (b ∷ []) ∙ ap (λ (x : List ℕ). before r ++ x) longer,
    ))
    (λ _. pick_both (λ (q : LineReader). Good q (t ++ (b ∷ []))) (eqb b 32) (ltb r.count 7)
    (λ space room.
    let v = r.value in
    let c = r.count in
    let l = r.lengths in
    let below : c < 7 = ltb-true c 7 room in
    let fits : c < length l = omega (arith, k.eight) in
    let is : b ≡ 32 = eqb-true b 32 space in
    let slots : take (c + 1) (set l c v) ≡ take c l ++ (v ∷ []) = take_filled l c v fits in (
      record {
        few = omega arith;
        eight = length-set l c v ∙ k.eight;
        short = subst⁻¹ (λ (x : List ℕ). Each Short x) slots (each_append Short (take c l) (v ∷ []) k.short (s, tt));
      },
      ap (λ (x : List ℕ). x ++ (b ∷ [])) e ∙ append_assoc (before r) (decimal v) (b ∷ []) ∙ ap (λ (y : ℕ). before r ++ (decimal v ++ (y ∷ []))) is
          ∙ sym (lead_snoc (take c l) v) ∙ ap lead (sym slots),
    ))
    tt)

good_step : (r : LineReader) (t : List ℕ) (b : ℕ) → Good r t → Good (line_stepped r b) (t ++ (b ∷ []))
unfolding line_stepped
good_step r t b g = by r.phase g
  where
    by : (q : LinePhase) → Read q r t → Good (line_phase_move q r b) (t ++ (b ∷ []))
    by Before g = before_good r t b g.0 g.1
    by Inside g = inside_good r t b g.0 g.1 g.2
    by Stuck g = tt

good_runs : (r : LineReader) (x t : List ℕ) → Good r x → Good (runs line_stepped r t) (x ++ t)
good_runs r x [] g = rw (append-nil x) g
good_runs r x (b ∷ t) g =
    subst (λ (l : List ℕ). Good (runs line_stepped (line_stepped r b) t) l) (append_assoc x (b ∷ []) t) (good_runs (line_stepped r b) (x ++ (b ∷ [])) t (good_step r x b g))

good : (t : List ℕ) → Good (runs line_stepped line_start t) t
good t = good_runs line_start [] t (record { few = omega arith; eight = refl; short = tt }, refl)

-- a reader that ends in its eighth number
sound : (r : LineReader) (t : List ℕ) → is_inside r.phase ≡ true → r.count ≡ 7 → Good r t → LineSays t (set r.lengths 7 r.value)
sound r t e c g = by r.phase e g
  where
    by : (q : LinePhase) → is_inside q ≡ true → Read q r t → LineSays t (set r.lengths 7 r.value)
    by Before e g = absurd (false≢true e)
    by Inside e g =
        let l = r.lengths in
        let v = r.value in
        let k = g.0 in
        let long : length (set l 7 v) ≡ 8 = length-set l 7 v ∙ k.eight in
        let all : take 8 (set l 7 v) ≡ set l 7 v = take_all 8 (set l 7 v) (omega (arith, long)) in
        let slots : set l 7 v ≡ take 7 l ++ (v ∷ []) = sym all ∙ take_filled l 7 v (omega (arith, k.eight)) in
        record {
          eight = long;
          short = subst⁻¹ (λ (x : List ℕ). Each Short x) slots (each_append Short (take 7 l) (v ∷ []) (subst (λ (n : ℕ). Each Short (take n l)) c k.short) (g.1, tt));
          spelled = g.2 ∙ ap (λ (n : ℕ). lead (take n l) ++ decimal v) c ∙ sym (spaced_snoc (take 7 l) v) ∙ ap spaced (sym slots);
        }
    by Stuck e g = absurd (false≢true e)

pub answered : (t : List ℕ) → LengthsAnswered t (line_concluded (runs line_stepped line_start t))
answered t = by (is_inside r.phase) (eqb r.count 7) refl refl
  where
    r : LineReader
    r = runs line_stepped line_start t

    by : (x y : Bool) → is_inside r.phase ≡ x → eqb r.count 7 ≡ y → LengthsAnswered t (line_concluded r)
    by true true e f = rw (e, f) (sound r t e (eqb-true r.count 7 f) (good t))
    by true false e f = rw (e, f) (λ l s. (let z : line_concluded r ≡ record { correct = true; lengths = l } = complete t l s in true≢false (sym (ap (λ (n : LineOfLengths). n.correct) z) ∙ rw (e, f))), refl)
    by false y e f = rw e ((λ l s. let z : line_concluded r ≡ record { correct = true; lengths = l } = complete t l s in true≢false (sym (ap (λ (n : LineOfLengths). n.correct) z) ∙ rw e)), refl)

-- the reader after one byte more, and after all
pub stands : (r : LineReader) (t : List ℕ) (i : ℕ) → i < length t → r ≡ runs line_stepped line_start (take i t) → line_phase_move r.phase r (get_or t i 0) ≡ runs line_stepped line_start (take (i + 1) t)
unfolding line_stepped
stands r t i l e =
    let more : take (i + 1) t ≡ take i t ++ (get_or t i 0 ∷ []) = rw (add-one i) (take-suc t i 0 l) in
    ap (λ (q : LineReader). line_stepped q (get_or t i 0)) e ∙ sym (ap (λ (x : List ℕ). runs line_stepped line_start x) more ∙ runs_append line_stepped line_start (take i t) (get_or t i 0 ∷ []))

pub read_whole : (r : LineReader) (t : List ℕ) (i : ℕ) → length t ≤ i → r ≡ runs line_stepped line_start (take i t) → LengthsAnswered t (line_concluded r)
read_whole r t i l e =
    let all : r ≡ runs line_stepped line_start t = e ∙ ap (λ (x : List ℕ). runs line_stepped line_start x) (take_all i t l) in
    subst⁻¹ (λ (q : LineReader). LengthsAnswered t (line_concluded q)) all (answered t)

-- two readings of a line that the promise allows are equal
pub line_settled : (t : List ℕ) (p q : LineOfLengths) → LengthsAnswered t p → LengthsAnswered t q → p ≡ q
line_settled t p q = by p.correct q.correct p.lengths q.lengths
  where
    by : (x y : Bool) (l m : List ℕ) → LengthsCome x t l → LengthsCome y t m → ◌≡◌ {A = LineOfLengths} (record { correct = x; lengths = l }) (record { correct = y; lengths = m })
    by true true l m c d = sym (complete t l c) ∙ complete t m d
    by true false l m c d = absurd (d.0 l c)
    by false true l m c d = absurd (c.0 m d)
    by false false l m c d = ap (λ (k : List ℕ). record { correct = false; lengths = k }) (c.1 ∙ sym d.1)
