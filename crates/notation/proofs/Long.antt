-- How long a text can be: a correct one has at most 352 bytes, one that a card is written as at most 344, and one card has so many. Each part is as long as its
-- pieces, and of the offsets, whose axes rise, each name comes once.
use Rattle.std.specs.Prelude.{Ok, Result}
use Prim.Native.Nat.{ℕ, zero, suc, ◌+◌, ◌-◌, ◌*◌, ◌/◌, ◌%◌, ◌≤◌}
use mathlib.Core.Path.{◌≡◌, refl, sym, subst}
use mathlib.Core.Bool.{Bool, true, false, cond, not, ◌||◌, and-eq-true_iff, true≢false}
use mathlib.Core.List.{List, [], ◌∷◌, ◌++◌, map}
use native.Mathlib.Omega.{arith}
use native.Mathlib.Nat.{mul-suc}
use borrow.Author.Tests.{leb-true, ltb-true}
use lib.Dec.{leb, ltb}
use lib.IntN.{ℤ, pos, negsuc}
use lib.ListN.{length, get_or, replicate, length-append}
use Rattle.answers.specs.declared.Refusal.{Refusal}
use Rattle.laws.proofs.Tests.{four_of}
use Rattle.answers.specs.Refusals.{answer, no_refusal}
use Rattle.answers.specs.declared.Numbers.{Numbers}
use Rattle.card.specs.Lists.{all, within_z}
use Rattle.card.specs.Limits.{most_extent, least_stride, most_stride}
use Rattle.card.specs.Card.{listed, marks_of, stride_of}
use Rattle.card.specs.Admission.{counts_fit, iters_fit, marks_fit, numbers_fit, axes_fit, field_checks}
use Rattle.card.proofs.ReadBack.{OfEight}
use Rattle.card.specs.declared.Iter.{Iter}
use Rattle.card.specs.declared.Card.{Card}
use Rattle.notation.specs.Quoted.{quoted_bytes}
use Rattle.notation.specs.Text.{digits, decimal, name, axis_meant, spell_place, spell_signed, spell_step, tails, joined, enclosed, Lists, spell_lists, spell_shard, spell_replica, spell_offsets, Notation, spell, Each, Sound, is_marked, Plain, Rising, Limits, Within, Correct}
use Rattle.notation.specs.Beginning.{Begins}
use Rattle.notation.specs.Writing.{step_for, steps_for, written_as, text_of, written_answer, write_numbers}
use Rattle.notation.specs.declared.NamedAxis.{NamedAxis}
use Rattle.notation.specs.declared.NamedAxis.TheVariants.{Bare, At, Marked}
use Rattle.notation.specs.declared.Step.{Step}
use Rattle.notation.proofs.Lists.{pick, several, is_none, spell_some}
use Rattle.notation.proofs.InNumbers.{write_in_numbers}
use Rattle.notation.proofs.Back.{axis_back, numbers, written_within}

-- a number
digits_length : (k n : ℕ) → length (digits k n) ≤ k
digits_length zero n = omega arith
digits_length (suc k) n = by (ltb n 10) (digits_length k (n / 10))
  where
    by : (t : Bool) → length (digits k (n / 10)) ≤ k → length (cond t ((48 + n) ∷ []) (digits k (n / 10) ++ ((48 + n % 10) ∷ []))) ≤ suc k
    by true h = omega arith
    by false h = omega (arith, length-append (digits k (n / 10)) ((48 + n % 10) ∷ []), h)

pub decimal_length : (n : ℕ) → length (decimal n) ≤ 5
unfolding decimal
decimal_length n = digits_length 5 n

-- what the offsets from an axis on can have: a plus, a minus, five digits, an at sign and the name of each
abbrev room : ℕ → ℕ
room axis = get_or (91 ∷ 80 ∷ 66 ∷ 52 ∷ 43 ∷ 34 ∷ 21 ∷ 9 ∷ []) axis 0

room_spent : (axis : ℕ) → axis ≤ 7 → (length (name axis) + 8 + room (axis + 1) ≤ room axis) × (length (name axis) ≤ 6)
room_spent zero h = (omega arith, omega arith)
room_spent (suc zero) h = (omega arith, omega arith)
room_spent (suc (suc zero)) h = (omega arith, omega arith)
room_spent (suc (suc (suc zero))) h = (omega arith, omega arith)
room_spent (suc (suc (suc (suc zero)))) h = (omega arith, omega arith)
room_spent (suc (suc (suc (suc (suc zero))))) h = (omega arith, omega arith)
room_spent (suc (suc (suc (suc (suc (suc zero)))))) h = (omega arith, omega arith)
room_spent (suc (suc (suc (suc (suc (suc (suc zero))))))) h = (omega arith, omega arith)
room_spent (suc (suc (suc (suc (suc (suc (suc (suc a)))))))) h = absurd (omega arith)

room_less : (from more : ℕ) → room (from + more) ≤ room from
room_less from zero = let same : from ≡ from + 0 = omega arith in subst (λ (n : ℕ). room n ≤ room from) same (omega arith)
room_less from (suc more) =
    let same : suc (from + more) ≡ from + suc more = omega arith in
    subst (λ (n : ℕ). room n ≤ room from) same (omega (arith, next (from + more), room_less from more))
  where
    next : (axis : ℕ) → room (suc axis) ≤ room axis
    next zero = omega arith
    next (suc zero) = omega arith
    next (suc (suc zero)) = omega arith
    next (suc (suc (suc zero))) = omega arith
    next (suc (suc (suc (suc zero)))) = omega arith
    next (suc (suc (suc (suc (suc zero))))) = omega arith
    next (suc (suc (suc (suc (suc (suc zero)))))) = omega arith
    next (suc (suc (suc (suc (suc (suc (suc a))))))) = omega arith

-- a stride or an offset
signed_length : (t : Bool) (n : ℕ) → length (spell_signed t n) ≤ 6
signed_length true n = omega (arith, decimal_length n)
signed_length false n = omega (arith, decimal_length n)

place_length : (p : NamedAxis) → axis_meant p ≤ 7 → length (spell_place p) ≤ 8
place_length Bare h = omega arith
place_length (At axis) h = omega (arith, (room_spent axis h).1)
place_length (Marked axis) h = omega (arith, length-append (name axis) (42 ∷ []), (room_spent axis h).1)

plain_place : (p : NamedAxis) → is_marked p ≡ false → length (spell_place p) ≤ length (name (axis_meant p)) + 1
plain_place Bare u = omega arith
plain_place (At axis) u = omega arith
plain_place (Marked axis) u = absurd (true≢false u)

step_length : (s : Step) → length (spell_step s) ≤ length (spell_place s.place) + 6
step_length s = omega (arith, length-append (spell_signed s.negative s.size) (spell_place s.place), signed_length s.negative s.size)

-- pieces of at most so many bytes
module _ {A : Type 0} (f : A → List ℕ) (most : ℕ) where
  abbrev pub Brief : A → Type 0
  Brief x = length (f x) ≤ most

  tails_length : (l : List A) → Each Brief l → length (tails (quoted_bytes ",") (map f l)) ≤ (most + 1) * length l
  tails_length [] b = omega arith
  tails_length (x ∷ l) b = omega (arith, length-append (f x) (tails (quoted_bytes ",") (map f l)), b.0, tails_length l b.1, mul-suc (most + 1) (length l))

  joined_length : (l : List A) → Each Brief l → length (joined (quoted_bytes ",") (map f l)) ≤ (most + 1) * length l - 1
  joined_length [] b = omega arith
  joined_length (x ∷ l) b = omega (arith, length-append (f x) (tails (quoted_bytes ",") (map f l)), b.0, tails_length l b.1, mul-suc (most + 1) (length l))

  enclosed_length : (paren : Bool) (l : List A) → Each Brief l → length (enclosed paren (map f l)) ≤ (most + 1) * length l - 1 + 2
  enclosed_length true l b = omega (arith, length-append (joined (quoted_bytes ",") (map f l)) (41 ∷ []), joined_length l b)
  enclosed_length false l b = omega (arith, length-append (joined (quoted_bytes ",") (map f l)) [], joined_length l b)

brief : {A : Type 0} (P Q : A → Type 0) → ((x : A) → P x → Q x) → (l : List A) → Each P l → Each Q l
brief P Q g [] e = tt
brief P Q g (x ∷ l) e = (g x e.0, brief P Q g l e.1)

numbers_brief : (es : List ℕ) → Each (Brief decimal 5) es
numbers_brief [] = tt
numbers_brief (e ∷ es) = (decimal_length e, numbers_brief es)

lists_length : (most : ℕ) (paren : Bool) (l : Lists) → length l.steps ≡ length l.extents → Each (Brief spell_step most) l.steps
    → length (spell_lists paren l) ≤ (6 * length l.extents - 1) + ((most + 1) * length l.extents - 1) + 5
lists_length most paren l same b =
    let es = enclosed paren (map decimal l.extents) in
    let ss = enclosed paren (map spell_step l.steps) in
    let steps : length ss ≤ (most + 1) * length l.extents - 1 + 2 = rw (← same) (enclosed_length spell_step most paren l.steps b) in
    omega (arith, length-append es (58 ∷ ss), enclosed_length decimal 5 paren l.extents (numbers_brief l.extents), steps)

-- the offsets
offsets_length : (from : ℕ) (ss : List Step) → Each Plain ss → Rising from ss 8 → length (spell_offsets ss) ≤ room from
offsets_length from [] e r = omega arith
offsets_length from (s ∷ ss) e r =
    let axis = axis_meant s.place in
    let same : from + (axis - from) ≡ axis = omega (arith, r.0) in
    let later : room axis ≤ room from = subst (λ (n : ℕ). room n ≤ room from) same (room_less from (axis - from)) in
    omega (
      arith,
      length-append (43 ∷ spell_step s) (spell_offsets ss),
      step_length s,
      plain_place s.place e.0.1,
      offsets_length (axis + 1) ss e.1 r.1,
      (room_spent axis e.0.0.2).0,
      later,
    )

replica_length : (l : Lists) → Limits 4 Plain l → length (spell_replica l) ≤ 87
replica_length l w = pick (λ (t : List ℕ). length t ≤ 87) (is_none l.extents) (λ _. omega arith) (λ _. some)
  where
    paren : Bool
    paren = several l.extents

    plain : (s : Step) → Plain s → Brief spell_step 13 s
    plain s p = omega (arith, step_length s, plain_place s.place p.1, (room_spent (axis_meant s.place) p.0.2).1)

    some : length (spell_some l) ≤ 87
    some =
        omega (
          arith,
          length-append (spell_lists paren l) (93 ∷ []),
          lists_length 13 paren l w.same (brief Plain (Brief spell_step 13) plain l.steps w.sound),
          w.few,
        )

-- a whole text, by its shard's lists
spell_length : (most : ℕ) (n : Notation) → Within n → length (spell_lists true n.shard) ≤ most → length (spell n) ≤ most + 181
spell_length most n w shard =
    let s = spell_shard n.shard in
    let r = spell_replica n.replica in
    let o = spell_offsets n.offsets in
    omega (
      arith,
      length-append s (r ++ o),
      length-append r o,
      length-append (spell_lists true n.shard) (93 ∷ []),
      shard,
      replica_length n.replica w.replica,
      offsets_length 0 n.offsets w.offsets w.rising,
    )

-- a correct text, and a beginning of one
pub correct_length : (t : List ℕ) → Correct t → length t ≤ 352
correct_length t c =
    let n = c.says in
    let w = c.within.shard in
    rw c.spelled (spell_length 171 n c.within (omega (arith, lists_length 14 true n.shard w.same (brief Sound (Brief spell_step 14) sound n.shard.steps w.sound), w.few)))
  where
    sound : (s : Step) → Sound s → Brief spell_step 14 s
    sound s p = omega (arith, step_length s, place_length s.place p.2)

pub begins_length : (t : List ℕ) → Begins Correct t → length t ≤ 352
begins_length t b = omega (arith, length-append t b.rest, correct_length (t ++ b.rest) b.correct)

-- a shard's stride as a card has it: marked it is 0
stride_length : (z : ℤ) (mark : Bool) (axis : ℕ) → axis ≤ 7 → (not mark || within_z (pos 0) (pos 0) z) ≡ true → Brief spell_step 13 (step_for z mark axis)
stride_length z false axis h e = omega (arith, step_length (step_for z false axis), (room_spent axis h).1)
stride_length (pos zero) true axis h e = omega (arith, length-append (decimal 0) (64 ∷ (name axis ++ (42 ∷ []))), decimal_length 0, length-append (name axis) (42 ∷ []), (room_spent axis h).1)
stride_length (pos (suc n)) true axis h e =
    absurd (omega (arith, leb-true (suc n) 0 ((and-eq-true_iff (leb 0 (suc n)) (leb (suc n) 0)).0 e).1))
stride_length (negsuc n) true axis h e = absurd (true≢false (sym e))

strides_brief : (ms : List Bool) (is : List Iter) → marks_fit ms (map stride_of is) ≡ true → Each Sound (steps_for ms is) → Each (Brief spell_step 13) (steps_for ms is)
strides_brief ms [] e s = tt
strides_brief [] (i ∷ is) e s = (stride_length i.stride false i.axis s.0.2 refl, strides_brief [] is refl s.1)
strides_brief (m ∷ ms) (i ∷ is) e s =
    let p = (and-eq-true_iff (not m || within_z (pos 0) (pos 0) i.stride) (marks_fit ms (map stride_of is))).0 e in
    (stride_length i.stride m i.axis (subst (λ (a : ℕ). a ≤ 7) (axis_back i.stride m i.axis) s.0.2) p.0, strides_brief ms is p.1 s.1)

abbrev Not11 : Numbers → Type 0
Not11 n = n.number ≡ 11 → ⊥

module _ (card : Card) (eight : OfEight card) where
  -- what a card is written as
  pub written_length : field_checks card no_refusal ≡ no_refusal → length (text_of card) ≤ 344
  unfolding text_of
  written_length ok =
      let w = written_within card eight ok in
      let n = four_of (iters_fit card.shard) (marks_fit (marks_of card) (map stride_of (listed card.shard))) (iters_fit card.replica) (all (within_z least_stride most_stride) card.offset) (numbers card eight ok) in
      spell_length 163 (written_as card) w
      (omega (arith, lists_length 13 true (written_as card).shard w.shard.same (strides_brief (marks_of card) (listed card.shard) n.1 w.shard.sound), w.shard.few))

  -- whoever lends 344 bytes is never answered 11
  pub never_short : (lent : ℕ) → 344 ≤ lent → (r : Result ℕ Refusal) → r ≡ written_answer card lent → Not11 (write_numbers r)
  never_short lent room r e =
      rw (write_in_numbers card lent r e)
      (pick Not11 (not (counts_fit card)) (λ _ n. absurd (omega (arith, n)))
      (λ counts. pick Not11 (not (numbers_fit card)) (λ _ n. absurd (omega (arith, n)))
      (λ numbers. pick Not11 (not (axes_fit card)) (λ _ n. absurd (omega (arith, n)))
      (λ axes. pick Not11 (ltb lent (length (text_of card)))
      (λ short n. absurd (omega (arith, ltb-true lent (length (text_of card)) short, written_length (rw (counts, numbers, axes)))))
      (λ _ n. absurd (omega (arith, n)))))))

-- and one card needs them all: eight and four iters of 65,536 by -65,536 warpid, and -65,536 on every axis
abbrev longest : Card
longest =
    let iter : Iter = record { extent = most_extent; stride = least_stride; axis = 1 } in
    record {
      shard = record { at = replicate 8 iter; count = 8 };
      marks = replicate 8 false;
      replica = record { at = replicate 8 iter; count = 4 };
      offset = replicate 8 least_stride;
      lengths = replicate 8 1;
      swizzle = record { m = 0; b = 0; s = 3 };
    }

pub longest_written : (write_numbers (written_answer longest 344) ≡ answer 0 344 0 0) × (write_numbers (written_answer longest 343) ≡ answer 11 344 0 0)
unfolding text_of decimal
longest_written = (refl, refl)
