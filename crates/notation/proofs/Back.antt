-- What was written can be read: the text of every card that passes checks 1 to 3 is correct, and says what the card holds.
use Rattle.std.specs.Prelude.{Err, Ok, Result, ⊤}
use Prim.Native.Nat.{ℕ, zero, suc, ◌+◌, ◌-◌, ◌≤◌, ◌<◌}
use mathlib.Core.Path.{◌≡◌, refl, sym, ap, ◌∙◌, subst}
use mathlib.Core.Bool.{Bool, true, false, cond, not, ◌&&◌, and-eq-true_iff, true≢false}
use mathlib.Core.List.{List, [], ◌∷◌, ◌++◌, append-nil, append_assoc, map}
use native.Mathlib.Omega.{arith}
use borrow.Author.Tests.{leb-true, eqb-true, eqb-false}
use lib.Dec.{leb, ltb, eqb}
use lib.IntN.{ℤ, pos, negsuc, neg_ℤ, nat_abs}
use lib.ListN.{length, take, drop, set, replicate, length-map, length-append}
use lib.Seq.{length-take-le}
use Rattle.answers.specs.Refusals.{no_refusal}
use Rattle.laws.proofs.Tests.{four_of}
use Rattle.laws.proofs.Signed.{between_far}
use Rattle.card.specs.Lists.{all, within, within_z, padded}
use Rattle.card.specs.Limits.{most_extent, least_stride, most_stride, last_axis}
use Rattle.card.specs.Card.{listed, marks_of, extent_of, stride_of, axis_of as iterAxis, none, kept_iters}
use Rattle.card.specs.Admission.{counts_fit, iters_fit, marks_fit, numbers_fit, iters_on_axes, axes_fit, field_checks}
use Rattle.card.proofs.ReadBack.{OfEight}
use Rattle.card.specs.declared.Iter.{Iter}
use Rattle.card.specs.declared.Iters.{Iters}
use Rattle.card.specs.declared.Card.{Card}
use Rattle.answers.specs.declared.Refusal.{Refusal}
use Rattle.answers.specs.declared.Refusal.TheVariants.{Counts, Limits as OutOfLimits, Axis}
use Rattle.laws.proofs.Rungs.{apart}
use Rattle.notation.specs.Text.{axis_meant, Lists, Notation, spell, Short, Each, Sound, is_marked, Plain, Rising, Limits, Within, Correct}
use Rattle.notation.specs.Meaning.{value_of, mark_of, iters_said, list_of, laid, no_offset, layout_of}
use Rattle.notation.specs.Promise.{Answered}
use Rattle.notation.specs.Writing.{is_below, step_for, steps_for, offsets_from, no_marks, lists_for, written_as, text_of, answer_for, written_answer, bytes_after, kept_of}
use Rattle.notation.specs.declared.NamedAxis.{NamedAxis}
use Rattle.notation.specs.declared.NamedAxis.TheVariants.{Bare, At, Marked}
use Rattle.notation.specs.declared.Step.{Step}
use Rattle.notation.specs.declared.Layout.{Layout}
use Rattle.notation.specs.declared.Reading.{Reading}
use Rattle.notation.proofs.Lists.{pick}
use Rattle.notation.proofs.Theorems.{read_spelled}

-- the checks passed
passed : (b : Bool) (r : Refusal) (rest : Result ⊤ Refusal) → cond (not b) (Err r) rest ≡ no_refusal → (b ≡ true) × (rest ≡ no_refusal)
passed true r rest e = (refl, e)
passed false r rest e = absurd (apart (cc))

-- a number with its sign
pub value_back : (z : ℤ) (mark : Bool) (axis : ℕ) → value_of (step_for z mark axis) ≡ z
value_back (pos n) mark axis = refl
value_back (negsuc n) mark axis = refl

pub axis_back : (z : ℤ) (mark : Bool) (axis : ℕ) → axis_meant (step_for z mark axis).place ≡ axis
axis_back z true axis = refl
axis_back z false axis = refl

mark_back : (z : ℤ) (mark : Bool) (axis : ℕ) → mark_of (step_for z mark axis) ≡ mark
mark_back z true axis = refl
mark_back z false axis = refl

below_some : (z : ℤ) → is_below z ≡ true → 1 ≤ nat_abs z
below_some (pos n) e = absurd (true≢false (sym e))
below_some (negsuc n) e = omega arith

stride_short : (z : ℤ) → within_z least_stride most_stride z ≡ true → Short (nat_abs z)
stride_short z e = omega (arith, between_far 65535 z e)

step_sound : (z : ℤ) (mark : Bool) (axis : ℕ) → within_z least_stride most_stride z ≡ true → axis ≤ 7 → Sound (step_for z mark axis)
step_sound z mark axis e a = (stride_short z e, below_some z, omega (arith, axis_back z mark axis))

-- a list of iters as it is written
iters_back : (ms : List Bool) (is : List Iter) → iters_said (map extent_of is) (steps_for ms is) ≡ is
iters_back ms [] = refl
iters_back [] (i ∷ is) =
    λ j. record { extent = i.extent; stride = value_back i.stride false i.axis j; axis = i.axis } ∷ iters_back [] is j
iters_back (m ∷ ms) (i ∷ is) =
    λ j. record { extent = i.extent; stride = value_back i.stride m i.axis j; axis = axis_back i.stride m i.axis j } ∷ iters_back ms is j

steps_length : (ms : List Bool) (is : List Iter) → length (steps_for ms is) ≡ length (map extent_of is)
steps_length ms [] = refl
steps_length [] (i ∷ is) = ap suc (steps_length [] is)
steps_length (m ∷ ms) (i ∷ is) = ap suc (steps_length ms is)

marks_back : (ms : List Bool) (is : List Iter) → length ms ≡ length is → map mark_of (steps_for ms is) ≡ ms
marks_back [] [] e = refl
marks_back (m ∷ ms) [] e = absurd (omega arith)
marks_back [] (i ∷ is) e = absurd (omega arith)
marks_back (m ∷ ms) (i ∷ is) e = λ j. mark_back i.stride m i.axis j ∷ marks_back ms is (omega arith) j

extents_short : (is : List Iter) → all (within 1 most_extent) (map extent_of is) ≡ true → Each Short (map extent_of is)
extents_short [] e = tt
extents_short (i ∷ is) e =
    let p = (and-eq-true_iff (within 1 most_extent i.extent) (all (within 1 most_extent) (map extent_of is))).0 e in
    let q = (and-eq-true_iff (leb 1 i.extent) (leb i.extent most_extent)).0 p.0 in
    (omega (arith, leb-true i.extent most_extent q.1), extents_short is p.1)

abbrev StridesFit : List Iter → Type 0
StridesFit is = all (within_z least_stride most_stride) (map stride_of is) ≡ true

abbrev AxesFit : List Iter → Type 0
AxesFit is = all (within 0 last_axis) (map iterAxis is) ≡ true

steps_each : (P : Step → Type 0) (ms : List Bool) (is : List Iter)
    → ((z : ℤ) (m : Bool) (axis : ℕ) → (m ≡ true → all not ms ≡ false) → within_z least_stride most_stride z ≡ true → axis ≤ 7 → P (step_for z m axis))
    → StridesFit is → AxesFit is → Each P (steps_for ms is)
steps_each P ms [] f s a = tt
steps_each P [] (i ∷ is) f s a =
    let p = (and-eq-true_iff (within_z least_stride most_stride i.stride) (all (within_z least_stride most_stride) (map stride_of is))).0 s in
    let q = (and-eq-true_iff (within 0 last_axis i.axis) (all (within 0 last_axis) (map iterAxis is))).0 a in
    let l = (and-eq-true_iff (leb 0 i.axis) (leb i.axis last_axis)).0 q.0 in
    (f i.stride false i.axis (λ e. absurd (true≢false (sym e))) p.0 (leb-true i.axis last_axis l.1), steps_each P [] is f p.1 q.1)
steps_each P (m ∷ ms) (i ∷ is) f s a =
    let p = (and-eq-true_iff (within_z least_stride most_stride i.stride) (all (within_z least_stride most_stride) (map stride_of is))).0 s in
    let q = (and-eq-true_iff (within 0 last_axis i.axis) (all (within 0 last_axis) (map iterAxis is))).0 a in
    let l = (and-eq-true_iff (leb 0 i.axis) (leb i.axis last_axis)).0 q.0 in
    (f i.stride m i.axis (λ e. marked m ms e) p.0 (leb-true i.axis last_axis l.1), steps_each P ms is (λ z k axis g w h. f z k axis (λ e. unmarked m ms (g e)) w h) p.1 q.1)
  where
    marked : (m : Bool) (ms : List Bool) → m ≡ true → all not (m ∷ ms) ≡ false
    marked true ms e = refl
    marked false ms e = absurd (true≢false (sym e))

    unmarked : (m : Bool) (ms : List Bool) → all not ms ≡ false → all not (m ∷ ms) ≡ false
    unmarked true ms e = refl
    unmarked false ms e = e

-- the offsets
offsets_plain : (axis : ℕ) (zs : List ℤ) → axis + length zs ≤ 8 → all (within_z least_stride most_stride) zs ≡ true → Each Plain (offsets_from axis zs)
offsets_plain axis [] h e = tt
offsets_plain axis (z ∷ zs) h e =
    let p = (and-eq-true_iff (within_z least_stride most_stride z) (all (within_z least_stride most_stride) zs)).0 e in
    let rest = offsets_plain (axis + 1) zs (omega arith) p.1 in
    pick (λ (l : List Step). Each Plain (l ++ offsets_from (axis + 1) zs)) (eqb (nat_abs z) 0) (λ _. rest) (λ _. ((step_sound z false axis p.0 (omega arith), refl), rest))

rising_later : (axis later : ℕ) (ss : List Step) → later ≤ axis → Rising axis ss 8 → Rising later ss 8
rising_later axis later [] h r = omega arith
rising_later axis later (s ∷ ss) h r = (omega (arith, r.0), r.1)

offsets_rising : (axis : ℕ) (zs : List ℤ) → axis + length zs ≤ 8 → Rising axis (offsets_from axis zs) 8
offsets_rising axis [] h = omega arith
offsets_rising axis (z ∷ zs) h =
    let rest = offsets_rising (axis + 1) zs (omega arith) in
    pick (λ (l : List Step). Rising axis (l ++ offsets_from (axis + 1) zs) 8) (eqb (nat_abs z) 0) (λ _. rising_later (axis + 1) axis (offsets_from (axis + 1) zs) (omega arith) rest) (λ _. (omega arith, rest))

no_size : (z : ℤ) → nat_abs z ≡ 0 → z ≡ pos 0
no_size (pos n) e = ap pos e
no_size (negsuc n) e = absurd (omega arith)

set_last : (l : List ℤ) (k : ℕ) (z : ℤ) → set (l ++ replicate (suc k) (pos 0)) (length l) z ≡ (l ++ (z ∷ [])) ++ replicate k (pos 0)
set_last [] k z = refl
set_last (a ∷ l) k z = ap (λ (m : List ℤ). a ∷ m) (set_last l k z)

laid_back : (done zs : List ℤ) → laid (done ++ replicate (length zs) (pos 0)) (offsets_from (length done) zs) ≡ done ++ zs
laid_back done [] = refl
laid_back done (z ∷ zs) =
    let long : length (done ++ (z ∷ [])) ≡ length done + 1 = length-append done (z ∷ []) in
    let next : laid ((done ++ (z ∷ [])) ++ replicate (length zs) (pos 0)) (offsets_from (length done + 1) zs) ≡ done ++ (z ∷ zs)
    = ap (λ (k : ℕ). laid ((done ++ (z ∷ [])) ++ replicate (length zs) (pos 0)) (offsets_from k zs)) (sym long) ∙ laid_back (done ++ (z ∷ [])) zs ∙ append_assoc done (z ∷ []) zs in
    pick (λ (l : List Step). laid (done ++ replicate (suc (length zs)) (pos 0)) (l ++ offsets_from (length done + 1) zs) ≡ done ++ (z ∷ zs)) (eqb (nat_abs z) 0)
    (λ e.
    let zero-there : done ++ replicate (suc (length zs)) (pos 0) ≡ (done ++ (z ∷ [])) ++ replicate (length zs) (pos 0)
    = sym (append_assoc done (z ∷ []) (replicate (length zs) (pos 0)) ∙ ap (λ (y : ℤ). done ++ (y ∷ replicate (length zs) (pos 0))) (no_size z (eqb-true (nat_abs z) 0 e))) in
    ap (λ (l : List ℤ). laid l (offsets_from (length done + 1) zs)) zero-there ∙ next)
    (λ _.
    ap (λ (y : ℤ). laid (set (done ++ replicate (suc (length zs)) (pos 0)) (length done) y) (offsets_from (length done + 1) zs)) (value_back z false (length done))
    ∙ ap (λ (l : List ℤ). laid l (offsets_from (length done + 1) zs)) (set_last done (length zs) z) ∙ next)

listed_length : (iters : Iters) → length iters.at ≡ 8 → iters.count ≤ 8 → length (map extent_of (listed iters)) ≡ iters.count
listed_length iters e h = length-map (listed iters) extent_of ∙ length-take-le iters.count iters.at (omega arith)

list_back : (ms : List Bool) (iters : Iters) → length iters.at ≡ 8 → iters.count ≤ 8 → list_of (lists_for ms iters) ≡ kept_iters iters
list_back ms iters e h = λ j. record { at = padded none (iters_back ms (listed iters) j); count = listed_length iters e h j }

lists_limits : (most : ℕ) (P : Step → Type 0) (ms : List Bool) (iters : Iters) → length iters.at ≡ 8 → iters.count ≤ most → most ≤ 8 → iters_fit iters ≡ true
    → Each P (steps_for ms (listed iters)) → Limits most P (lists_for ms iters)
lists_limits most P ms iters e few eight fit steps =
    let p = (and-eq-true_iff (all (within 1 most_extent) (map extent_of (listed iters))) (all (within_z least_stride most_stride) (map stride_of (listed iters)))).0 fit in
    record {
      few = omega (arith, listed_length iters e (omega arith));
      same = steps_length ms (listed iters);
      short = extents_short (listed iters) p.0;
      sound = steps;
    }

strides_fit : (iters : Iters) → iters_fit iters ≡ true → StridesFit (listed iters)
strides_fit iters fit = ((and-eq-true_iff (all (within 1 most_extent) (map extent_of (listed iters))) (all (within_z least_stride most_stride) (map stride_of (listed iters)))).0 fit).1

module _ (card : Card) (eight : OfEight card) (ok : field_checks card no_refusal ≡ no_refusal) where
  counts : counts_fit card ≡ true
  counts = (passed (counts_fit card) Counts _ ok).0

  pub numbers : numbers_fit card ≡ true
  numbers = (passed (numbers_fit card) OutOfLimits _ (passed (counts_fit card) Counts _ ok).1).0

  axes : axes_fit card ≡ true
  axes = (passed (axes_fit card) Axis _ (passed (numbers_fit card) OutOfLimits _ (passed (counts_fit card) Counts _ ok).1).1).0

  pub shard_few : (1 ≤ card.shard.count) × (card.shard.count ≤ 8)
  shard_few =
      let p = (and-eq-true_iff (within 1 8 card.shard.count) (leb card.replica.count 4)).0 counts in
      let q = (and-eq-true_iff (leb 1 card.shard.count) (leb card.shard.count 8)).0 p.0 in
      (leb-true 1 card.shard.count q.0, leb-true card.shard.count 8 q.1)

  pub replica_few : card.replica.count ≤ 4
  replica_few = leb-true card.replica.count 4 ((and-eq-true_iff (within 1 8 card.shard.count) (leb card.replica.count 4)).0 counts).1

  -- the text is correct
  pub written_within : Within (written_as card)
  written_within =
      let n = four_of (iters_fit card.shard) (marks_fit (marks_of card) (map stride_of (listed card.shard))) (iters_fit card.replica) (all (within_z least_stride most_stride) card.offset) numbers in
      let a = (and-eq-true_iff (iters_on_axes card.shard) (iters_on_axes card.replica)).0 axes in
      record {
        some = omega (arith, listed_length card.shard eight.shard shard_few.1, shard_few.0);
        shard = lists_limits 8 Sound (marks_of card) card.shard eight.shard shard_few.1 (omega arith) n.0
            (steps_each Sound (marks_of card) (listed card.shard) (λ z m axis _ w h. step_sound z m axis w h) (strides_fit card.shard n.0) a.0);
        replica = lists_limits 4 Plain no_marks card.replica eight.replica replica_few (omega arith) n.2
            (steps_each Plain no_marks (listed card.replica) (λ z m axis g w h. (step_sound z m axis w h, plain z m axis g)) (strides_fit card.replica n.2) a.1);
        offsets = offsets_plain 0 card.offset (omega (arith, eight.offset)) n.3;
        rising = offsets_rising 0 card.offset (omega (arith, eight.offset));
      }
    where
      plain : (z : ℤ) (m : Bool) (axis : ℕ) → (m ≡ true → all not no_marks ≡ false) → is_marked (step_for z m axis).place ≡ false
      plain z true axis g = absurd (true≢false (g refl))
      plain z false axis g = refl

  -- and says what the card holds
  pub written_layout : layout_of (written_as card) ≡ kept_of card
  written_layout =
      let marks : map mark_of (steps_for (marks_of card) (listed card.shard)) ≡ marks_of card
      = marks_back (marks_of card) (listed card.shard) (length-take-le card.shard.count card.marks (omega (arith, eight.marks, shard_few.1)) ∙ sym (length-take-le card.shard.count card.shard.at (omega (arith, eight.shard, shard_few.1)))) in
      let offset : laid no_offset (offsets_from 0 card.offset) ≡ card.offset = ap (λ (k : ℕ). laid (replicate k (pos 0)) (offsets_from 0 card.offset)) (sym eight.offset) ∙ laid_back [] card.offset in
      λ j. record {
        shard = list_back (marks_of card) card.shard eight.shard shard_few.1 j;
        marks = padded false (marks j);
        replica = list_back no_marks card.replica eight.replica (omega (arith, replica_few)) j;
        offset = offset j;
      }

  -- reading what was written gives the same shard, replica, offset and marks
  pub read_written : (r : Reading) → Answered (text_of card) r → r ≡ record { answer = no_refusal; layout = kept_of card }
  unfolding text_of
  read_written r a = read_spelled (written_as card) written_within r a ∙ ap (λ (l : Layout). record { answer = no_refusal; layout = l }) written_layout

-- two outcomes that the promise of writing allows are equal: the answer, and every lent byte
pub write_settled : (card : Card) (lent : List ℕ) (p q : Result ℕ Refusal) (b d : List ℕ) → (p ≡ written_answer card (length lent)) × (b ≡ bytes_after p card lent)
    → (q ≡ written_answer card (length lent)) × (d ≡ bytes_after q card lent) → (p ≡ q) × (b ≡ d)
write_settled card lent p q b d e f =
    let same : p ≡ q = e.0 ∙ sym f.0 in
    (same, e.1 ∙ ap (λ (r : Result ℕ Refusal). bytes_after r card lent) same ∙ sym f.1)

-- what stands in lent bytes after writing reads back: at number 0 the first bytes are the text, and reading them gives the same
pub read_lent : (card : Card) → OfEight card → (lent : List ℕ) (n : ℕ) → written_answer card (length lent) ≡ Ok n
    → (r : Reading) → Answered (take n (bytes_after (Ok n) card lent)) r → r ≡ record { answer = no_refusal; layout = kept_of card }
read_lent card eight lent n e r a = by (field_checks card no_refusal) refl e
  where
    front : (t m : List ℕ) (n : ℕ) → length t ≡ n → take n (t ++ m) ≡ t
    front [] m zero h = refl
    front [] m (suc n) h = absurd (omega arith)
    front (b ∷ t) m zero h = absurd (omega arith)
    front (b ∷ t) m (suc n) h = ap (λ (l : List ℕ). b ∷ l) (front t m n (omega arith))

    long : (lent needed : ℕ) → answer_for no_refusal needed lent ≡ Ok n → needed ≡ n
    long lent needed = pick (λ (w : Result ℕ Refusal). w ≡ Ok n → needed ≡ n) (ltb lent needed) (λ _ z. absurd (apart (cc))) (λ _ z. cc)

    by : (x : Result ⊤ Refusal) → field_checks card no_refusal ≡ x → answer_for x (length (text_of card)) (length lent) ≡ Ok n → r ≡ record { answer = no_refusal; layout = kept_of card }
    by (Ok _) ok w = read_written card eight ok r (subst (λ (t : List ℕ). Answered t r) (front (text_of card) (drop n lent) n (long (length lent) (length (text_of card)) w)) a)
    by (Err q) ok w = absurd (apart (cc))
