-- What the questions promise, in plain for-alls: outcomes are settled, the first value of the wrong sort is named, and on registers as on
-- holdings collecting what was dealt gives it back.
use Rattle.std.specs.Prelude.{Result, ⊤, Ok, Err}
use mathlib.Core.Path.{◌≡◌, refl, sym, ap, ◌∙◌}
use mathlib.Core.Logic.{◌⊎◌, inl, inr}
use mathlib.Core.Bool.{Bool, true, false, not, ◌&&◌, and-eq-true_iff, true≢false}
use mathlib.Core.List.{List}
use Prim.Native.Nat.{ℕ, ◌+◌, ◌*◌, ◌/◌, ◌%◌, ◌<◌}
use native.Mathlib.Omega.{arith}
use borrow.Author.Tests.{ltb-true, ltb-false}
use lib.Dec.{ltb}
use Rattle.answers.specs.Refusals.{no_refusal}
use Rattle.answers.specs.declared.Refusal.{Refusal}
use Rattle.laws.proofs.Rungs.{apart, passed_by, ended_at}
use Rattle.answers.specs.declared.Numbers.{Numbers}
use Rattle.answers.specs.declared.Refusal.TheVariants.{Fragment}
use Rattle.answers.proofs.OneToOne.{read_back, refused_back, pinned}
use Rattle.fragment.specs.Kinds.{at, place}
use Rattle.fragment.specs.Fragment.{is_place}
use Rattle.fragment.proofs.Inside.{slot_numbers}
use Rattle.values.specs.declared.Register.{Register}
use Rattle.values.specs.declared.Register.TheVariants.{Empty}
use Rattle.values.specs.Rows.{entry}
use Rattle.values.specs.Values.{is_own, in_tile, dealt, collected, first}
use Rattle.values.specs.Registers.{is_matrix, is_of_sort, is_wrong, judged, deal_answer, collect_answer, dealt_lanes, filled, collected_tile, moved_numbers}
use Rattle.values.proofs.First.{NoneBefore, first_passes, none_before_first}
use Rattle.values.proofs.Sorts.{judged_same, judged_dealt}
use Rattle.values.proofs.Theorems.{IsTile, AreLanes, undo_each_other, in_place}
use Rattle.values.proofs.Holder.{own}

-- two outcomes that the promises allow are equal, what is filled too
pub dealing_settled : (kind c : ℕ) (tile lanes : List (List Register)) (g h : Result ⊤ Refusal) (x y : List (List Register))
    → g ≡ deal_answer kind c tile → h ≡ deal_answer kind c tile → x ≡ dealt_lanes kind c tile lanes → y ≡ dealt_lanes kind c tile lanes → (g ≡ h) × (x ≡ y)
dealing_settled kind c tile lanes g h x y e f p q = (e ∙ sym f, p ∙ sym q)

pub collecting_settled : (kind c : ℕ) (lanes tile : List (List Register)) (g h : Result ⊤ Refusal) (x y : List (List Register))
    → g ≡ collect_answer kind c lanes → h ≡ collect_answer kind c lanes → x ≡ collected_tile kind c lanes tile → y ≡ collected_tile kind c lanes tile
    → (g ≡ h) × (x ≡ y)
collecting_settled kind c lanes tile g h x y e f p q = (e ∙ sym f, p ∙ sym q)

-- pinning the numbers pins the answer
done : Numbers → Result ⊤ Refusal
done n = no_refusal

moved_back : (g : Result ⊤ Refusal) → read_back done Err (moved_numbers g) ≡ g
unfolding done
moved_back (Ok _) = refl
moved_back (Err r) = refused_back done Err r

pub moved_one_to_one : (g h : Result ⊤ Refusal) → moved_numbers g ≡ moved_numbers h → g ≡ h
moved_one_to_one = pinned done Err moved_numbers moved_back

-- of two registers the one with the smaller lane comes first, then the one with the smaller number
abbrev pub ComesBefore : ℕ → ℕ → ℕ → ℕ → Type 0
ComesBefore lane i other j = (lane < other) ⊎ ((lane ≡ other) × (i < j))

-- the smallest lane and register whose value is of the wrong sort
pub record FirstWrong (kind c : ℕ) (value : ℕ → ℕ → Register) (lane i : ℕ) : Type 0 where
  pub is_own_lem : is_own kind c lane i ≡ true
  pub wrong : is_of_sort kind (value lane i) ≡ false
  pub smallest : (other j : ℕ) → is_own kind c other j ≡ true → ComesBefore other j lane i → is_of_sort kind (value other j) ≡ true

-- no value of the computation's registers is of the wrong sort
abbrev pub AllOfSort : ℕ → ℕ → (ℕ → ℕ → Register) → Type 0
AllOfSort kind c value = (lane i : ℕ) → is_own kind c lane i ≡ true → is_of_sort kind (value lane i) ≡ true

-- the search, as its two outcomes
pub record Judged (kind c : ℕ) (value : ℕ → ℕ → Register) (answer : Result ⊤ Refusal) : Type 0 where
  pub accepted : answer ≡ no_refusal → AllOfSort kind c value
  pub refused : (lane i : ℕ) → answer ≡ Err (Fragment lane i) → FirstWrong kind c value lane i

right : (b s : Bool) → (b && not s) ≡ false → b ≡ true → s ≡ true
right b true e t = refl
right true false e t = absurd (true≢false e)
right false false e t = absurd (true≢false (sym t))

not_right : (s : Bool) → not s ≡ true → s ≡ false
not_right true e = absurd (true≢false (sym e))
not_right false e = refl

module _ (kind c : ℕ) (value : ℕ → ℕ → Register) where
  -- a register before number n is of the right sort
  before : (n lane i : ℕ) → NoneBefore (is_wrong kind c value) n → is_own kind c lane i ≡ true → (i < 8 → 8 * lane + i < n) → is_of_sort kind (value lane i) ≡ true
  before n lane i none e h =
      let s = slot_numbers kind lane i (own kind c lane i e).slot in
      let small : i < 8 = omega (arith, s.of_register, s.sizes_of.most_registers) in
      let of_lane : (8 * lane + i) / 8 ≡ lane = omega arith in
      let of_register : (8 * lane + i) % 8 ≡ i = omega arith in
      right (is_own kind c lane i) (is_of_sort kind (value lane i)) (rw (of_lane, of_register) at (none (8 * lane + i) (h small))) e

  all_of_sort : judged kind c value ≡ no_refusal → AllOfSort kind c value
  unfolding judged
  all_of_sort e lane i o =
      let n : ℕ = first (is_wrong kind c value) 256 in
      let past = ltb-false n 256 (passed_by (ltb n 256) e (λ q. apart (cc))).0 in
      let s = slot_numbers kind lane i (own kind c lane i o).slot in
      before n lane i (none_before_first (is_wrong kind c value) 256) o (λ small. omega (arith, past, s.of_lane))

  first_wrong_lem : (lane i : ℕ) → judged kind c value ≡ Err (Fragment lane i) → FirstWrong kind c value lane i
  unfolding judged
  first_wrong_lem lane i e =
      let n : ℕ = first (is_wrong kind c value) 256 in
      let ended = ended_at (ltb n 256) e (λ q. apart (cc)) in
      let named = ended.1 in
      let of_lane : n / 8 ≡ lane = cc in
      let of_register : n % 8 ≡ i = cc in
      let both =
      (and-eq-true_iff (is_own kind c (n / 8) (n % 8)) (not (is_of_sort kind (value (n / 8) (n % 8))))).0
      (first_passes (is_wrong kind c value) 256 (ltb-true n 256 ended.0)) in
      record {
        is_own_lem = rw (of_lane, of_register) at both.0;
        wrong = rw (of_lane, of_register) at (not_right (is_of_sort kind (value (n / 8) (n % 8))) both.1);
        smallest = λ other j o less.
            before n other j (none_before_first (is_wrong kind c value) 256) o (λ small. earlier n other j lane i small of_lane of_register less);
      }
    where
      earlier : (n other j lane i : ℕ) → j < 8 → n / 8 ≡ lane → n % 8 ≡ i → ComesBefore other j lane i → 8 * other + j < n
      earlier n other j lane i small l r (inl h) = omega (arith, l, r)
      earlier n other j lane i small l r (inr h) = omega (arith, l, r, h.0, h.1)

  pub judged_means : Judged kind c value (judged kind c value)
  judged_means = record { accepted = all_of_sort; refused = first_wrong_lem }

-- what was dealt can be collected, and then every place of the matrix has what it had, whatever the tile collected into
pub record GivenBack (kind c : ℕ) (tile lanes into : List (List Register)) : Type 0 where
  pub answer : collect_answer kind c (dealt_lanes kind c tile lanes) ≡ no_refusal
  pub places : (row column : ℕ) → is_place kind (at c row column) ≡ true
      → entry Empty (collected_tile kind c (dealt_lanes kind c tile lanes) into) row column ≡ entry Empty tile row column
  pub others : (row column : ℕ) → is_place kind (at c row column) ≡ false
      → entry Empty (collected_tile kind c (dealt_lanes kind c tile lanes) into) row column ≡ entry Empty into row column

pub collected_as_dealt : (kind c : ℕ) (tile lanes into : List (List Register)) → AreLanes lanes → IsTile into → deal_answer kind c tile ≡ no_refusal
    → GivenBack kind c tile lanes into
collected_as_dealt kind c tile lanes into l t e =
    let matrix = ended_at (is_matrix kind c) e (λ q. apart (cc)) in
    let dealing : dealt_lanes kind c tile lanes ≡ dealt Empty kind c tile lanes = ap (λ (m : Result ⊤ Refusal). filled m (dealt Empty kind c tile lanes) lanes) e in
    let accepted : collect_answer kind c (dealt Empty kind c tile lanes) ≡ no_refusal = rw matrix.0 (judged_dealt kind c tile lanes l ∙ matrix.1) in
    let whole : collected_tile kind c (dealt_lanes kind c tile lanes) into ≡ collected Empty kind c (dealt Empty kind c tile lanes) into =
    ap (λ (x : List (List Register)). collected_tile kind c x into) dealing
    ∙ ap (λ (m : Result ⊤ Refusal). filled m (collected Empty kind c (dealt Empty kind c tile lanes) into) into) accepted in
    let u = undo_each_other Empty kind c in
    record {
      answer = ap (collect_answer kind c) dealing ∙ accepted;
      places = λ row column p. ap (λ (x : List (List Register)). entry Empty x row column) whole ∙ u.on_places tile lanes into row column l t p;
      others = λ row column p. ap (λ (x : List (List Register)). entry Empty x row column) whole ∙ u.other_places (dealt Empty kind c tile lanes) into row column p;
    }

-- and what was collected can be dealt, and then every register of the computation has what it had, whatever the lanes dealt to
pub record DealtBack (kind c : ℕ) (lanes tile into : List (List Register)) : Type 0 where
  pub answer : deal_answer kind c (collected_tile kind c lanes tile) ≡ no_refusal
  pub registers : (lane i : ℕ) → is_own kind c lane i ≡ true
      → entry Empty (dealt_lanes kind c (collected_tile kind c lanes tile) into) lane i ≡ entry Empty lanes lane i
  pub others : (lane i : ℕ) → is_own kind c lane i ≡ false
      → entry Empty (dealt_lanes kind c (collected_tile kind c lanes tile) into) lane i ≡ entry Empty into lane i

pub dealt_as_collected : (kind c : ℕ) (lanes tile into : List (List Register)) → IsTile tile → AreLanes into → collect_answer kind c lanes ≡ no_refusal
    → DealtBack kind c lanes tile into
dealt_as_collected kind c lanes tile into t l e =
    let matrix = ended_at (is_matrix kind c) e (λ q. apart (cc)) in
    let made : List (List Register) = collected Empty kind c lanes tile in
    let collecting : collected_tile kind c lanes tile ≡ made = ap (λ (m : Result ⊤ Refusal). filled m made tile) e in
    let u = undo_each_other Empty kind c in
    let accepted : deal_answer kind c made ≡ no_refusal =
    rw matrix.0
    (judged_same kind c (λ lane i. in_tile Empty made (place kind lane i)) (entry Empty lanes) (in_place Empty kind c lanes tile t) ∙ matrix.1) in
    let whole : dealt_lanes kind c (collected_tile kind c lanes tile) into ≡ dealt Empty kind c made into =
    ap (λ (x : List (List Register)). dealt_lanes kind c x into) collecting ∙ ap (λ (m : Result ⊤ Refusal). filled m (dealt Empty kind c made into) into) accepted in
    record {
      answer = ap (deal_answer kind c) collecting ∙ accepted;
      registers = λ lane i o. ap (λ (x : List (List Register)). entry Empty x lane i) whole ∙ u.on_lanes lanes tile into lane i t l o;
      others = λ lane i o. ap (λ (x : List (List Register)). entry Empty x lane i) whole ∙ u.other_lanes made into lane i o;
    }
