-- Dealing and collecting in document 01's numbers: 14 where the kind or the computation is not one, else 14 with the first value of the wrong
-- sort, else 0. The search names exactly the first: a number with this lane and register passes its test and none before it does.
use Rattle.std.specs.Prelude.{Ok, Err, Result, ⊤}
use mathlib.Core.Path.{◌≡◌, refl, sym, ap, ◌∙◌}
use mathlib.Core.Logic.{◌↔◌, inl, inr}
use mathlib.Core.Bool.{Bool, true, false, cond, not, ◌&&◌, true≢false}
use mathlib.Core.List.{List}
use Prim.Native.Nat.{ℕ, ◌+◌, ◌*◌, ◌/◌, ◌%◌, ◌<◌}
use native.Mathlib.Decide.{ℕ_discrete}
use native.Mathlib.Omega.{arith}
use lib.Dec.{ltb}
use Rattle.answers.specs.declared.Refusal.{Refusal}
use Rattle.laws.proofs.Rungs.{apart}
use Rattle.answers.specs.Refusals.{answer, no_refusal}
use Rattle.answers.specs.declared.Numbers.{Numbers}
use Rattle.answers.specs.declared.Refusal.TheVariants.{Fragment}
use Rattle.answers.proofs.OneToOne.{rung}
use Rattle.fragment.specs.Kinds.{place}
use Rattle.fragment.specs.Fragment.{outside}
use Rattle.fragment.proofs.Inside.{slot_numbers}
use Rattle.values.specs.declared.Register.{Register}
use Rattle.values.specs.declared.Register.TheVariants.{Empty}
use Rattle.values.specs.Rows.{entry}
use Rattle.values.specs.Values.{is_own, in_tile}
use Rattle.values.specs.Registers.{is_matrix, is_of_sort, is_wrong, judged, deal_answer, collect_answer, moved_numbers}
use Rattle.values.specs.Holdings.{deal_holdings_answer, collect_holdings_answer}
use Rattle.values.proofs.First.{NoneBefore}
use Rattle.values.proofs.Sorts.{judged_at, judged_done}
use Rattle.values.proofs.Holder.{own}
use Rattle.values.proofs.Answers.{ComesBefore, FirstWrong, AllOfSort, judged_means, moved_one_to_one}

-- the numbers of a question on values of registers; `one` says whether the kind and the computation are such
pub record MovedInNumbers (kind c : ℕ) (one : Bool) (value : ℕ → ℕ → Register) (n : Numbers) : Type 0 where
  -- 14 without a register
  pub no_matrix : one ≡ false → n ≡ answer 14 0 0 0
  -- else 14 with the smallest lane and register whose value is of the wrong sort
  pub wrong_sort : one ≡ true → (lane i : ℕ) → (n ≡ answer 14 lane i 0) ↔ FirstWrong kind c value lane i
  -- and 0 where there is none
  pub moved : (n ≡ answer 0 0 0 0) ↔ ((one ≡ true) × AllOfSort kind c value)

not_wrong : (b s : Bool) → (b ≡ true → s ≡ true) → (b && not s) ≡ false
not_wrong true s e = ap not (e refl)
not_wrong false s e = refl

module _ (kind c : ℕ) (value : ℕ → ℕ → Register) where
  -- where all are of the kind's sort the search finds none
  none_named : AllOfSort kind c value → judged kind c value ≡ no_refusal
  none_named all =
      judged_done kind c value
      (λ k h. not_wrong (is_own kind c (k / 8) (k % 8)) (is_of_sort kind (value (k / 8) (k % 8))) (all (k / 8) (k % 8)))

  -- the first of the wrong sort is named
  named : (lane i : ℕ) → FirstWrong kind c value lane i → judged kind c value ≡ Err (Fragment lane i)
  named lane i w =
      let s = slot_numbers kind lane i (own kind c lane i w.is_own_lem).slot in
      let small : i < 8 = omega (arith, s.of_register, s.sizes_of.most_registers) in
      let of_lane : (8 * lane + i) / 8 ≡ lane = omega arith in
      let of_register : (8 * lane + i) % 8 ≡ i = omega arith in
      judged_at kind c value (8 * lane + i) (omega (arith, s.of_lane, small)) (none_before small) (rw (of_lane, of_register, w.is_own_lem, w.wrong))
      ∙ rw (of_lane, of_register)
    where
      earlier : (k : ℕ) → i < 8 → k < 8 * lane + i → Dec (k / 8 ≡ lane) → ComesBefore (k / 8) (k % 8) lane i
      earlier k small h (yes e) = inr (e, omega arith)
      earlier k small h (no d) = inl (omega arith)

      none_before : i < 8 → NoneBefore (is_wrong kind c value) (8 * lane + i)
      none_before small k h =
          not_wrong (is_own kind c (k / 8) (k % 8)) (is_of_sort kind (value (k / 8) (k % 8)))
          (λ o. w.smallest (k / 8) (k % 8) o (earlier k small h (ℕ_discrete (k / 8) lane)))

  in_numbers : (one : Bool) (r : Result ⊤ Refusal) → r ≡ cond one (judged kind c value) (Err outside) → MovedInNumbers kind c one value (moved_numbers r)
  in_numbers false r e = record {
    no_matrix = λ q. ap moved_numbers e;
    wrong_sort = λ q. absurd (true≢false (sym q));
    moved = (λ n. let done : r ≡ no_refusal = moved_one_to_one r no_refusal n in absurd (apart (cc)), λ p. absurd (true≢false (sym p.0)));
  }
  in_numbers true r e = record {
    no_matrix = λ q. absurd (true≢false q);
    wrong_sort = λ q lane i. (
      λ n. (judged_means kind c value).refused lane i (sym e ∙ moved_one_to_one r (Err (Fragment lane i)) n),
      λ w. ap moved_numbers (e ∙ named lane i w),
    );
    moved = (
      λ n. (refl, (judged_means kind c value).accepted (sym e ∙ moved_one_to_one r no_refusal n)),
      λ p. ap moved_numbers (e ∙ none_named p.1),
    );
  }

-- dealing judges the place of each register, collecting the register
pub dealing_in_numbers : (kind c : ℕ) (tile : List (List Register)) (r : Result ⊤ Refusal) → r ≡ deal_answer kind c tile
    → MovedInNumbers kind c (is_matrix kind c) (λ lane i. in_tile Empty tile (place kind lane i)) (moved_numbers r)
dealing_in_numbers kind c tile r e = in_numbers kind c (λ lane i. in_tile Empty tile (place kind lane i)) (is_matrix kind c) r e

pub collecting_in_numbers : (kind c : ℕ) (lanes : List (List Register)) (r : Result ⊤ Refusal) → r ≡ collect_answer kind c lanes
    → MovedInNumbers kind c (is_matrix kind c) (entry Empty lanes) (moved_numbers r)
collecting_in_numbers kind c lanes r e = in_numbers kind c (entry Empty lanes) (is_matrix kind c) r e

-- over holdings kind 5 is none, and nothing that is collected is of the wrong sort
both_rungs : (a b : Bool) (x y : Result ⊤ Refusal) → cond a (cond b x y) y ≡ cond (a && b) x y
both_rungs true b x y = refl
both_rungs false b x y = refl

pub dealing_to_holdings_in_numbers : (kind c : ℕ) (tile : List (List Register)) (r : Result ⊤ Refusal) → r ≡ deal_holdings_answer kind c tile
    → MovedInNumbers kind c (ltb 5 kind && is_matrix kind c) (λ lane i. in_tile Empty tile (place kind lane i)) (moved_numbers r)
dealing_to_holdings_in_numbers kind c tile r e =
    let value : ℕ → ℕ → Register = λ lane i. in_tile Empty tile (place kind lane i) in
    in_numbers kind c value (ltb 5 kind && is_matrix kind c) r (e ∙ both_rungs (ltb 5 kind) (is_matrix kind c) (judged kind c value) (Err outside))

pub collecting_from_holdings_in_numbers : (kind c : ℕ) (r : Result ⊤ Refusal) → r ≡ collect_holdings_answer kind c
    → moved_numbers r ≡ cond (ltb 5 kind && is_matrix kind c) (answer 0 0 0 0) (answer 14 0 0 0)
collecting_from_holdings_in_numbers kind c r e = ap moved_numbers e ∙ rung moved_numbers (ltb 5 kind && is_matrix kind c) refl refl
