-- What the admission with 17 means, in plain for-alls: checks 1 to 6 first, and then the record of the pair, case by case of what is found.
use Rattle.std.specs.Prelude.{Err, Result, ⊤, Ok, Option, Some, None}
use mathlib.Core.Path.{◌≡◌, refl, sym, ap, ◌∙◌, subst}
use mathlib.Core.Bool.{false, true≢false}
use mathlib.Core.Logic.{◌↔◌}
use Prim.Native.Nat.{ℕ, ◌<◌}
use Rattle.laws.proofs.Rungs.{apart}
use Rattle.answers.specs.Refusals.{answer, refusal_numbers, no_refusal}
use Rattle.answers.specs.declared.Numbers.{Numbers}
use Rattle.answers.specs.declared.Refusal.{Refusal}
use Rattle.answers.specs.declared.Refusal.TheVariants.{Idle}
use Rattle.card.specs.Card.{copies}
use Rattle.card.specs.Admission.{admission, admission_numbers}
use Rattle.card.specs.declared.Card.{Card}
use Rattle.card.specs.declared.Iters.{Iters}
use Rattle.card.proofs.Theorems.{of_table, admission_number, after_six, after_six_lem, Alike, AlikeCards, past_the_count}
use Rattle.idle.specs.Idle.{SameSums, IdlePair, NoIdlePair, Finds}
use Rattle.idle.specs.Run.{pair_of}
use Rattle.idle.specs.Admission.{FullChecks, AdmissionSays, idle_check, next, full_admission}
use Rattle.idle.proofs.Run.{run_finds, found_is_run}

module _ (card : Card) where
  -- checks 1 to 6 come first
  pub refused_before : {refusal : Refusal} → admission card ≡ Err refusal → full_admission card ≡ Err refusal
  unfolding full_admission
  refused_before e = ap (λ (a : Result ⊤ Refusal). next a (idle_check (pair_of card.replica))) e

  -- then 17, by what is found
  pub then_idle : (i : Option (ℕ × ℕ)) → admission card ≡ no_refusal → Finds card.replica i → full_admission card ≡ idle_check i
  unfolding full_admission
  then_idle i e f = ap (λ (a : Result ⊤ Refusal). next a (idle_check (pair_of card.replica))) e ∙ ap idle_check (sym (found_is_run card.replica i f))

  -- and so back: an admission is by one of the two
  by_cases : (goal : Result ⊤ Refusal → Type 0) → ((r : Refusal) → admission card ≡ Err r → goal (Err r))
      → ((i : Option (ℕ × ℕ)) → admission card ≡ no_refusal → Finds card.replica i → goal (idle_check i)) → goal (full_admission card)
  by_cases goal refused judged = split (admission card) refl
    where
      split : (a : Result ⊤ Refusal) → admission card ≡ a → goal (full_admission card)
      split (Ok _) e =
          let f = run_finds card.replica in subst goal (sym (then_idle (pair_of card.replica) e f)) (judged (pair_of card.replica) e f)
      split (Err r) e = subst goal (sym (refused_before e)) (refused r e)

  -- 17 is given exactly when checks 1 to 6 are passed and this is the pair
  pub idle_exactly : (a b : ℕ) → (full_admission card ≡ Err (Idle a b)) ↔ ((admission card ≡ no_refusal) × IdlePair card.replica a b)
  idle_exactly a b = (
    by_cases (λ (x : Result ⊤ Refusal). x ≡ Err (Idle a b) → (admission card ≡ no_refusal) × IdlePair card.replica a b) refused found,
    λ h. then_idle (Some (a, b)) h.0 h.1,
  )
    where
      refused : (r : Refusal) → admission card ≡ Err r → ◌≡◌ {A = Result ⊤ Refusal} (Err r) (Err (Idle a b)) → (admission card ≡ no_refusal) × IdlePair card.replica a b
      refused r e t =
          let same : r ≡ Idle a b = cc in
          absurd (true≢false (rw (e, same) at (admission_number card).1))

      found : (i : Option (ℕ × ℕ)) → admission card ≡ no_refusal → Finds card.replica i → idle_check i ≡ Err (Idle a b)
          → (admission card ≡ no_refusal) × IdlePair card.replica a b
      found (Some (c, d)) e f t = let same_a : c ≡ a = cc in let same_b : d ≡ b = cc in (e, rw (sym same_a, sym same_b) f)
      found None e f t = absurd (apart (cc))

  -- and it is given wherever two different combinations give the same sum on every axis
  pub idle_whenever : admission card ≡ no_refusal → (x y : ℕ) → x < y → y < copies card → SameSums card.replica x y
      → (a : ℕ) × (b : ℕ) × (full_admission card ≡ Err (Idle a b))
  idle_whenever e x y less below same = go (pair_of card.replica) (run_finds card.replica)
    where
      go : (i : Option (ℕ × ℕ)) → Finds card.replica i → (a : ℕ) × (b : ℕ) × (full_admission card ≡ Err (Idle a b))
      go (Some (a, b)) f = (a, b, then_idle (Some (a, b)) e f)
      go None f = absurd (f x y less below same)

  -- a card is admitted exactly when checks 1 to 6 are passed and there is no pair
  pub admitted_exactly : (full_admission card ≡ no_refusal) ↔ ((admission card ≡ no_refusal) × NoIdlePair card.replica)
  admitted_exactly = (
    by_cases (λ (x : Result ⊤ Refusal). x ≡ no_refusal → (admission card ≡ no_refusal) × NoIdlePair card.replica) refused found,
    λ h. then_idle None h.0 h.1,
  )
    where
      refused : (r : Refusal) → admission card ≡ Err r → Err r ≡ no_refusal → (admission card ≡ no_refusal) × NoIdlePair card.replica
      refused r e t = absurd (apart (cc))

      found : (i : Option (ℕ × ℕ)) → admission card ≡ no_refusal → Finds card.replica i → idle_check i ≡ no_refusal → (admission card ≡ no_refusal) × NoIdlePair card.replica
      found (Some (a, b)) e f t = absurd (apart (cc))
      found None e f t = (e, f)

  pub checks_passed : full_admission card ≡ no_refusal → admission card ≡ no_refusal
  checks_passed e = (admitted_exactly.0 e).0

  -- what holds of checks 1 to 6, and of 17, holds of the admission with it
  pub six_or_idle : (goal : Result ⊤ Refusal → Type 0) → goal (admission card) → ((a b : ℕ) → goal (Err (Idle a b))) → goal (full_admission card)
  six_or_idle goal six idle = by_cases goal (λ r e. subst goal e six) found
    where
      found : (i : Option (ℕ × ℕ)) → admission card ≡ no_refusal → Finds card.replica i → goal (idle_check i)
      found (Some (a, b)) e f = idle a b
      found None e f = subst goal e six

  -- no number is one of the checks on the table
  pub full_number : of_table (admission_numbers (full_admission card)).number ≡ false
  full_number = six_or_idle (λ (x : Result ⊤ Refusal). of_table (admission_numbers x).number ≡ false) (admission_number card).0 (λ a b. refl)

-- what the checks say by the pair is what they come to as they are run, and the other way round
module _ (card : Card) {Refusing : Refusal → Type 0} {Passing : Type 0} where
  pub checks_from_run : ((refusal : Refusal) → full_admission card ≡ Err refusal → Refusing refusal) → (full_admission card ≡ no_refusal → Passing)
      → FullChecks card Refusing Passing
  checks_from_run refused passed = record {
    early = λ refusal e. refused refusal (refused_before card e);
    idle = λ a b e pair. refused (Idle a b) ((idle_exactly card a b).1 (e, pair));
    passed = λ e none. passed ((admitted_exactly card).1 (e, none));
  }

  pub run_from_checks : FullChecks card Refusing Passing
      → ((refusal : Refusal) → full_admission card ≡ Err refusal → Refusing refusal) × (full_admission card ≡ no_refusal → Passing)
  run_from_checks k = (
    by_cases card (λ (x : Result ⊤ Refusal). (refusal : Refusal) → x ≡ Err refusal → Refusing refusal) refused found,
    λ e. let so = (admitted_exactly card).0 e in k.passed so.0 so.1,
  )
    where
      refused : (r : Refusal) → admission card ≡ Err r → (refusal : Refusal) → ◌≡◌ {A = Result ⊤ Refusal} (Err r) (Err refusal) → Refusing refusal
      refused r e refusal t = let same : r ≡ refusal = cc in subst Refusing same (k.early r e)

      found : (i : Option (ℕ × ℕ)) → admission card ≡ no_refusal → Finds card.replica i → (refusal : Refusal) → idle_check i ≡ Err refusal → Refusing refusal
      found (Some (a, b)) e f refusal t = let same : Idle a b ≡ refusal = cc in subst Refusing same (k.idle a b e f)
      found None e f refusal t = absurd (apart (cc))

-- the numbers of a question that begins with this admission
pub record AfterAdmission (card : Card) (n passed : Numbers) : Type 0 where
  -- 1 to 6, and then 17 with the pair
  pub idle : (a b : ℕ) → IdlePair card.replica a b → n ≡ after_six card (answer 17 a b 0)
  -- or, where there is none, what comes after
  pub free : NoIdlePair card.replica → n ≡ after_six card passed

pub after_admission_lem : (card : Card) (n passed : Numbers) → ((r : Refusal) → full_admission card ≡ Err r → n ≡ refusal_numbers r)
    → (full_admission card ≡ no_refusal → n ≡ passed) → AfterAdmission card n passed
after_admission_lem card n passed refused admitted =
    let early : (r : Refusal) → admission card ≡ Err r → n ≡ refusal_numbers r = λ r e. refused r (refused_before card e) in
    record {
      idle = λ a b pair. after_six_lem card n (answer 17 a b 0) early (λ e. refused (Idle a b) ((idle_exactly card a b).1 (e, pair)));
      free = λ none. after_six_lem card n passed early (λ e. admitted ((admitted_exactly card).1 (e, none)));
    }

pub full_admission_in_numbers : (card : Card) (r : Result ⊤ Refusal) → r ≡ full_admission card → AfterAdmission card (admission_numbers r) (answer 0 0 0 0)
full_admission_in_numbers card r e =
    after_admission_lem card (admission_numbers r) (answer 0 0 0 0) (λ s h. ap admission_numbers (e ∙ h)) (λ h. ap admission_numbers (e ∙ h))

-- so the answer that is promised is the run's
pub admission_exactly : (card : Card) (r : Result ⊤ Refusal) → AdmissionSays card r ↔ (r ≡ full_admission card)
admission_exactly card r = (
  λ k. go k (full_admission card) refl,
  λ e. checks_from_run card (λ refusal f. e ∙ f) (λ f. e ∙ f),
)
  where
    go : AdmissionSays card r → (a : Result ⊤ Refusal) → full_admission card ≡ a → r ≡ full_admission card
    go k (Ok _) e = (run_from_checks card k).1 e ∙ sym e
    go k (Err refusal) e = (run_from_checks card k).0 refusal e ∙ sym e

-- two outcomes that the promise of this admission allows are equal
pub full_admission_settled : (card : Card) (p q : Result ⊤ Refusal) → AdmissionSays card p → AdmissionSays card q → p ≡ q
full_admission_settled card p q h k = (admission_exactly card p).0 h ∙ sym ((admission_exactly card q).0 k)

-- iters past a count are ignored, whatever they hold: in what is found
pub past_the_count_found : (r s : Iters) → Alike r s → (i : Option (ℕ × ℕ)) → Finds r i → Finds s i
past_the_count_found r s k (Some (a, b)) p = record {
  different = p.different;
  combination = rw k.iters at p.combination;
  same = rw k.iters at p.same;
  smallest_b = rw k.iters at p.smallest_b;
  smallest_a = rw k.iters at p.smallest_a;
}
past_the_count_found r s k None none = rw k.iters at none

-- and in the admission
pub past_the_count_idle : (a b : Card) → AlikeCards a b → full_admission a ≡ full_admission b
unfolding full_admission
past_the_count_idle a b k =
    let i = pair_of a.replica in
    rw (past_the_count a b k)
    (ap (λ (j : Option (ℕ × ℕ)). next (admission b) (idle_check j))
    (found_is_run b.replica i (past_the_count_found a.replica b.replica k.replica i (run_finds a.replica))))
