-- Each of the numbers 1 to 6 by itself, for every card: the ladder of checks gives a number exactly where the checks before it are passed and its own
-- is not, rung by rung.
use Rattle.std.specs.Prelude.{Result, ⊤, Err, Ok}
use mathlib.Core.Path.{◌≡◌, refl, sym, ap, ◌∙◌}
use mathlib.Core.Bool.{Bool, true, false, cond, not, true≢false}
use mathlib.Core.Logic.{◌↔◌}
use Prim.Native.Nat.{ℕ, suc, ◌≤◌}
use native.Mathlib.Omega.{arith}
use lib.Dec.{leb, eqb}
use borrow.Author.Tests.{leb-true, eqb-false}
use Rattle.answers.specs.Refusals.{answer, refusal_numbers, no_refusal}
use Rattle.answers.specs.declared.Numbers.{Numbers}
use Rattle.answers.specs.declared.Refusal.{Refusal}
use Rattle.answers.proofs.OneToOne.{refusal_not_zero, either}
use Rattle.card.specs.Admission.{counts_fit, numbers_fit, axes_fit, space_fits, few_enough, swizzle_fits, admission, admission_numbers}
use Rattle.card.specs.declared.Card.{Card}
use Rattle.card.proofs.Theorems.{after_six, after_six_lem}
use Rattle.card.proofs.Within.{CountsWithin, NumbersWithin, AxesWithin, SpaceWithin, SizesWithin, SwizzleWithin, WithinLimits, counts_exactly, numbers_exactly, axes_exactly, space_exactly, sizes_exactly, swizzle_exactly, within_limits_exactly}

-- none of the numbers 1 to k
abbrev pub Past : ℕ → Numbers → Type 0
Past k n = (j : ℕ) → 1 ≤ j → j ≤ k → n.number ≡ j → ⊥

-- the numbers 1 to 6 of a question that begins with these checks: each exactly where the checks before it are passed and its own is not
pub record OfSix (card : Card) (n : Numbers) : Type 0 where
  pub counts : (n ≡ answer 1 0 0 0) ↔ (CountsWithin card → ⊥)
  pub numbers : (n ≡ answer 2 0 0 0) ↔ (CountsWithin card × (NumbersWithin card → ⊥))
  pub axes : (n ≡ answer 3 0 0 0) ↔ (CountsWithin card × (NumbersWithin card × (AxesWithin card → ⊥)))
  pub space : (n ≡ answer 4 0 0 0) ↔ (CountsWithin card × (NumbersWithin card × (AxesWithin card × (SpaceWithin card.lengths → ⊥))))
  pub sizes : (n ≡ answer 5 0 0 0)
      ↔ (CountsWithin card × (NumbersWithin card × (AxesWithin card × (SpaceWithin card.lengths × (SizesWithin card → ⊥)))))
  pub swizzle : (n ≡ answer 6 0 0 0)
      ↔ (CountsWithin card × (NumbersWithin card × (AxesWithin card × (SpaceWithin card.lengths × (SizesWithin card × (SwizzleWithin card → ⊥))))))
  -- none of them has details
  pub bare : (j : ℕ) → 1 ≤ j → j ≤ 6 → n.number ≡ j → n ≡ answer j 0 0 0
  -- and none is given exactly where every number of the card lies within the limits
  pub passed : Past 6 n ↔ WithinLimits card

-- one rung: a check with its number, and what comes where it is passed
module _ (k : ℕ) (b : Bool) {Fits : Type 0} (exactly : (b ≡ true) ↔ Fits) (rest : Numbers) where
  abbrev stage : Numbers
  stage = cond (not b) (answer k 0 0 0) rest

  here : 1 ≤ k → Past k rest → (stage ≡ answer k 0 0 0) ↔ (Fits → ⊥)
  here low past = split b refl
    where
      split : (c : Bool) → b ≡ c → (cond (not c) (answer k 0 0 0) rest ≡ answer k 0 0 0) ↔ (Fits → ⊥)
      split true t = (λ e. absurd (past k low (omega arith) (ap (λ (m : Numbers). m.number) e)), λ not_so. absurd (not_so (exactly.0 t)))
      split false t = (λ e fits. true≢false (sym (exactly.1 fits) ∙ t), λ not_so. refl)

  later : (j : ℕ) → eqb k j ≡ false → {When : Type 0} → (rest ≡ answer j 0 0 0) ↔ When → (stage ≡ answer j 0 0 0) ↔ (Fits × When)
  later j other {When} row = split b refl
    where
      split : (c : Bool) → b ≡ c → (cond (not c) (answer k 0 0 0) rest ≡ answer j 0 0 0) ↔ (Fits × When)
      split true t = (λ e. (exactly.0 t, row.0 e), λ so. row.1 so.1)
      split false t = (
        λ e. absurd (eqb-false k j other (ap (λ (m : Numbers). m.number) e)),
        λ so. absurd (true≢false (sym (exactly.1 so.0) ∙ t)),
      )

past_rung : (k : ℕ) (b : Bool) (rest : Numbers) → Past (suc k) rest → Past k (cond (not b) (answer (suc k) 0 0 0) rest)
past_rung k true rest past j low high e = past j low (omega arith) e
past_rung k false rest past j low high e = omega arith

abbrev Bare : Numbers → Type 0
Bare n = (j : ℕ) → 1 ≤ j → j ≤ 6 → n.number ≡ j → n ≡ answer j 0 0 0

bare_rung : (k : ℕ) (b : Bool) (rest : Numbers) → Bare rest → Bare (cond (not b) (answer k 0 0 0) rest)
bare_rung k b rest bare = either Bare (not b) (λ j low high e. ap (λ (m : ℕ). answer m 0 0 0) e) bare

-- the ladder, with what comes after it
module _ (card : Card) (last : Numbers) (late : Past 6 last) where
  abbrev six : Numbers
  six = cond (not (swizzle_fits card)) (answer 6 0 0 0) last

  abbrev five : Numbers
  five = cond (not (few_enough card)) (answer 5 0 0 0) six

  abbrev four : Numbers
  four = cond (not (space_fits card.lengths)) (answer 4 0 0 0) five

  abbrev three : Numbers
  three = cond (not (axes_fit card)) (answer 3 0 0 0) four

  abbrev two : Numbers
  two = cond (not (numbers_fit card)) (answer 2 0 0 0) three

  after1 : (j : ℕ) → eqb 1 j ≡ false → {When : Type 0} → (two ≡ answer j 0 0 0) ↔ When
      → (after_six card last ≡ answer j 0 0 0) ↔ (CountsWithin card × When)
  after1 = later 1 (counts_fit card) (counts_exactly card) two

  after2 : (j : ℕ) → eqb 2 j ≡ false → {When : Type 0} → (three ≡ answer j 0 0 0) ↔ When → (two ≡ answer j 0 0 0) ↔ (NumbersWithin card × When)
  after2 = later 2 (numbers_fit card) (numbers_exactly card) three

  after3 : (j : ℕ) → eqb 3 j ≡ false → {When : Type 0} → (four ≡ answer j 0 0 0) ↔ When → (three ≡ answer j 0 0 0) ↔ (AxesWithin card × When)
  after3 = later 3 (axes_fit card) (axes_exactly card) four

  after4 : (j : ℕ) → eqb 4 j ≡ false → {When : Type 0} → (five ≡ answer j 0 0 0) ↔ When
      → (four ≡ answer j 0 0 0) ↔ (SpaceWithin card.lengths × When)
  after4 = later 4 (space_fits card.lengths) (space_exactly card.lengths) five

  after5 : (j : ℕ) → eqb 5 j ≡ false → {When : Type 0} → (six ≡ answer j 0 0 0) ↔ When → (five ≡ answer j 0 0 0) ↔ (SizesWithin card × When)
  after5 = later 5 (few_enough card) (sizes_exactly card) six

  ladder : (Past 6 (after_six card last) ↔ WithinLimits card) → OfSix card (after_six card last)
  ladder passed =
      let past5 = past_rung 5 (swizzle_fits card) last late in
      let past4 = past_rung 4 (few_enough card) six past5 in
      let past3 = past_rung 3 (space_fits card.lengths) five past4 in
      let past2 = past_rung 2 (axes_fit card) four past3 in
      let past1 = past_rung 1 (numbers_fit card) three past2 in
      record {
        counts = here 1 (counts_fit card) (counts_exactly card) two (omega arith) past1;
        numbers = after1 2 refl (here 2 (numbers_fit card) (numbers_exactly card) three (omega arith) past2);
        axes = after1 3 refl (after2 3 refl (here 3 (axes_fit card) (axes_exactly card) four (omega arith) past3));
        space =
            after1 4 refl
            (after2 4 refl (after3 4 refl (here 4 (space_fits card.lengths) (space_exactly card.lengths) five (omega arith) past4)));
        sizes =
            after1 5 refl
            (after2 5 refl (after3 5 refl (after4 5 refl (here 5 (few_enough card) (sizes_exactly card) six (omega arith) past5))));
        swizzle =
            after1 6 refl
            (after2 6 refl
            (after3 6 refl (after4 6 refl (after5 6 refl (here 6 (swizzle_fits card) (swizzle_exactly card) last (omega arith) late)))));
        bare =
            bare_rung 1 (counts_fit card) two
            (bare_rung 2 (numbers_fit card) three
            (bare_rung 3 (axes_fit card) four
            (bare_rung 4 (space_fits card.lengths) five
            (bare_rung 5 (few_enough card) six
            (bare_rung 6 (swizzle_fits card) last (λ j low high e. absurd (late j low high e)))))));
        passed = passed;
      }

-- the refusals of these checks have the numbers 1 to 6
abbrev Early : Result ⊤ Refusal → Type 0
Early a = leb (admission_numbers a).number 6 ≡ true

early : (card : Card) → Early (admission card)
unfolding admission
early card =
    either Early (not (counts_fit card)) refl
    (either Early (not (numbers_fit card)) refl
    (either Early (not (axes_fit card)) refl
    (either Early (not (space_fits card.lengths)) refl
    (either Early (not (few_enough card)) refl
    (either Early (not (swizzle_fits card)) refl refl)))))

pub refused_early : (card : Card) (r : Refusal) → admission card ≡ Err r → (1 ≤ (refusal_numbers r).number) × ((refusal_numbers r).number ≤ 6)
refused_early card r e =
    let n = (refusal_numbers r).number in
    let some = eqb-false n 0 (refusal_not_zero r) in
    (omega (arith, some), leb-true n 6 (ap (λ (a : Result ⊤ Refusal). leb (admission_numbers a).number 6) (sym e) ∙ early card))

-- the numbers 1 to 6 of every question that begins with these checks, and gives none of them to a card that passes them
pub of_six : (card : Card) (n : Numbers) → ((r : Refusal) → admission card ≡ Err r → n ≡ refusal_numbers r)
    → (admission card ≡ no_refusal → Past 6 n) → OfSix card n
of_six card n refused admitted =
    let whole = after_six_lem card n (after (admission card)) refused (λ e. sym (ap after e)) in
    rw whole (ladder card (after (admission card)) (late (admission card) refl) (rw whole at passed))
  where
    after : Result ⊤ Refusal → Numbers
    after (Ok _) = n
    after (Err r) = answer 0 0 0 0

    late : (a : Result ⊤ Refusal) → admission card ≡ a → Past 6 (after a)
    late (Ok _) e = admitted e
    late (Err r) e = λ j low high h. omega arith

    only : (a : Result ⊤ Refusal) → admission card ≡ a → Past 6 n → WithinLimits card
    only (Ok _) e past = (within_limits_exactly card).0 e
    only (Err r) e past =
        let k = refused_early card r e in
        absurd (past (refusal_numbers r).number k.0 k.1 (ap (λ (m : Numbers). m.number) (refused r e)))

    passed : Past 6 n ↔ WithinLimits card
    passed = (only (admission card) refl, λ w. admitted ((within_limits_exactly card).1 w))

-- so of the admission itself; at 0 it has no details either
pub admission_each_number : (card : Card) (r : Result ⊤ Refusal) → r ≡ admission card → OfSix card (admission_numbers r)
admission_each_number card r e =
    of_six card (admission_numbers r) (λ s h. ap admission_numbers (e ∙ h))
    (λ h j low high k. let zero_number = ap (λ (a : Result ⊤ Refusal). (admission_numbers a).number) (e ∙ h) in omega arith)

pub admission_zero : (card : Card) (r : Result ⊤ Refusal) → r ≡ admission card → (admission_numbers r ≡ answer 0 0 0 0) ↔ WithinLimits card
admission_zero card r e =
    let six = admission_each_number card r e in (
      λ zero_number. six.passed.0 (λ j low high k. let h = ap (λ (m : Numbers). m.number) zero_number in omega arith),
      λ w. ap admission_numbers (e ∙ (within_limits_exactly card).1 w),
    )
