-- What the admission means, in plain statements: it is settled, its numbers are one-to-one, document 01's and none of a later check, and what
-- stands past a count plays no part.
use Rattle.std.specs.Prelude.{Result, ⊤, Ok, Err}
use mathlib.Core.Path.{◌≡◌, refl, sym, ap, ◌∙◌}
use mathlib.Core.Bool.{Bool, true, false, cond, not, ◌||◌}
use Prim.Native.Nat.{ℕ}
use lib.Dec.{eqb}
use Rattle.answers.specs.Refusals.{answer, refusal_numbers, no_refusal}
use Rattle.answers.specs.declared.Numbers.{Numbers}
use Rattle.answers.specs.declared.Refusal.{Refusal}
use Rattle.answers.specs.declared.Refusal.TheVariants.{Counts, Limits, Axis, Space, TooMany, Swizzle}
use Rattle.answers.proofs.OneToOne.{read_back, refused_back, pinned, rung, either}
use Rattle.card.specs.Card.{listed, marks_of}
use Rattle.card.specs.Admission.{counts_fit, numbers_fit, axes_fit, space_fits, few_enough, swizzle_fits, admission, admission_numbers}
use Rattle.card.specs.declared.Card.{Card}
use Rattle.card.specs.declared.Iters.{Iters}
use Rattle.card.proofs.Admitted.{Checked}

-- two outcomes that the promise of the admission allows are equal
pub admission_settled : (card : Card) (p q : Result ⊤ Refusal) → p ≡ admission card → q ≡ admission card → p ≡ q
admission_settled card p q e f = e ∙ sym f

-- pinning the numbers pins the answer
admission_back : (p : Result ⊤ Refusal) → read_back (λ n. no_refusal) Err (admission_numbers p) ≡ p
admission_back (Ok _) = refl
admission_back (Err r) = refused_back (λ n. no_refusal) Err r

pub admission_one_to_one : (p q : Result ⊤ Refusal) → admission_numbers p ≡ admission_numbers q → p ≡ q
admission_one_to_one = pinned (λ n. no_refusal) Err admission_numbers admission_back

-- a card that passes all six checks is admitted
pub checked_admitted : (card : Card) → Checked card → admission card ≡ no_refusal
unfolding admission
checked_admitted card k = rw (k.counts, k.numbers, k.axes, k.space, k.few, k.swizzle)

-- the numbers of the checks on the table, and of 17: checks 1 to 6 give none of them
abbrev pub of_table : ℕ → Bool
of_table n = eqb n 7 || eqb n 8 || eqb n 12

abbrev Early : Result ⊤ Refusal → Type 0
Early a = (of_table (admission_numbers a).number ≡ false) × (eqb (admission_numbers a).number 17 ≡ false)

pub admission_number : (card : Card) → Early (admission card)
unfolding admission
admission_number card =
    either Early (not (counts_fit card)) (refl, refl)
    (either Early (not (numbers_fit card)) (refl, refl)
    (either Early (not (axes_fit card)) (refl, refl)
    (either Early (not (space_fits card.lengths)) (refl, refl)
    (either Early (not (few_enough card)) (refl, refl)
    (either Early (not (swizzle_fits card)) (refl, refl) (refl, refl))))))

-- checks 1 to 6 in document 01's numbers, the first that fails, and what comes where none does
abbrev pub after_six : Card → Numbers → Numbers
after_six card passed =
    cond (not (counts_fit card)) (answer 1 0 0 0)
    (cond (not (numbers_fit card)) (answer 2 0 0 0)
    (cond (not (axes_fit card)) (answer 3 0 0 0)
    (cond (not (space_fits card.lengths)) (answer 4 0 0 0)
    (cond (not (few_enough card)) (answer 5 0 0 0)
    (cond (not (swizzle_fits card)) (answer 6 0 0 0)
    passed)))))

abbrev numbers_then : Numbers → Result ⊤ Refusal → Numbers
numbers_then passed (Ok _) = passed
numbers_then passed (Err r) = refusal_numbers r

pub after_six_lem : (card : Card) (n passed : Numbers) → ((r : Refusal) → admission card ≡ Err r → n ≡ refusal_numbers r)
    → (admission card ≡ no_refusal → n ≡ passed) → n ≡ after_six card passed
unfolding admission
after_six_lem card n passed refused admitted = split (admission card) refl ∙ ladder
  where
    split : (a : Result ⊤ Refusal) → admission card ≡ a → n ≡ numbers_then passed a
    split (Ok _) e = admitted e
    split (Err r) e = refused r e

    ladder : numbers_then passed (admission card) ≡ after_six card passed
    ladder =
        let numbers : Result ⊤ Refusal → Numbers = numbers_then passed in
        rung numbers (not (counts_fit card)) refl
        (rung numbers (not (numbers_fit card)) refl
        (rung numbers (not (axes_fit card)) refl
        (rung numbers (not (space_fits card.lengths)) refl
        (rung numbers (not (few_enough card)) refl
        (rung numbers (not (swizzle_fits card)) refl refl)))))

pub admission_in_numbers : (card : Card) (r : Result ⊤ Refusal) → r ≡ admission card → admission_numbers r ≡ after_six card (answer 0 0 0 0)
admission_in_numbers card r e =
    after_six_lem card (admission_numbers r) (answer 0 0 0 0) (λ s h. ap admission_numbers (e ∙ h)) (λ h. ap admission_numbers (e ∙ h))

-- two lists of iters that differ past the count alone
pub record Alike (a b : Iters) : Type 0 where
  pub count : a.count ≡ b.count
  pub iters : listed a ≡ listed b

-- two cards that differ past the counts of their iters alone
pub record AlikeCards (a b : Card) : Type 0 where
  pub shard : Alike a.shard b.shard
  pub marks : marks_of a ≡ marks_of b
  pub replica : Alike a.replica b.replica
  pub offset : a.offset ≡ b.offset
  pub lengths : a.lengths ≡ b.lengths
  pub swizzle : a.swizzle ≡ b.swizzle

-- iters past a count are ignored, whatever they hold
pub past_the_count : (a b : Card) → AlikeCards a b → admission a ≡ admission b
unfolding admission
past_the_count a b k =
    rw (k.shard.iters, k.marks, k.replica.iters, k.shard.count, k.replica.count, k.offset, k.lengths, k.swizzle)
