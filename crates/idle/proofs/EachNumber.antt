-- Each of the numbers 1 to 6 and 17 by itself, for every card: checks 1 to 6 refuse it, or its replica has a pair, or neither, and each of the three names
-- the number.
use Rattle.std.specs.Prelude.{Ok, Err, Option, Some, None, Result, ⊤}
use mathlib.Core.Path.{◌≡◌, refl, sym, ap, ap₂, ◌∙◌}
use mathlib.Core.Logic.{◌↔◌}
use Prim.Native.Nat.{ℕ}
use native.Mathlib.Omega.{arith}
use Rattle.laws.proofs.Rungs.{apart}
use Rattle.answers.specs.Refusals.{answer, refusal_numbers, no_refusal}
use Rattle.answers.specs.declared.Numbers.{Numbers}
use Rattle.answers.specs.declared.Refusal.{Refusal}
use Rattle.answers.specs.declared.Refusal.TheVariants.{Idle}
use Rattle.card.specs.Admission.{admission, admission_numbers}
use Rattle.card.specs.declared.Card.{Card}
use Rattle.card.proofs.Within.{WithinLimits, within_limits_exactly}
use Rattle.card.proofs.EachNumber.{Past, OfSix, refused_early, of_six}
use Rattle.idle.specs.Idle.{IdlePair, NoIdlePair, Finds}
use Rattle.idle.specs.Run.{pair_of}
use Rattle.idle.specs.Admission.{full_admission}
use Rattle.idle.proofs.Run.{run_finds}
use Rattle.idle.proofs.Theorems.{refused_before, idle_exactly, admitted_exactly}

-- none of the numbers 1 to 6 and 17
abbrev pub Late : Numbers → Type 0
Late n = Past 6 n × (n.number ≡ 17 → ⊥)

-- a card within the limits whose replica has no pair
abbrev pub Free : Card → Type 0
Free card = WithinLimits card × NoIdlePair card.replica

-- the numbers 1 to 6 and 17 of a question that begins with this admission
pub record OfAdmission (card : Card) (n : Numbers) : Type 0 where
  pub six : OfSix card n
  -- 17, after 6, with the pair
  pub idle : (a b : ℕ) → (n ≡ answer 17 a b 0) ↔ (WithinLimits card × IdlePair card.replica a b)
  pub idle_details : n.number ≡ 17 → n ≡ answer 17 n.a n.b 0
  -- and none of them is given exactly where the card lies within the limits and has no pair
  pub passed : Late n ↔ Free card

module _ (card : Card) where
  pub free_exactly : (full_admission card ≡ no_refusal) ↔ Free card
  free_exactly =
      let e = admitted_exactly card in
      let w = within_limits_exactly card in
      (λ h. let k = e.0 h in (w.0 k.0, k.1), λ f. e.1 (w.1 f.0, f.1))

  -- checks 1 to 6 refuse a card, or its replica has a pair, or neither
  which : (goal : Type 0) → ((r : Refusal) → admission card ≡ Err r → goal) → ((a b : ℕ) → admission card ≡ no_refusal → IdlePair card.replica a b → goal)
      → (admission card ≡ no_refusal → NoIdlePair card.replica → goal) → goal
  which goal refused idle free = split (admission card) refl
    where
      found : admission card ≡ no_refusal → (i : Option (ℕ × ℕ)) → Finds card.replica i → goal
      found e (Some (a, b)) f = idle a b e f
      found e None f = free e f

      split : (a : Result ⊤ Refusal) → admission card ≡ a → goal
      split (Ok _) e = found e (pair_of card.replica) (run_finds card.replica)
      split (Err r) e = refused r e

  module _ (n : Numbers) (refused : (r : Refusal) → full_admission card ≡ Err r → n ≡ refusal_numbers r) (admitted : full_admission card ≡ no_refusal → Late n) where
    number : {m : Numbers} → n ≡ m → n.number ≡ m.number
    number e = ap (λ (m : Numbers). m.number) e

    early : (r : Refusal) → admission card ≡ Err r → n ≡ refusal_numbers r
    early r e = refused r (refused_before card e)

    of_pair_lem : (a b : ℕ) → admission card ≡ no_refusal → IdlePair card.replica a b → n ≡ answer 17 a b 0
    of_pair_lem a b e pair = refused (Idle a b) ((idle_exactly card a b).1 (e, pair))

    of_none : admission card ≡ no_refusal → NoIdlePair card.replica → Late n
    of_none e none = admitted ((admitted_exactly card).1 (e, none))

    -- the numbers 1 to 6 and 17 of every question that begins with this admission, and gives none of them to a card that it admits
    pub of_admission : OfAdmission card n
    of_admission =
        let within = within_limits_exactly card in
        record {
          six =
              of_six card n early
              (λ e. which (Past 6 n) (λ r h. absurd (apart (cc))) (λ a b h pair j low high k. omega (arith, number (of_pair_lem a b h pair))) (λ h none. (of_none h none).0));
          idle = λ a b. (
            λ e.
                which (WithinLimits card × IdlePair card.replica a b) (λ r h. absurd (omega (arith, number e, number (early r h), (refused_early card r h).1)))
                (λ c d h pair.
                let same = sym (of_pair_lem c d h pair) ∙ e in
                let same_a : c ≡ a = ap (λ (m : Numbers). m.a) same in
                let same_b : d ≡ b = ap (λ (m : Numbers). m.b) same in
                (within.0 h, rw (sym same_a, sym same_b) pair))
                (λ h none. absurd ((of_none h none).1 (number e))),
            λ w. of_pair_lem a b (within.1 w.0) w.1,
          );
          idle_details = λ e.
              which (n ≡ answer 17 n.a n.b 0) (λ r h. absurd (omega (arith, number (early r h), (refused_early card r h).1)))
              (λ a b h pair.
              let is = of_pair_lem a b h pair in
              is ∙ ap₂ (λ (x y : ℕ). answer 17 x y 0) (sym (ap (λ (m : Numbers). m.a) is)) (sym (ap (λ (m : Numbers). m.b) is)))
              (λ h none. absurd ((of_none h none).1 e));
          passed = (
            λ late.
                which (Free card)
                (λ r h. let k = refused_early card r h in absurd (late.0 (refusal_numbers r).number k.0 k.1 (number (early r h))))
                (λ a b h pair. absurd (late.1 (number (of_pair_lem a b h pair)))) (λ h none. (within.0 h, none)),
            λ f. admitted (free_exactly.1 f),
          );
        }

-- so of the admission itself
pub full_admission_each_number : (card : Card) (r : Result ⊤ Refusal) → r ≡ full_admission card → OfAdmission card (admission_numbers r)
full_admission_each_number card r e =
    of_admission card (admission_numbers r) (λ s h. ap admission_numbers (e ∙ h))
    (λ h. let zero_number = ap (λ (a : Result ⊤ Refusal). (admission_numbers a).number) (e ∙ h) in (λ j low high k. omega arith, λ k. omega arith))

pub full_admission_zero : (card : Card) (r : Result ⊤ Refusal) → r ≡ full_admission card → (admission_numbers r ≡ answer 0 0 0 0) ↔ Free card
full_admission_zero card r e = (
  λ zero_number.
      let h = ap (λ (m : Numbers). m.number) zero_number in
      (full_admission_each_number card r e).passed.0 (λ j low high k. omega arith, λ k. omega arith),
  λ f. ap admission_numbers (e ∙ (free_exactly card).1 f),
)
