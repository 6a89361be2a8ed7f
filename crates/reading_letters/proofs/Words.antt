-- The letters of the words, place by place: a test that computes over all 64 places, so that whatever is none of the named ones has no letter.
use Prim.Native.Nat.{ℕ, zero, suc, ◌≤◌, ◌<◌}
use mathlib.Core.Path.{◌≡◌, refl, ◌∙◌, subst}
use mathlib.Core.Bool.{Bool, true, cond, ◌&&◌}
use native.Mathlib.Omega.{arith}
use borrow.Author.Tests.{eqb-true, ne_eqb}
use lib.Dec.{eqb}
use lib.ListN.{get_or}
use Rattle.laws.proofs.Order.{le_or_lt}
use mathlib.Core.Logic.{⊎_elim}
use Rattle.notation.proofs.Lists.{both}
use Rattle.notation.specs.Machine.{words_to_follow}

-- the letters as the arms of the code have them
abbrev chain : ℕ → ℕ
chain o =
    cond (eqb o 1) 105 (cond (eqb o 2) 100 (cond (eqb o 4) 97 (cond (eqb o 5) 114 (cond (eqb o 6) 112 (cond (eqb o 7) 105 (
    cond (eqb o 8) 100 (cond (eqb o 10) 97 (cond (eqb o 11) 110 (cond (eqb o 12) 101 (cond (eqb o 13) 105 (cond (eqb o 14) 100 (
    cond (eqb o 16) 97 (cond (eqb o 17) 110 (cond (eqb o 18) 101 (cond (eqb o 20) 111 (cond (eqb o 21) 108 (cond (eqb o 23) 83 (
    cond (eqb o 24) 91 (cond (eqb o 25) 40 (cond (eqb o 27) 58 (cond (eqb o 28) 40 (cond (eqb o 30) 93 (cond (eqb o 32) 91 0)))))))))))))))))))))))

-- the test of one place, and of all below one
abbrev right : ℕ → Bool
right o = eqb (get_or words_to_follow o 0) (chain o)

abbrev all_below : ℕ → Bool
all_below zero = true
all_below (suc n) = all_below n && right n

each : (n o : ℕ) → all_below n ≡ true → o < n → right o ≡ true
each zero o h l = absurd (omega arith)
each (suc n) o h l =
    let b = both (all_below n) (right n) h in
    ⊎_elim (λ (ge : n ≤ o). let same : n ≡ o = omega arith in subst (λ (k : ℕ). right k ≡ true) same b.1) (λ (lt : o < n). each n o b.0 lt) (le_or_lt n o)

pub letters : (o : ℕ) → o < 64 → get_or words_to_follow o 0 ≡ chain o
letters o l = eqb-true (get_or words_to_follow o 0) (chain o) (each 64 o refl l)

-- what none of the arms names
pub no_letter : (o : ℕ) → o < 64
    → (o ≡ 1 → ⊥) → (o ≡ 2 → ⊥) → (o ≡ 4 → ⊥) → (o ≡ 5 → ⊥) → (o ≡ 6 → ⊥) → (o ≡ 7 → ⊥) → (o ≡ 8 → ⊥) → (o ≡ 10 → ⊥)
    → (o ≡ 11 → ⊥) → (o ≡ 12 → ⊥) → (o ≡ 13 → ⊥) → (o ≡ 14 → ⊥) → (o ≡ 16 → ⊥) → (o ≡ 17 → ⊥) → (o ≡ 18 → ⊥) → (o ≡ 20 → ⊥)
    → (o ≡ 21 → ⊥) → (o ≡ 23 → ⊥) → (o ≡ 24 → ⊥) → (o ≡ 25 → ⊥) → (o ≡ 27 → ⊥) → (o ≡ 28 → ⊥) → (o ≡ 30 → ⊥) → (o ≡ 32 → ⊥)
    → get_or words_to_follow o 0 ≡ 0
no_letter o l h1 h2 h4 h5 h6 h7 h8 h10 h11 h12 h13 h14 h16 h17 h18 h20 h21 h23 h24 h25 h27 h28 h30 h32 =
    letters o l ∙ rw (
      ne_eqb o 1 h1,
      ne_eqb o 2 h2,
      ne_eqb o 4 h4,
      ne_eqb o 5 h5,
      ne_eqb o 6 h6,
      ne_eqb o 7 h7,
      ne_eqb o 8 h8,
      ne_eqb o 10 h10,
      ne_eqb o 11 h11,
      ne_eqb o 12 h12,
      ne_eqb o 13 h13,
      ne_eqb o 14 h14,
      ne_eqb o 16 h16,
      ne_eqb o 17 h17,
      ne_eqb o 18 h18,
      ne_eqb o 20 h20,
      ne_eqb o 21 h21,
      ne_eqb o 23 h23,
      ne_eqb o 24 h24,
      ne_eqb o 25 h25,
      ne_eqb o 27 h27,
      ne_eqb o 28 h28,
      ne_eqb o 30 h30,
      ne_eqb o 32 h32,
    )
