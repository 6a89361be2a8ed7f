-- What a search for the pair has found so far, case by case of the combination that is looked at: no twin below it, no pair before it, or the pair.
use mathlib.Core.Path.{◌≡◌, subst}
use Prim.Native.Nat.{ℕ, ◌+◌, ◌≤◌, ◌<◌}
use native.Mathlib.Nat.{not-suc-le-zero}
use native.Mathlib.Decide.{ℕ_discrete, dec_le}
use native.Mathlib.Omega.{arith}
use Rattle.card.specs.Card.{size}
use Rattle.card.specs.declared.Iters.{Iters}
use Rattle.idle.specs.Idle.{SameSums, IdlePair}
use Rattle.idle.specs.Clauses.{NoneBelow, Twin, NoneBefore}

module _ (replica : Iters) where
  pub none_below_zero : (b : ℕ) → NoneBelow replica b 0
  none_below_zero b x h = absurd (not-suc-le-zero h)

  pub none_below_more : (b a : ℕ) → (SameSums replica a b → ⊥) → NoneBelow replica b a → NoneBelow replica b (a + 1)
  none_below_more b a here so_far x h =
      elim (ℕ_discrete x a) [
        | yes same ↦ λ s. here (subst (λ (y : ℕ). SameSums replica y b) same s)
        | no before ↦ so_far x (omega arith)
      ]

  pub twin_found : (b a : ℕ) → a < b → SameSums replica a b → NoneBelow replica b a → Twin replica b a
  twin_found b a below here so_far = record { at_most = omega arith; same = λ h. here; none_below = so_far }

  pub twin_none : (b a : ℕ) → a ≡ b → NoneBelow replica b a → Twin replica b b
  twin_none b a e so_far =
      record { at_most = omega arith; same = λ h. absurd (omega arith); none_below = subst (λ (x : ℕ). NoneBelow replica b x) e so_far }

  pub none_before_zero : NoneBefore replica 0
  none_before_zero x y less below = absurd (not-suc-le-zero below)

  pub none_before_one : NoneBefore replica 1
  none_before_one x y less below = absurd (omega arith)

  -- a second that has no twin
  pub none_before_more : (b a : ℕ) → b ≤ a → Twin replica b a → NoneBefore replica b → NoneBefore replica (b + 1)
  none_before_more b a above twin so_far x y less below =
      elim (ℕ_discrete y b) [
        | yes same ↦ λ s. twin.none_below x (omega arith) (subst (λ (z : ℕ). SameSums replica x z) same s)
        | no before ↦ so_far x y less (omega arith)
      ]

  -- a second that has one
  pub pair_found : (b a : ℕ) → b < size replica → a < b → Twin replica b a → NoneBefore replica b → IdlePair replica a b
  pair_found b a below less twin so_far = record {
    different = less;
    combination = below;
    same = twin.same less;
    smallest_b = λ x y h k s. second x y h s;
    smallest_a = λ x h s. first x s;
  }
    where
      second : (x y : ℕ) → x < y → SameSums replica x y → b ≤ y
      second x y h s =
          elim (dec_le b y) [
            | yes k ↦ k
            | no k ↦ absurd (so_far x y h (omega arith) s)
          ]

      first : (x : ℕ) → SameSums replica x b → a ≤ x
      first x s =
          elim (dec_le a x) [
            | yes k ↦ k
            | no k ↦ absurd (twin.none_below x (omega arith) s)
          ]
