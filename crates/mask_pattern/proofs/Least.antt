-- The first used column is the smallest that is clear: it is one with only set columns before it, and there is no other such column.
use mathlib.Core.Path.{◌≡◌, refl, sym, ◌∙◌}
use mathlib.Core.Bool.{Bool, true, false, cond, true≢false}
use mathlib.Core.Logic.{⊎_elim}
use Prim.Native.Nat.{ℕ, zero, suc, ◌+◌, ◌≤◌, ◌<◌}
use native.Mathlib.Nat.{eq-or-lt_of_le, le_antisymm, le_of_suc-le-suc, lt_of_not-le}
use native.Mathlib.Omega.{arith}
use Rattle.mask_pattern.specs.Pattern.{first_used}

module _ (set : ℕ → Bool) where
  -- q is the smallest of these columns that is clear, or the column after them
  pub record Least (p count q : ℕ) : Type 0 where
    pub from : p ≤ q
    pub to : q ≤ p + count
    pub before : (k : ℕ) → p ≤ k → k < q → set k ≡ true
    pub clear : q < p + count → set q ≡ false

  pub first_least : (p count : ℕ) → Least p count (first_used set p count)
  unfolding first_used
  first_least p zero =
      record { from = omega arith; to = omega arith; before = λ k l h. absurd (omega arith); clear = λ h. absurd (omega arith) }
  first_least p (suc count) = by (set p) refl (first_least (p + 1) count)
    where
      by : (b : Bool) → set p ≡ b → {q : ℕ} → Least (p + 1) count q → Least p (suc count) (cond b q p)
      by true e {q} least =
          record {
            from = omega arith;
            to = omega arith;
            before = λ k l h. ⊎_elim (λ (same : p ≡ k). rw (sym same) e) (λ (less : p < k). least.before k (omega arith) h) (eq-or-lt_of_le l);
            clear = λ h. least.clear (omega arith);
          }
      by false e least =
          record { from = omega arith; to = omega arith; before = λ k l h. absurd (omega arith); clear = λ h. e }

  -- there is one such column
  none_before : (p count q r : ℕ) → Least p count q → Least p count r → q < r → ⊥
  none_before p count q r a b h = true≢false (sym (b.before q a.from h) ∙ a.clear (omega arith))

  pub least_one : (p count q r : ℕ) → Least p count q → Least p count r → q ≡ r
  least_one p count q r a b =
      le_antisymm (le_of_suc-le-suc (lt_of_not-le (none_before p count r q b a))) (le_of_suc-le-suc (lt_of_not-le (none_before p count q r a b)))
