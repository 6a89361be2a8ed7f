-- The first of so many cells for which a test says yes: what it is, and a step of a loop that looks for it.
use mathlib.Core.Path.{◌≡◌, refl, subst}
use mathlib.Core.Bool.{Bool, true, false, cond}
use mathlib.Core.Logic.{⊎_elim}
use Prim.Native.Nat.{ℕ, zero, suc, ◌+◌, ◌-◌, ◌≤◌, ◌<◌}
use native.Mathlib.Nat.{eq-or-lt_of_le}
use native.Mathlib.Omega.{arith}
use Rattle.plans.specs.Plans.{first_from}

module _ (test : ℕ → Bool) where
  -- what a first cell is: the test says yes there, and nowhere before
  pub record Found (left c k : ℕ) : Type 0 where
    pub from : c ≤ k
    pub below : k < c + left
    pub yes : test k ≡ true
    pub least : (d : ℕ) → c ≤ d → d < k → test d ≡ false

  pub first_found : (left c k : ℕ) → first_from test left c ≡ k + 1 → Found left c k
  first_found zero c k e = absurd (omega arith)
  first_found (suc left) c k e = split (first_found left (c + 1) k) (test c) refl e
    where
      split : (first_from test left (c + 1) ≡ k + 1 → Found left (c + 1) k) → (b : Bool) → test c ≡ b
          → cond b (c + 1) (first_from test left (c + 1)) ≡ k + 1 → Found (suc left) c k
      split later true t e =
          let same : c ≡ k = omega arith in
          record { from = omega arith; below = omega arith; yes = subst (λ (d : ℕ). test d ≡ true) same t; least = λ d h l. absurd (omega arith) }
      split later false t e =
          let rest = later e in
          record {
            from = omega (arith, rest.from);
            below = omega (arith, rest.below);
            yes = rest.yes;
            least = λ d h l.
                ⊎_elim (λ (same : c ≡ d). subst (λ (d : ℕ). test d ≡ false) same t) (λ (less : c < d). rest.least d (omega arith) l)
                (eq-or-lt_of_le h);
          }

  -- none is found exactly where the test says no everywhere
  pub first_none : (left c : ℕ) → first_from test left c ≡ 0 → (d : ℕ) → c ≤ d → d < c + left → test d ≡ false
  first_none zero c e d h l = absurd (omega arith)
  first_none (suc left) c e d h l = split (λ e less. first_none left (c + 1) e d less (omega arith)) (test c) refl e
    where
      split : (first_from test left (c + 1) ≡ 0 → c + 1 ≤ d → test d ≡ false) → (b : Bool) → test c ≡ b
          → cond b (c + 1) (first_from test left (c + 1)) ≡ 0 → test d ≡ false
      split later true t e = absurd (omega arith)
      split later false t e =
          ⊎_elim (λ (same : c ≡ d). subst (λ (d : ℕ). test d ≡ false) same t)
          (λ (less : c < d). later e (omega arith))
          (eq-or-lt_of_le h)

  pub none_first : (left c : ℕ) → ((d : ℕ) → c ≤ d → d < c + left → test d ≡ false) → first_from test left c ≡ 0
  none_first zero c none = refl
  none_first (suc left) c none =
      rw (none c (omega arith) (omega arith)) (none_first left (c + 1) (λ d h l. none d (omega arith) (omega arith)))

  -- a step of a loop over n cells
  pub step_no : (n c : ℕ) → c < n → test c ≡ false → first_from test (n - (c + 1)) (c + 1) ≡ first_from test (n - c) c
  step_no n c h t =
      let more : n - c ≡ suc (n - (c + 1)) = omega arith in
      rw more (rw t refl)
