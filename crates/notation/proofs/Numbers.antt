-- Decimals: one more digit, and a machine that reads them.
use Prim.Native.Nat.{ℕ, zero, suc, ◌+◌, ◌*◌, ◌/◌, ◌%◌, ◌^◌, ◌≤◌, ◌<◌}
use mathlib.Core.Path.{◌≡◌, refl, sym, ap, ◌∙◌, subst}
use mathlib.Core.Bool.{Bool, true, false, cond}
use mathlib.Core.List.{List, [], ◌∷◌, ◌++◌}
use native.Mathlib.Nat.{div-lt_iff_lt-mul, pow-suc, div-add-mod', mod-lt}
use native.Mathlib.Omega.{arith}
use borrow.Author.Tests.{lt-ltb, le-ltb, ltb-true, ltb-false}
use lib.Dec.{ltb}
use Rattle.notation.specs.Text.{digits, decimal}
use Rattle.notation.specs.Machine.{runs}
use Rattle.notation.proofs.Exact.{runs_append}

-- one more digit than is needed changes nothing
pub digits_more : (k n : ℕ) → n < 10 ^ suc k → digits (suc (suc k)) n ≡ digits (suc k) n
digits_more zero n h = rw (lt-ltb n 10 h)
digits_more (suc k) n h =
    ap (λ (l : List ℕ). cond (ltb n 10) ((48 + n) ∷ []) (l ++ ((48 + n % 10) ∷ [])))
    (digits_more k (n / 10) ((div-lt_iff_lt-mul {k = 10} (omega arith)).1 (subst (λ (m : ℕ). n < m) (pow-suc 10 (suc k)) h)))

pub decimal_digit : (d : ℕ) → d < 10 → decimal d ≡ (48 + d) ∷ []
unfolding decimal
decimal_digit d h = rw (lt-ltb d 10 h)

-- a digit more
pub decimal_snoc : (v d : ℕ) → 1 ≤ v → v < 10000 → d < 10 → decimal (v * 10 + d) ≡ decimal v ++ ((48 + d) ∷ [])
unfolding decimal
decimal_snoc v d pos small h =
    let quotient : (v * 10 + d) / 10 ≡ v = omega arith in
    let remainder : (v * 10 + d) % 10 ≡ d = omega arith in
    rw (le-ltb (v * 10 + d) 10 (omega arith), quotient, remainder, ← digits_more 3 v small)

module _ {S : Type 0} (step : S → ℕ → S) (before : S) (at : ℕ → S) (least : ℕ) (low : least ≤ 1)
    (first : (d : ℕ) → least ≤ d → d < 10 → step before (48 + d) ≡ at d)
    (next : (v d : ℕ) → 1 ≤ v → v < 10000 → d < 10 → step (at v) (48 + d) ≡ at (v * 10 + d)) where
  read_digits : (k n : ℕ) → n < 10 ^ suc k → n < 100000 → least ≤ n → runs step before (digits (suc k) n) ≡ at n
  read_digits zero n h short no_less = rw (lt-ltb n 10 h) (first n no_less h)
  read_digits (suc k) n h short no_less = by (ltb n 10) refl (read_digits k (n / 10))
    where
      by : (t : Bool) → ltb n 10 ≡ t → (n / 10 < 10 ^ suc k → n / 10 < 100000 → least ≤ n / 10 → runs step before (digits (suc k) (n / 10)) ≡ at (n / 10)) → runs step before (digits (suc (suc k)) n) ≡ at n
      by true e ih = rw e (first n no_less (ltb-true n 10 e))
      by false e ih =
          let big : 10 ≤ n = ltb-false n 10 e in
          let fewer : n / 10 < 10 ^ suc k = (div-lt_iff_lt-mul {k = 10} (omega arith)).1 (subst (λ (m : ℕ). n < m) (pow-suc 10 (suc k)) h) in
          let so_far : runs step before (digits (suc k) (n / 10)) ≡ at (n / 10) = ih fewer (omega arith) (omega arith) in
          rw (e, runs_append step before (digits (suc k) (n / 10)) ((48 + n % 10) ∷ []), so_far, next (n / 10) (n % 10) (omega arith) (omega arith) (omega arith)) (ap at (div-add-mod' n 10))

  -- a machine that takes digits so reads a number
  pub reads_number : (n : ℕ) → least ≤ n → n < 100000 → runs step before (decimal n) ≡ at n
  unfolding decimal
  reads_number n h short = read_digits 4 n short short h
