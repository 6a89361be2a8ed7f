-- The first number below n that passes a test: it passes, those before it do not, and the number with both is the first. By induction on n.
use mathlib.Core.Path.{◌≡◌, refl, ap, ◌∙◌}
use mathlib.Core.Bool.{Bool, true, false, cond}
use Prim.Native.Nat.{ℕ, zero, suc, ◌+◌, ◌≤◌, ◌<◌, zero-le, suc-le-suc}
use native.Mathlib.Nat.{le_of_suc-le-suc, not-suc-le-zero}
use native.Mathlib.Decide.{ℕ_discrete}
use native.Mathlib.Omega.{arith}
use Rattle.values.specs.Values.{first}

-- no number before n passes
abbrev pub NoneBefore : (ℕ → Bool) → ℕ → Type 0
NoneBefore test n = (k : ℕ) → k < n → test k ≡ false

pub first_most : (test : ℕ → Bool) (n : ℕ) → first test n ≤ n
first_most test zero = zero-le
first_most test (suc n) = most (test 0) (first_most (λ k. test (suc k)) n)
  where
    most : (b : Bool) {m : ℕ} → m ≤ n → cond b 0 (suc m) ≤ suc n
    most true h = zero-le
    most false h = suc-le-suc h

pub first_passes : (test : ℕ → Bool) (n : ℕ) → first test n < n → test (first test n) ≡ true
first_passes test zero h = absurd (not-suc-le-zero h)
first_passes test (suc n) h = passes (test 0) refl (first_passes (λ k. test (suc k)) n) h
  where
    rest : ℕ
    rest = first (λ k. test (suc k)) n

    passes : (b : Bool) → test 0 ≡ b → (rest < n → test (suc rest) ≡ true) → cond b 0 (suc rest) < suc n → test (cond b 0 (suc rest)) ≡ true
    passes true e f i = e
    passes false e f i = f (le_of_suc-le-suc i)

pub none_before_first : (test : ℕ → Bool) (n : ℕ) → NoneBefore test (first test n)
none_before_first test zero k h = absurd (not-suc-le-zero h)
none_before_first test (suc n) k h = none (test 0) refl (none_before_first (λ j. test (suc j)) n) k h
  where
    none : (b : Bool) {m : ℕ} → test 0 ≡ b → NoneBefore (λ j. test (suc j)) m → NoneBefore test (cond b 0 (suc m))
    none true e f j i = absurd (not-suc-le-zero i)
    none false e f zero i = e
    none false e f (suc j) i = f j (le_of_suc-le-suc i)

-- one that passes, none before it
pub is_first : (test : ℕ → Bool) (n k : ℕ) → k < n → NoneBefore test k → test k ≡ true → first test n ≡ k
is_first test zero k h none e = absurd (not-suc-le-zero h)
is_first test (suc n) zero h none e = rw e
is_first test (suc n) (suc k) h none e =
    rw (none 0 (omega arith)) (ap suc (is_first (λ j. test (suc j)) n k (le_of_suc-le-suc h) (λ j i. none (suc j) (suc-le-suc i)) e))

pub none_passes : (test : ℕ → Bool) (n : ℕ) → NoneBefore test n → first test n ≡ n
none_passes test zero none = refl
none_passes test (suc n) none =
    rw (none 0 (omega arith)) (ap suc (none_passes (λ j. test (suc j)) n (λ j i. none (suc j) (suc-le-suc i))))

-- tests that agree below n have the same first
pub same_first : (test other : ℕ → Bool) (n : ℕ) → ((k : ℕ) → k < n → test k ≡ other k) → first test n ≡ first other n
same_first test other zero same = refl
same_first test other (suc n) same =
    rw (same 0 (omega arith))
    (ap (λ (m : ℕ). cond (other 0) 0 (suc m)) (same_first (λ j. test (suc j)) (λ j. other (suc j)) n (λ j i. same (suc j) (suc-le-suc i))))

-- one more that does not pass
pub none_next : (test : ℕ → Bool) (n : ℕ) → NoneBefore test n → test n ≡ false → NoneBefore test (n + 1)
none_next test n none e k h = next (ℕ_discrete k n)
  where
    next : Dec (k ≡ n) → test k ≡ false
    next (yes same) = ap test same ∙ e
    next (no other) = none k (omega arith)
