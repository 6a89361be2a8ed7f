-- Columns as digits of a number: its ones are the zeroed columns, and the trailing zeros of its complement the columns before the first used
-- one. By induction on how many columns there are, the lowest digit first.
use mathlib.Core.Path.{◌≡◌, refl, sym, ap, ap₂, ◌∙◌}
use mathlib.Core.Bool.{Bool, true, false, cond}
use Prim.Native.Nat.{ℕ, zero, suc, ◌+◌, ◌-◌, ◌*◌, ◌/◌, ◌%◌, ◌^◌, ◌≤◌, ◌<◌}
use native.Mathlib.Nat.{pow-suc, lt_of_lt_of_le, add_assoc, add-zero, zero-add, suc-add, div-one, mod-one}
use native.Mathlib.Numerals.{add-one, one-add}
use native.Mathlib.Omega.{arith}
use borrow.Author.Tests.{eq-eqb, ne_eqb}
use lib.Dec.{eqb}
use lib.Pow.{pow_mono, shr-shr, mod-pow-add, suc_ones}
use lib.Count.{ones, count_trailing_zeros, under, ones_step}
use Rattle.descriptor.specs.Descriptor.{bits, yes, bit}
use Rattle.mask_pattern.specs.Pattern.{columns_number, zeroed, first_used}
use Rattle.descriptor.proofs.Digits.{bit_below, yes_bit, bit_yes}

-- the bits above the lowest are those of the half
yes_next : (k n : ℕ) → yes (suc k) n ≡ yes k (n / 2)
yes_next k n = ap (λ (x : ℕ). eqb (x % 2) 1) (ap (λ (j : ℕ). n / 2 ^ j) (sym (one-add k)) ∙ sym (shr-shr n 1 k))

-- the complement of a number by its lowest digit and the rest
complement : (d x w : ℕ) → d ≤ 1 → x < w → ((w * 2 - 1 - (d + 2 * x)) % 2 ≡ 1 - d) × ((w * 2 - 1 - (d + 2 * x)) / 2 ≡ w - 1 - x)
complement d x w h l = (omega arith, omega arith)

module _ (set : ℕ → Bool) where
  pub number_below : (p count : ℕ) → columns_number set p count < 2 ^ count
  unfolding columns_number
  number_below p zero = omega arith
  number_below p (suc count) = rw (pow-suc 2 count) (omega (arith, bit_below (set p), number_below (p + 1) count))

  -- the lowest digit of a number of columns, and the rest
  number_low : (p count : ℕ) → columns_number set p (suc count) % 2 ≡ bit (set p)
  unfolding columns_number
  number_low p count = omega (arith, bit_below (set p))

  number_rest : (p count : ℕ) → columns_number set p (suc count) / 2 ≡ columns_number set (p + 1) count
  unfolding columns_number
  number_rest p count = omega (arith, bit_below (set p))

  pub ones_zeroed : (p count : ℕ) → ones (columns_number set p count) ≡ zeroed set p count
  unfolding columns_number zeroed ones
  ones_zeroed p zero = refl
  ones_zeroed p (suc count) =
      ones_step (columns_number set p (suc count))
      ∙ ap₂ (λ (x y : ℕ). x + ones y) (number_low p count) (number_rest p count)
      ∙ ap (λ (n : ℕ). bit (set p) + n) (ones_zeroed (p + 1) count)

  -- the first used column, by the trailing zeros of the complement of a word that may have room for more columns
  pub trailing_first : (w p count : ℕ) → count ≤ w → p + count_trailing_zeros w (2 ^ w - 1 - columns_number set p count) ≡ first_used set p count
  unfolding first_used count_trailing_zeros columns_number
  trailing_first zero p zero h = add-zero p
  trailing_first zero p (suc count) h = absurd (omega arith)
  trailing_first (suc w) p zero h =
      let odd : (2 ^ suc w - 1 - 0) % 2 ≡ 1 = rw (pow-suc 2 w) (omega (arith, suc_ones w)) in
      rw odd (add-zero p)
  trailing_first (suc w) p (suc count) h =
      let x = columns_number set (p + 1) count in
      let fits = lt_of_lt_of_le (number_below (p + 1) count) (pow_mono {i = count} {j = w} (omega arith)) in
      let parts = complement (bit (set p)) x (2 ^ w) (bit_below (set p)) fits in
      rw (pow-suc 2 w) (ap (λ (n : ℕ). p + n) (ap₂ (λ (d n : ℕ). under d (count_trailing_zeros w n)) parts.0 parts.1))
      ∙ by (set p) _ _ (trailing_first w (p + 1) count (omega arith))
    where
      by : (b : Bool) (t n : ℕ) → p + 1 + t ≡ n → p + under (1 - bit b) t ≡ cond b n p
      by true t n e = omega arith
      by false t n e = omega arith

  -- one stretch of columns after the other
  pub number_append : (p m n : ℕ) → columns_number set p (m + n) ≡ columns_number set p m + columns_number set (p + m) n * 2 ^ m
  unfolding columns_number
  number_append p zero n = rw (zero-add n, add-zero p) (omega arith)
  number_append p (suc m) n =
      let further : p + suc m ≡ p + 1 + m = omega arith in
      rw (suc-add m n, further, pow-suc 2 m, number_append (p + 1) m n) (omega arith)

  pub zeroed_append : (p m n : ℕ) → zeroed set p (m + n) ≡ zeroed set p m + zeroed set (p + m) n
  unfolding zeroed
  zeroed_append p zero n = rw (zero-add n, add-zero p, zero-add (zeroed set p n))
  zeroed_append p (suc m) n =
      let further : p + suc m ≡ p + 1 + m = omega arith in
      rw (suc-add m n, further)
      (ap (λ (k : ℕ). bit (set p) + k) (zeroed_append (p + 1) m n)
      ∙ sym (add_assoc (bit (set p)) (zeroed set (p + 1) m) (zeroed set (p + 1 + m) n)))

  pub first_append : (p m n : ℕ) → first_used set p (m + n) ≡ cond (eqb (first_used set p m) (p + m)) (first_used set (p + m) n) (first_used set p m)
  unfolding first_used
  first_append p zero n = rw (zero-add n, add-zero p, eq-eqb p p refl)
  first_append p (suc m) n =
      let further : p + suc m ≡ p + 1 + m = omega arith in
      rw (suc-add m n, further) (by (set p) _ _ _ (first_append (p + 1) m n))
    where
      by : (b : Bool) (x y z : ℕ) → x ≡ cond (eqb y (p + 1 + m)) z y → cond b x p ≡ cond (eqb (cond b y p) (p + 1 + m)) z (cond b y p)
      by true x y z e = e
      by false x y z e = rw (ne_eqb p (p + 1 + m) (λ e. omega arith))

  -- the bits of a number of columns are the columns
  pub number_bit : (p count k : ℕ) → k < count → yes k (columns_number set p count) ≡ set (p + k)
  number_bit p zero k h = absurd (omega arith)
  number_bit p (suc count) zero h =
      rw (add-zero p) (yes_bit 0 (columns_number set p (suc count)) (set p) (ap (λ (n : ℕ). n % 2) (div-one (columns_number set p (suc count))) ∙ number_low p count))
  number_bit p (suc count) (suc k) h =
      let further : p + suc k ≡ p + 1 + k = omega arith in
      rw (further, yes_next k (columns_number set p (suc count)), number_rest p count) (number_bit (p + 1) count k (omega arith))

-- a number is that of its bits
pub number_of : (set : ℕ → Bool) (p count x : ℕ) → ((k : ℕ) → k < count → set (p + k) ≡ yes k x) → columns_number set p count ≡ x % 2 ^ count
unfolding columns_number
number_of set p zero x h = sym (mod-one x)
number_of set p (suc count) x h =
    let low : bit (set p) ≡ bits 1 0 x = ap (λ (k : ℕ). bit (set k)) (sym (add-zero p)) ∙ ap bit (h 0 (omega arith)) ∙ bit_yes 0 x in
    let rest = number_of set (p + 1) count (x / 2) (λ k l. ap set (omega arith) ∙ h (suc k) (omega arith) ∙ yes_next k x) in
    rw (sym (add-one count), mod-pow-add x count 1, low, rest) (omega arith)

-- columns that agree, wherever they stand, make the same number
pub number_moved : (f g : ℕ → Bool) (p q count : ℕ) → ((k : ℕ) → k < count → f (p + k) ≡ g (q + k)) → columns_number f p count ≡ columns_number g q count
unfolding columns_number
number_moved f g p q zero h = refl
number_moved f g p q (suc count) h =
    ap₂ (λ (b : Bool) (n : ℕ). bit b + 2 * n)
    (ap f (sym (add-zero p)) ∙ h 0 (omega arith) ∙ ap g (add-zero q))
    (number_moved f g (p + 1) (q + 1) count (λ k l. ap f (omega arith) ∙ h (suc k) (omega arith) ∙ ap g (omega arith)))

-- so where they agree from the start, as many are zeroed and the same is the first used
module _ (f g : ℕ → Bool) where
  pub number_same : (p count : ℕ) → ((k : ℕ) → k < p + count → f k ≡ g k) → columns_number f p count ≡ columns_number g p count
  number_same p count h = number_moved f g p p count (λ k l. h (p + k) (omega arith))

  pub zeroed_same : (p count : ℕ) → ((k : ℕ) → k < p + count → f k ≡ g k) → zeroed f p count ≡ zeroed g p count
  zeroed_same p count h = sym (ones_zeroed f p count) ∙ ap ones (number_same p count h) ∙ ones_zeroed g p count

  pub first_same : (p count : ℕ) → ((k : ℕ) → k < p + count → f k ≡ g k) → first_used f p count ≡ first_used g p count
  first_same p count h =
      sym (trailing_first f count p count (omega arith))
      ∙ ap (λ (n : ℕ). p + count_trailing_zeros count (2 ^ count - 1 - n)) (number_same p count h)
      ∙ trailing_first g count p count (omega arith)
