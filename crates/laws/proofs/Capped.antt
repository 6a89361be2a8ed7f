-- Whole products that are told apart only below a cap c: how `min (x * y) c` is computed without a number above c, and what it decides.
use mathlib.Core.Path.{◌≡◌, sym, ap, ◌∙◌}
use Prim.Native.Nat.{ℕ, zero, suc, ◌*◌, ◌/◌, ◌≤◌, ◌<◌, min}
use native.Mathlib.Nat.{mul-le-mul_right, div-mul-le_self, lt-div-mul-add, le_trans, min-eq_left, min-eq_right, mul-zero}
use native.Mathlib.Omega.{arith}
use native.Mathlib.Decide.{dec_le}
use borrow.Author.Tests.{le-leb, lt-leb, ne_eqb}
use lib.Dec.{leb, eqb}

-- a factor that goes into the cap fewer than a times makes a product beyond it
pub capped_above : (c a b : ℕ) → 0 < b → c / b < a → c ≡ min (a * b) c
capped_above c a b pos h =
    sym (min-eq_right (omega (arith, mul-le-mul_right b h, lt-div-mul-add {a = c} pos)))

-- and one that goes in a times or more stays below
pub capped_within : (c a b : ℕ) → a ≤ c / b → a * b ≤ c
capped_within c a b h = le_trans (mul-le-mul_right b h) (div-mul-le_self c b)

-- a part that is capped before the next factor gives the same product
pub capped_part : (c x y : ℕ) → min (min x c * y) c ≡ min (x * y) c
capped_part c x zero = ap (λ (n : ℕ). min n c) (mul-zero (min x c) ∙ sym (mul-zero x))
capped_part c x (suc y) =
    elim (dec_le x c) [
      | yes h ↦ ap (λ (n : ℕ). min (n * suc y) c) (min-eq_left h)
      | no h ↦
          let above : c ≤ x = omega arith in
          ap (λ (n : ℕ). min (n * suc y) c) (min-eq_right above)
          ∙ min-eq_right {n = c} {m = c * suc y} (omega arith)
          ∙ sym (min-eq_right {n = c} {m = x * suc y} (omega (arith, mul-le-mul_right (suc y) above)))
    ]

-- below the cap the capped number decides as the whole one does
pub capped_leb : (c p most : ℕ) → most < c → leb (min p c) most ≡ leb p most
capped_leb c p most h =
    elim (dec_le p most) [
      | yes k ↦ le-leb (min p c) most (omega arith) ∙ sym (le-leb p most k)
      | no k ↦ lt-leb (min p c) most (omega arith) ∙ sym (lt-leb p most (omega arith))
    ]

pub capped_eqb : (c p n : ℕ) → n < c → eqb (min p c) n ≡ eqb p n
capped_eqb c p n h =
    elim (dec_le p n) [
      | yes k ↦ ap (λ (m : ℕ). eqb m n) (min-eq_left (omega arith))
      | no k ↦ ne_eqb (min p c) n (λ e. omega arith) ∙ sym (ne_eqb p n (λ e. omega arith))
    ]
