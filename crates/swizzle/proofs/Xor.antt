-- XOR with the same number twice gives the first number back: digit by digit, lowest first.
use mathlib.Core.Path.{◌≡◌, refl, ap₂, ◌∙◌}
use Prim.Native.Nat.{ℕ, zero, suc, ◌+◌, ◌*◌, ◌/◌, ◌%◌, ◌<◌}
use native.Mathlib.Nat.{div-add-mod'}
use native.Mathlib.Omega.{arith}
use lib.Arith.{bin_ind}
use lib.Bits.{bit_xor, differ, xor_step, xor_self}

-- of one digit
digit_twice : (x y : ℕ) → x < 2 → y < 2 → differ (differ x y) y ≡ x
digit_twice zero zero p q = refl
digit_twice zero (suc zero) p q = refl
digit_twice zero (suc (suc y)) p q = absurd (omega arith)
digit_twice (suc zero) zero p q = refl
digit_twice (suc zero) (suc zero) p q = refl
digit_twice (suc zero) (suc (suc y)) p q = absurd (omega arith)
digit_twice (suc (suc x)) y p q = absurd (omega arith)

digit_below : (x y : ℕ) → x < 2 → y < 2 → differ x y < 2
digit_below zero y p q = q
digit_below (suc x) zero p q = p
digit_below (suc zero) (suc y) p q = omega arith
digit_below (suc (suc x)) (suc y) p q = absurd (omega arith)

pub xor_twice : (a b : ℕ) → bit_xor (bit_xor a b) b ≡ a
xor_twice =
    bin_ind (λ (n : ℕ). (b : ℕ) → bit_xor (bit_xor n b) b ≡ n) (λ b. xor_self b)
    (λ n ih b.
    let d : ℕ = differ (n % 2) (b % 2) in
    let below : d < 2 = digit_below (n % 2) (b % 2) (omega arith) (omega arith) in
    let high : bit_xor n b / 2 ≡ bit_xor (n / 2) (b / 2) = omega (arith, xor_step n b) in
    let low : bit_xor n b % 2 ≡ d = omega (arith, xor_step n b) in
    xor_step (bit_xor n b) b
    ∙ ap₂ (λ (x y : ℕ). bit_xor x (b / 2) * 2 + differ y (b % 2)) high low
    ∙ ap₂ (λ (x y : ℕ). x * 2 + y) (ih (b / 2)) (digit_twice (n % 2) (b % 2) (omega arith) (omega arith))
    ∙ div-add-mod' n 2)
