-- `c_card::signed` reads two's complement: below half the number itself, else as far below -1 as it lies below 2^64 - 1.
use Prim.Native.Nat.{ℕ, zero, suc, ◌+◌, ◌-◌, ◌^◌, ◌<◌}
use mathlib.Core.Path.{◌≡◌, refl, ap, ◌∙◌}
use native.Mathlib.Omega.{arith}
use borrow.Author.Rules.{rules}
use borrow.Author.Tests.{lt-ltb, le-ltb}
use lib.IntN.{ℤ, pos, negsuc, ◌-ℤ◌}
use mir.Syntax.{w64}
use mir.Val.{to_z, of_z, SFits}
use mir.Facts.{to_z-of_z, to_z_pos}
use Rattle.c_card.proofs.signed.Statement.{statement}
use Rattle.c_card.proofs.signed.Tie as tie

less : (k : ℕ) → negsuc 0 -ℤ pos k ≡ negsuc k
less zero = refl
less (suc k) = ap (λ (n : ℕ). negsuc (suc n)) (omega arith)

fits : (k : ℕ) → k < 2 ^ 63 → SFits w64 (negsuc k)
fits k h = record { sfits = h }

-- how far below -1
abbrev far : tie.Else-n-lt-HALF → ℕ
far c = 18446744073709551615 - c.args.n

read : (c : tie.Else-n-lt-HALF) → negsuc 0 -ℤ to_z w64 (far c) ≡ negsuc (far c)
read c = ap (λ (z : ℤ). negsuc 0 -ℤ z) (to_z_pos w64 {n = far c} (omega (arith, c.if-n-lt-HALF.false))) ∙ less (far c)

sub_result_2 : tie.Need-overflow_sub-result-else-n-lt-HALF
sub_result_2 c = rw (read c) (fits (far c) (omega (arith, c.if-n-lt-HALF.false)))

returns : tie.Need-returns-then-n-lt-HALF
returns c = rw (lt-ltb c.args.n (2 ^ 63) c.if-n-lt-HALF.true)

returns_2 : tie.Need-returns-else-n-lt-HALF
returns_2 c =
    let n = c.args.n in
    let same : far c ≡ 2 ^ 64 - (n + 1) = omega arith in
    ap (λ (z : ℤ). to_z w64 (of_z w64 z)) (read c)
    ∙ to_z-of_z (fits (far c) (omega (arith, c.if-n-lt-HALF.false)))
    ∙ rw (le-ltb n (2 ^ 63) c.if-n-lt-HALF.false) (ap negsuc same)

pub signed_spec : {M : Type 1} → statement M
signed_spec = tie.close (tie.spec (λ c. search rules) (λ c. search rules) (λ c. search rules) sub_result_2 returns returns_2)
