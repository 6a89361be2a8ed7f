-- `writing_words::magnitude` is how far a number is from zero: below zero one more than -1 less the number.
use Prim.Native.Nat.{ℕ, zero, suc, ◌+◌, ◌-◌, ◌^◌, ◌≤◌, ◌<◌}
use mathlib.Core.Path.{◌≡◌, refl, ap, ◌∙◌, subst⁻¹}
use mathlib.Core.Bool.{true, false}
use borrow.Author.Tests.{le-ltb, ltb-true}
use lib.Dec.{T}
use lib.IntN.{ℤ, pos, negsuc, nat_abs, ◌-ℤ◌}
use lib.Signed.{lt_z, non_neg}
use mir.Syntax.{w64}
use mir.Val.{to_z, of_z, SFits}
use mir.Facts.{to_z-of_z, Fits-nat_abs}
use Rattle.laws.proofs.Signed.{far_fits}
use Rattle.laws.proofs.Rungs.{apart}
use native.Mathlib.Omega.{arith}
use borrow.Author.Rules.{rules}
use Rattle.writing_words.proofs.magnitude.Statement.{statement}
use Rattle.writing_words.proofs.magnitude.Tie as tie

minus_one : (n : ℕ) → negsuc 0 -ℤ negsuc n ≡ pos n
minus_one n = rw (le-ltb (suc n) 1 (omega arith)) (ap pos (omega arith))

pub record Below (z : ℤ) : Type 0 where
  pub less : negsuc 0 -ℤ z ≡ pos (nat_abs z - 1)
  pub some : 1 ≤ nat_abs z
  pub near : nat_abs z ≤ 2 ^ 63

below : (z : ℤ) → lt_z z (pos 0) ≡ true → SFits w64 z → Below z
below (pos n) e f = let h = ltb-true n 0 e in absurd (omega arith)
below (negsuc n) e f = record { less = minus_one n ∙ ap pos (omega arith); some = omega arith; near = omega (arith, f.sfits) }

from_zero : (z : ℤ) → lt_z z (pos 0) ≡ false → T (non_neg z)
from_zero (pos n) t = tt
from_zero (negsuc n) t = absurd (apart (cc))

is_below_lem : (c : tie.Then-z-lt0) → Below c.args.z
is_below_lem c = let s = c in below s.args.z (rw (to_z-of_z s.ranges.z) at c.if-z-lt0.true) s.ranges.z

sub_fits : (c : tie.Then-z-lt0) → SFits w64 (pos (nat_abs c.args.z - 1))
sub_fits c = far_fits (omega (arith, (is_below_lem c).near, (is_below_lem c).some))

sub_result : tie.Need-overflow_sub-result
sub_result c = rw (to_z-of_z c.ranges.z, (is_below_lem c).less) (sub_fits c)

cast_result : tie.Need-overflow_cast-result
cast_result c = rw (to_z-of_z c.ranges.z, (is_below_lem c).less, to_z-of_z (sub_fits c)) (tt, Fits-nat_abs {w = w64} tt (sub_fits c))

add_result : tie.Need-overflow_add-result
add_result c = rw (to_z-of_z c.ranges.z, (is_below_lem c).less, to_z-of_z (sub_fits c)) (omega (arith, (is_below_lem c).near, (is_below_lem c).some))

returns : tie.Need-returns-then-z-lt0
returns c = rw (to_z-of_z c.ranges.z, (is_below_lem c).less, to_z-of_z (sub_fits c)) (omega (arith, (is_below_lem c).some))

cast_result_2 : tie.Need-overflow_cast-result-2
cast_result_2 c = let s = c in rw (to_z-of_z s.ranges.z) (from_zero s.args.z (rw (to_z-of_z s.ranges.z) at c.if-z-lt0.false), Fits-nat_abs {w = w64} tt s.ranges.z)

returns_2 : tie.Need-returns
returns_2 c = rw (to_z-of_z c.ranges.z)

pub magnitude_spec : {M : Type 1} → statement M
magnitude_spec = tie.close (tie.spec sub_result cast_result add_result returns cast_result_2 returns_2)
