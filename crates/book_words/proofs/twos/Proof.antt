-- `book_words::twos` is a number modulo 2 ^ 32: below zero it goes by -1 less the number.
use Prim.Native.Nat.{ℕ, zero, suc, ◌+◌, ◌-◌, ◌%◌, ◌^◌, ◌≤◌, ◌<◌}
use mathlib.Core.Path.{◌≡◌, refl, ap, ◌∙◌}
use mathlib.Core.Bool.{true, false}
use borrow.Author.Tests.{le-ltb, ltb-true}
use lib.Dec.{T}
use lib.IntN.{ℤ, pos, negsuc, nat_abs, ◌-ℤ◌}
use lib.Signed.{lt_z, non_neg}
use mir.Syntax.{w64}
use mir.Val.{to_z, of_z, SFits}
use mir.Facts.{to_z-of_z, Fits-nat_abs}
use Rattle.laws.proofs.Signed.{far_fits}
use Rattle.laws.proofs.Rungs.{apart}
use Rattle.book.specs.Bytes.{twos}
use Rattle.book.proofs.Bytes.{twos_small}
use native.Mathlib.Omega.{arith}
use borrow.Author.Rules.{rules}
use Rattle.book_words.proofs.twos.Statement.{statement}
use Rattle.book_words.proofs.twos.Tie as tie

minus_one : (n : ℕ) → negsuc 0 -ℤ negsuc n ≡ pos n
minus_one n = rw (le-ltb (suc n) 1 (omega arith)) (ap pos (omega arith))

-- a number below zero
pub record Below (z : ℤ) : Type 0 where
  pub up : ℕ
  pub less : negsuc 0 -ℤ z ≡ pos up
  pub near : up < 2 ^ 63
  pub is : twos z ≡ 4294967295 - up % 4294967296

below : (z : ℤ) → lt_z z (pos 0) ≡ true → SFits w64 z → Below z
below (pos n) e f = let h = ltb-true n 0 e in absurd (omega arith)
below (negsuc n) e f = record { up = n; less = minus_one n; near = f.sfits; is = refl }

from_zero : (z : ℤ) → lt_z z (pos 0) ≡ false → T (non_neg z) × (nat_abs z % 4294967296 ≡ twos z)
from_zero (pos n) t = (tt, refl)
from_zero (negsuc n) t = absurd (apart (cc))

is_below_lem : (c : tie.Then-z-lt0) → Below c.args.z
is_below_lem c = let s = c in below s.args.z (rw (to_z-of_z s.ranges.z) at c.if-z-lt0.true) s.ranges.z

sub_fits : (c : tie.Then-z-lt0) → SFits w64 (pos (is_below_lem c).up)
sub_fits c = far_fits (is_below_lem c).near

not_below : (c : tie.Else-z-lt0) → T (non_neg c.args.z) × (nat_abs c.args.z % 4294967296 ≡ twos c.args.z)
not_below c = let s = c in from_zero s.args.z (rw (to_z-of_z s.ranges.z) at c.if-z-lt0.false)

sub_result : tie.Need-overflow_sub-result
sub_result c = rw (to_z-of_z c.ranges.z, (is_below_lem c).less) (sub_fits c)

cast_result : tie.Need-overflow_cast-result
cast_result c = rw (to_z-of_z c.ranges.z, (is_below_lem c).less, to_z-of_z (sub_fits c)) (tt, Fits-nat_abs {w = w64} tt (sub_fits c))

sub_result_2 : tie.Need-overflow_sub-result-then-z-lt0
sub_result_2 c = omega arith

returns : tie.Need-returns-then-z-lt0
returns c =
    rw (to_z-of_z c.ranges.z, (is_below_lem c).less, to_z-of_z (sub_fits c), (is_below_lem c).is) (refl, omega arith)

cast_result_2 : tie.Need-overflow_cast-result-2
cast_result_2 c = let s = c in rw (to_z-of_z s.ranges.z) ((not_below c).0, Fits-nat_abs {w = w64} tt s.ranges.z)

returns_2 : tie.Need-returns
returns_2 c = rw (to_z-of_z c.ranges.z) ((not_below c).1, omega arith)

pub twos_spec : {M : Type 1} → statement M
twos_spec = tie.close (tie.spec sub_result cast_result sub_result_2 returns cast_result_2 returns_2)
