-- `copies::on_axis` is a coordinate: below zero the largest length, else itself.
use lib.Dec.{T}
use lib.Signed.{non_neg}
use mir.Syntax.{w64}
use mir.Facts.{to_z-of_z, Fits-nat_abs}
use Rattle.copies.proofs.Below.{from_zero, below_axis, natural_axis}
use Rattle.copies.proofs.on_axis.Statement.{statement}
use Rattle.copies.proofs.on_axis.Tie as tie

natural : (c : tie.Else-sum-lt0) → T (non_neg c.args.sum)
natural c = let s = c in from_zero s.args.sum (rw (to_z-of_z s.ranges.sum) at c.if-sum-lt0.false)

cast_result : tie.Need-overflow_cast-result
cast_result c = let s = c in rw (to_z-of_z s.ranges.sum) (natural c, Fits-nat_abs {w = w64} tt s.ranges.sum)

returns : tie.Need-returns-then-sum-lt0
returns c = let s = c in below_axis s.args.sum (rw (to_z-of_z s.ranges.sum) at c.if-sum-lt0.true)

returns_2 : tie.Need-returns-else-sum-lt0
returns_2 c = let s = c in rw (to_z-of_z s.ranges.sum) (natural_axis s.args.sum (natural c))

pub on_axis_spec : {M : Type 1} → statement M
on_axis_spec = tie.close (tie.spec cast_result returns returns_2)
