-- `admission::all_between` tests the signed numbers from one place up to another: a turn tests one more, and leaves the test of the rest.
use Rattle.std.proofs.Common.{arith, ◌≡◌, get_or}
use lib.IntN.{pos}
use mir.Syntax.{w64}
use mir.Val.{to_z, of_z}
use mir.Facts.{to_z-of_z}
use Rattle.card.specs.Lists.{within_z}
use Rattle.card.proofs.Lists.{tested_more, tested_all}
use Rattle.admission.proofs.all_between.Goals as goal

pub loop-k-preserved : goal.loop-k-preserved
loop-k-preserved c =
    let a = c.args in
    let l = c.loop-k in
    let back = to_z-of_z {w = w64} {z = get_or a.numbers.now l.k (pos 0)} (record { sfits = c.number-1.given }) in
    rw back
    (tested_more (within_z (to_z w64 (of_z w64 a.least)) (to_z w64 (of_z w64 a.most))) a.numbers.now a.from a.end l.k (pos 0) l.fit c.loop-k-test.true c.requires.1 l.invariant)

pub returns : goal.returns
returns c =
    let a = c.args in
    let l = c.loop-k in
    let end : l.k ≡ a.end = omega arith in
    let owed = rw (end, to_z-of_z c.ranges.least, to_z-of_z c.ranges.most) at l.invariant in
    tested_all (within_z a.least a.most) a.numbers.now a.from a.end l.fit owed
