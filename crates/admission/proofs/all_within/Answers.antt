-- `admission::all_within` tests the numbers from one place up to another: a turn tests one more, and leaves the test of the rest.
use Rattle.std.proofs.Common.{arith, ◌≡◌}
use Rattle.card.specs.Lists.{within}
use Rattle.card.proofs.Lists.{tested_more, tested_all}
use Rattle.admission.proofs.all_within.Goals as goal

pub loop-k-preserved : goal.loop-k-preserved
loop-k-preserved c =
    let a = c.args in
    let l = c.loop-k in
    tested_more (within a.least a.most) a.numbers.now a.from a.end l.k 0 l.fit c.loop-k-test.true c.requires.1 l.invariant

pub returns : goal.returns
returns c =
    let a = c.args in
    let l = c.loop-k in
    let end : l.k ≡ a.end = omega arith in
    tested_all (within a.least a.most) a.numbers.now a.from a.end l.fit (rw end at l.invariant)
