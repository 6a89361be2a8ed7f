-- After a stride a comma goes on, while strides are left to come; what closes the list ends it; any other byte is where the text goes wrong.
use Rattle.std.proofs.Common.{◌≡◌, ◌+◌, ◌-◌, true, false, eqb, replicate, arith}
use borrow.Author.Tests.{not-true, not-false}
use Rattle.card.specs.Card.{none}
use Rattle.reading_lists.proofs.Laws.{steps_more, steps_none, steps_bad, steps_good, no_comma, comma_more, comma_past, comma_only}
use Rattle.reading_lists.proofs.read_steps.Goals as goal

pub returns-then-not-one : goal.returns-then-not-one
returns-then-not-one c =
    let a = c.args in
    rw c.no_steps.ensures
    (steps_none a.text.now a.from a.iters a.count a.shard c.loop-k.i c.loop-k.k c.loop-k.at c.loop-k.marks c.read_step-one.result (c.loop-k.invariant.left (omega arith)) c.read_step-one.ensures _ _ (not-true _ c.if-not-one.true))

pub returns-then-stands-k : goal.returns-then-stands-k
returns-then-stands-k c =
    let a = c.args in
    rw (c.is_marked.ensures, c.with_step.ensures)
    (steps_good a.text.now a.from a.iters a.count a.shard c.loop-k.i c.loop-k.k c.loop-k.at c.loop-k.marks c.read_step-one.result (c.loop-k.invariant.left (omega arith)) c.read_step-one.ensures c.word-shut.result
    (not-false _ c.if-not-one.false) (no_comma _ _ (rw c.stands.ensures at c.if-not-stands.true)) (rw c.stands-then-not-stands.ensures at c.if-stands-k.true) c.word-shut.ensures)

pub returns-then-not-stands : goal.returns-then-not-stands
returns-then-not-stands c =
    let a = c.args in
    rw c.no_steps-then-not-stands.ensures
    (steps_bad a.text.now a.from a.iters a.count a.shard c.loop-k.i c.loop-k.k c.loop-k.at c.loop-k.marks c.read_step-one.result (c.loop-k.invariant.left (omega arith)) c.read_step-one.ensures _ _
    (not-false _ c.if-not-one.false) (no_comma _ _ (rw c.stands.ensures at c.if-not-stands.true)) (rw c.stands-then-not-stands.ensures at c.if-stands-k.false))

pub loop-k-preserved : goal.loop-k-preserved
loop-k-preserved c =
    let a = c.args in
    let t = a.text.now in
    let k = c.loop-k.k in
    let o = c.read_step-one.result in
    let so_far = c.loop-k.invariant.left (omega arith) in
    let fits : o.fits ≡ true = not-false _ c.if-not-one.false in
    let comma = rw c.stands.ensures at c.if-not-stands.false in
    let back : o.next + 1 - 1 ≡ o.next = omega arith in
    rw (c.is_marked.ensures, c.with_step.ensures)
    record {
      left = λ more. steps_more t a.from a.iters a.count a.shard c.loop-k.i k c.loop-k.at c.loop-k.marks o so_far c.read_step-one.ensures fits (comma_more _ (k + 1) a.count comma more);
      full = λ all. (
        omega arith,
        rw back
            (steps_bad t a.from a.iters a.count a.shard c.loop-k.i k c.loop-k.at c.loop-k.marks o so_far c.read_step-one.ensures (replicate 8 none) (replicate 8 false) fits
            (comma_past _ (k + 1) a.count comma all) (comma_only t o.next (eqb (k + 1) a.count) comma)),
      );
    }
