-- After an extent a comma goes on, up to the most; what closes the list goes on to its strides; any other byte is where the text goes wrong.
use Rattle.std.proofs.Common.{◌≡◌, ◌+◌, ◌-◌, true, leb, replicate, arith}
use borrow.Author.Tests.{not-true, not-false}
use Rattle.card.specs.Card.{none}
use Rattle.reading_lists.proofs.Laws.{extents_more, extents_none, extents_bad, extents_good, no_comma, comma_more, comma_past, comma_only}
use Rattle.reading_lists.proofs.read_extents.Goals as goal

pub returns-then-not-one : goal.returns-then-not-one
returns-then-not-one c =
    let a = c.args in
    rw c.no_extents.ensures
    (extents_none a.text.now a.from a.least a.most c.loop-k.i c.loop-k.k c.loop-k.at c.number-one.result (c.loop-k.invariant.room (omega arith)) c.number-one.ensures _ _ (not-true _ c.if-not-one.true))

pub returns-then-stands-least : goal.returns-then-stands-least
returns-then-stands-least c =
    let a = c.args in
    extents_good a.text.now a.from a.least a.most c.loop-k.i c.loop-k.k c.loop-k.at c.number-one.result (c.loop-k.invariant.room (omega arith)) c.number-one.ensures c.word-open.result (omega arith)
    (not-false _ c.if-not-one.false) (no_comma _ _ (rw c.stands.ensures at c.if-not-stands.true)) (rw c.stands-then-not-stands.ensures at c.if-stands-least.true) c.word-open.ensures

pub returns-then-not-stands : goal.returns-then-not-stands
returns-then-not-stands c =
    let a = c.args in
    rw c.no_extents-then-not-stands.ensures
    (extents_bad a.text.now a.from a.least a.most c.loop-k.i c.loop-k.k c.loop-k.at c.number-one.result (c.loop-k.invariant.room (omega arith)) c.number-one.ensures _ _
    (not-false _ c.if-not-one.false) (no_comma _ _ (rw c.stands.ensures at c.if-not-stands.true)) (rw c.stands-then-not-stands.ensures at c.if-stands-least.false))

pub loop-k-preserved : goal.loop-k-preserved
loop-k-preserved c =
    let a = c.args in
    let t = a.text.now in
    let k = c.loop-k.k in
    let n = c.number-one.result in
    let so_far = c.loop-k.invariant.room (omega arith) in
    let fits : n.fits ≡ true = not-false _ c.if-not-one.false in
    let comma = rw c.stands.ensures at c.if-not-stands.false in
    let back : n.next + 1 - 1 ≡ n.next = omega arith in
    record {
      room = λ more. extents_more t a.from a.least a.most c.loop-k.i k c.loop-k.at n so_far c.number-one.ensures fits (comma_more _ (k + 1) a.most comma more);
      full = λ all. (
        omega arith,
        rw back (extents_bad t a.from a.least a.most c.loop-k.i k c.loop-k.at n so_far c.number-one.ensures (replicate 8 none) 0 fits (comma_past _ (k + 1) a.most comma all) (comma_only t n.next (leb a.least (k + 1)) comma)),
      );
    }
