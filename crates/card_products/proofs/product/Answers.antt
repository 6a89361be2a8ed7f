-- `card_products::product` is the capped product of the first count numbers: one number more is multiplied into the part so far and leaves the product of the rest.
use Rattle.std.proofs.Common.{arith, ◌≤◌, length}
use Rattle.card.specs.Packed.{beyond}
use Rattle.card.proofs.Lists.{multiplied_more}
use Rattle.card_products.proofs.product.Goals as goal

pub loop-k-preserved : goal.loop-k-preserved
loop-k-preserved c =
    let a = c.args in
    let l = c.loop-k in
    let fits : a.count ≤ length a.numbers = omega arith in record {
      capped = omega arith;
      multiplied = rw c.times-part.ensures (multiplied_more a.numbers a.count beyond l.k l.part c.loop-k-test.true fits l.invariant.multiplied);
    }
