-- `urszovely::urszovely_place` answers what the library's question answers of the card that it packs, in its four numbers.
use borrow.Author.Rules.{rules}
use Rattle.urszovely.proofs.Theorems.{placed_between}
use Rattle.urszovely.proofs.urszovely_place.Statement.{statement}
use Rattle.urszovely.proofs.urszovely_place.Tie as tie

returns : tie.Need-returns
returns c =
    let n = c in
    let p = n in
    let two = p in
    let one = two in
    let k = one in
    record {
      placement = p.place_packed-placement.result;
      allowed =
          placed_between _ _ _ _ _ _ _ _ p.place_packed-placement.result k.pack.ensures.same_card one.tuple.ensures two.tuple-2.ensures
          p.place_packed-placement.ensures;
      numbers = rw (c.four.ensures, n.in_numbers-told.ensures);
    }

pub urszovely_place_spec : {M : Type 1} → statement M
urszovely_place_spec = tie.close (tie.spec (λ c κs. search rules) (λ c κs. search rules) (λ c κs. search rules) (λ c κs. search rules) (λ c κs. search rules) (λ c κs. search rules) (λ c. search rules) returns)
