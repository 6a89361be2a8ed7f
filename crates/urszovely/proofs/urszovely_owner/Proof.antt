-- `urszovely::urszovely_owner` answers what the library's question answers, in its four numbers.
use borrow.Author.Rules.{rules}
use Rattle.urszovely.proofs.Theorems.{owner_between}
use Rattle.urszovely.proofs.urszovely_owner.Statement.{statement}
use Rattle.urszovely.proofs.urszovely_owner.Tie as tie

returns : tie.Need-returns
returns c =
    let n = c in
    let j = n in
    let k = j in
    record {
      owner = j.owner_of-owner.result;
      allowed = owner_between _ _ _ _ _ j.owner_of-owner.result k.card.ensures j.owner_of-owner.ensures;
      numbers = rw (c.four.ensures, n.in_numbers-numbers.ensures);
    }

pub urszovely_owner_spec : {M : Type 1} → statement M
urszovely_owner_spec = tie.close (tie.spec (λ c κs. search rules) (λ c κs. search rules) (λ c κs. search rules) (λ c κs. search rules) (λ c. search rules) returns)
