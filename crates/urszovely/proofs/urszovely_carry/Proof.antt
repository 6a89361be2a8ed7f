-- `urszovely::urszovely_carry` answers what the library's question answers, in its four numbers, and leaves the same tables.
use borrow.Author.Rules.{rules}
use Rattle.urszovely.proofs.Plans.{check_between}
use Rattle.urszovely.proofs.urszovely_carry.Statement.{statement}
use Rattle.urszovely.proofs.urszovely_carry.Tie as tie

returns : tie.Need-returns
returns c =
    let n = c in
    let q = n in
    let two = q in
    let one = two in
    let plan = one.args.plan.now in
    record {
      checked = q.check_plan-checked.result;
      allowed = check_between _ _ _ _ plan _ _ _ _ q.check_plan-checked.result one.card-one.ensures two.card-two.ensures q.check_plan-checked.ensures;
      numbers = rw (c.four.ensures, n.in_numbers-numbers.ensures);
    }

pub urszovely_carry_spec : {M : Type 1} → statement M
urszovely_carry_spec =
    tie.close
    (tie.spec (λ c κs. search rules) (λ c κs. search rules) (λ c κs. search rules) (λ c κs. search rules) (λ c κs. search rules) (λ c. search rules)
    (λ c. search rules) returns)
