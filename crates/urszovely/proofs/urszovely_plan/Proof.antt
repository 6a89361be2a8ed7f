-- `urszovely::urszovely_plan` answers what the library's question answers, in its four numbers, and leaves the same tables and the same plan.
use mathlib.Core.Path.{sym}
use borrow.Author.Rules.{rules}
use Rattle.urszovely.proofs.urszovely_plan.Statement.{statement}
use Rattle.urszovely.proofs.urszovely_plan.Tie as tie

returns : tie.Need-returns
returns c =
    let n = c in
    let q = n in
    let two = q in
    let one = two in
    record {
      written = q.write_plan-written.result;
      allowed = rw (sym one.card-one.ensures, sym two.card-two.ensures) q.write_plan-written.ensures;
      numbers = rw (c.four.ensures, n.in_numbers-numbers.ensures);
    }

pub urszovely_plan_spec : {M : Type 1} → statement M
urszovely_plan_spec =
    tie.close
    (tie.spec (λ c κs. search rules) (λ c κs. search rules) (λ c κs. search rules) (λ c κs. search rules) (λ c κs. search rules) (λ c. search rules)
    (λ c. search rules) (λ c. search rules) returns)
