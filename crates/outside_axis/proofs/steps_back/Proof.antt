-- `outside_axis::steps_back` is the definition, by the test that it makes.
use borrow.Author.Rules.{rules}
use borrow.Author.Tests.{eq-eqb, ne_eqb}
use Rattle.outside_axis.proofs.steps_back.Statement.{statement}
use Rattle.outside_axis.proofs.steps_back.Tie as tie

returns : tie.Need-returns-then-weight-eq0
returns c = rw (eq-eqb c.args.weight 0 c.if-weight-eq0.true)

returns_2 : tie.Need-returns
returns_2 c = let e = c in rw (ne_eqb e.args.weight 0 e.if-weight-eq0.false) c.min.ensures

pub steps_back_spec : {M : Type 1} → statement M
steps_back_spec = tie.close (tie.spec (λ c. search rules) returns (λ c. search rules) (λ c. search rules) (λ c κs. search rules) returns_2)
