-- `mma::register_of` is made of its digits.
use borrow.Author.Rules.{rules}
use Rattle.mma.proofs.register_of.Statement.{statement}
use Rattle.mma.proofs.register_of.Tie as tie

returns : tie.Need-returns
returns c =
    rw (
      c.step-3.ensures.0,
      c.step-2.ensures.0,
      c.step.ensures.0,
      c.tall.ensures.0,
      c.wide.ensures.0,
      c.digit-next.ensures.0,
      c.digit-half.ensures.0,
      c.digit-repeat.ensures.0,
    )

pub register_of_spec : {M : Type 1} → statement M
register_of_spec =
    tie.close
    (tie.spec (λ c. search rules) (λ c κs. search rules) (λ c κs. search rules) (λ c κs. search rules) (λ c κs. search rules) (λ c κs. search rules)
    (λ c κs. search rules) (λ c κs. search rules) (λ c κs. search rules) returns)
