-- `typed_lengths::advance` is the definition, by the phase.
use borrow.Author.Rules.{rules}
use Rattle.typed_lengths.proofs.advance.Statement.{statement}
use Rattle.typed_lengths.proofs.advance.Tie as tie

returns : tie.Need-returns-in-Before
returns c = rw (c.before-in-Before.ensures, c.in-Before.is)

returns_2 : tie.Need-returns-in-Inside
returns_2 c = rw (c.inside.ensures, c.in-Inside.is)

pub advance_spec : {M : Type 1} → statement M
advance_spec =
    tie.close
    (tie.spec (λ c. search rules) (λ c κs. search rules) (λ c. search rules) (λ c κs. search rules) (λ c. search rules) (λ c κs. search rules) returns returns_2 (λ c. search rules))
