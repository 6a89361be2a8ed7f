-- `fragment::is_place` says whether there is such a place: of a known kind the arrays have what the table has.
use borrow.Author.Rules.{rules}
use borrow.Author.Tests.{lt-ltb, le-ltb}
use Rattle.fragment.specs.Kinds.{rows, columns, computations}
use Rattle.fragment.proofs.is_place.Statement.{statement}
use Rattle.fragment.proofs.is_place.Tie as tie

pub is_place_spec : {M : Type 1} → statement M
unfolding columns computations rows
is_place_spec =
    tie.close
    (tie.spec (λ c. search rules) (λ c. search rules) (λ c. search rules) (λ c. search rules) (λ c. search rules) (λ c. search rules)
    (λ c. rw (lt-ltb c.args.kind 9 c.if-kind-lt-KINDS.true)) (λ c. rw (le-ltb c.args.kind 9 c.if-kind-lt-KINDS.false)))
