-- `fragment::is_slot` says whether there is such a register: of a known kind the array has what the table has.
use borrow.Author.Rules.{rules}
use borrow.Author.Tests.{lt-ltb, le-ltb}
use Rattle.fragment.specs.Kinds.{registers}
use Rattle.fragment.proofs.is_slot.Statement.{statement}
use Rattle.fragment.proofs.is_slot.Tie as tie

pub is_slot_spec : {M : Type 1} → statement M
unfolding registers
is_slot_spec =
    tie.close
    (tie.spec (λ c. search rules) (λ c. search rules) (λ c. rw (lt-ltb c.args.kind 9 c.if-kind-lt-KINDS.true))
    (λ c. rw (le-ltb c.args.kind 9 c.if-kind-lt-KINDS.false)))
