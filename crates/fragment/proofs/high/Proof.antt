-- `fragment::high` is h: the branch taken is the one that the test of lane 16 picks.
use borrow.Author.Tests.{lt-leb, le-leb}
use Rattle.fragment.proofs.high.Statement.{statement}
use Rattle.fragment.proofs.high.Tie as tie

pub high_spec : {M : Type 1} → statement M
high_spec =
    tie.close
    (tie.spec (λ c. rw (lt-leb 16 c.args.lane c.if-lane-lt16.true)) (λ c. rw (le-leb 16 c.args.lane c.if-lane-lt16.false)))
