-- `reading::after_replica` answers from the end of the replica on: a text may end there, and only a plus goes on.
use native.Mathlib.Omega.{arith}
use borrow.Author.Rules.{rules}
use Rattle.reading.proofs.Laws.{may_stop, ended_wrong, ended_plus}
use Rattle.reading.proofs.after_replica.Statement.{statement}
use Rattle.reading.proofs.after_replica.Tie as tie

returns : tie.Need-returns-then-text-from
returns c =
    let a = c.args in
    rw c.done.ensures (λ still s h. may_stop a.text.now a.from s a.layout (omega arith) h)

returns_2 : tie.Need-returns-then-text-from-ne43
returns_2 c =
    let a = c.args in
    rw c.refuse.ensures (λ still s h. ended_wrong a.text.now a.from s a.layout (omega arith) c.if-text-from-ne43.true h)

returns_3 : tie.Need-returns
returns_3 c =
    let a = c.args in
    λ still s h. c.with_offsets.ensures still (ended_plus a.text.now a.from s a.layout (omega arith) c.if-text-from-ne43.false h)

pub after_replica_spec : {M : Type 1} → statement M
after_replica_spec = tie.close (tie.spec (λ c κs. search rules) returns (λ c. omega arith) (λ c κs. search rules) returns_2 (λ c. omega arith) (λ c κs. search rules) returns_3)
