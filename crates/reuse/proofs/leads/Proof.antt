-- `reuse::leads` is whether an element leads: where nothing is marked each does.
use mathlib.Core.Path.{sym}
use borrow.Author.Tests.{eq-eqb}
use Rattle.reuse.proofs.Walk.{unmarked_leads}
use Rattle.reuse.proofs.leads.Statement.{statement}
use Rattle.reuse.proofs.leads.Tie as tie

returns_2 : tie.Need-returns-else-marked
returns_2 c = λ strides.
    let s = c in
    let a = s.args in
    sym (eq-eqb _ a.flat.0 (unmarked_leads a.numbers.now a.flat.0 s.requires.0 strides (s.requires.1 strides c.if-marked.false)))

pub leads_spec : {M : Type 1} → statement M
leads_spec = tie.close (tie.spec (λ c κs. c.requires.0) (λ c. c.stands_still.ensures) returns_2)
