-- `reading_tokens::read_step` runs over a stride or an offset: the run over its size and the one over its place, one after the other.
use borrow.Author.Rules.{rules}
use Rattle.reading_tokens.proofs.Laws.{step_good, step_bad}
use Rattle.reading_tokens.proofs.read_step.Statement.{statement}
use Rattle.reading_tokens.proofs.read_step.Tie as tie

returns : tie.Need-returns-then-m
returns c =
    let m = c in
    let a = m.args in
    step_good a.text.now a.from a.least a.marks m.size-m.result c.spot-p.result c.if-m.true m.size-m.ensures c.spot-p.ensures

returns_2 : tie.Need-returns
returns_2 c =
    let m = c in
    let a = m.args in
    step_bad a.text.now a.from a.least a.marks m.size-m.result _ c.if-m.false m.size-m.ensures

pub read_step_spec : {M : Type 1} → statement M
read_step_spec = tie.close (tie.spec (λ c κs. search rules) (λ c κs. search rules) returns returns_2)
