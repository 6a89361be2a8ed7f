-- `encoding::judge` is the verdict on the card that was built.
use borrow.Author.Rules.{rules}
use Rattle.encoding.proofs.Laws.{judged, refused}
use Rattle.encoding.proofs.judge.Statement.{statement}
use Rattle.encoding.proofs.judge.Tie as tie

returns : tie.Need-returns-in-Ok
returns c =
    let j = c in
    let t = j in
    let b = t in
    judged b.args.a b.build-built.result _ _ j.judge-verdict.result c.report.result b.build-built.ensures t.in-Ok.is j.judge-verdict.ensures c.report.ensures

returns_2 : tie.Need-returns-in-Err
returns_2 c =
    let m = c in
    let b = m in
    refused b.args.a b.build-built.result _ m.in-Err.refusal c.report-in-Err.result b.build-built.ensures m.in-Err.is c.report-in-Err.ensures

pub judge_spec : {M : Type 1} → statement M
judge_spec = tie.close (tie.spec (λ c κs. search rules) (λ c. search rules) (λ c κs. search rules) (λ c κs. search rules) (λ c. search rules) (λ c κs. search rules) (λ c. search rules) returns returns_2)
