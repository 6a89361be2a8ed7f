-- `verdict::judge` packs the card, and what is promised of the packed card is promised of the card.
use mathlib.Core.Path.{subst}
use borrow.Author.Rules.{rules}
use Rattle.card.specs.declared.Card.{Card}
use Rattle.judgement.specs.Verdict.{VerdictPromise}
use Rattle.judgement.proofs.Plain.{verdict_exactly}
use Rattle.verdict.proofs.judge.Statement.{statement}
use Rattle.verdict.proofs.judge.Tie as tie

judge_packed_requires : tie.Need-judge_packed-requires
judge_packed_requires c κs = c.pack-packed.ensures.whole

returns : tie.Need-returns
returns c =
    let p = c in
    let k = p in
    let a = k.args in
    let after = p.judge_packed.new.table in
    (verdict_exactly a.card a.table.now after p.judge-packed.result).1
    (subst (λ (card : Card). VerdictPromise card a.table.now after p.judge_packed.result) k.pack-packed.ensures.same_card p.judge_packed.ensures)

pub judge_spec : {M : Type 1} → statement M
judge_spec = tie.close (tie.spec (λ c κs. search rules) judge_packed_requires (λ c. search rules) returns)
