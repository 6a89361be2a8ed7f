-- `urszovely::urszovely_verdict` answers what the library's question answers of the card that it packs, in its four numbers.
use mathlib.Core.Path.{sym}
use borrow.Author.Rules.{rules}
use Rattle.judgement.proofs.Plain.{verdict_exactly}
use Rattle.urszovely.proofs.urszovely_verdict.Statement.{statement}
use Rattle.urszovely.proofs.urszovely_verdict.Tie as tie

returns : tie.Need-returns
returns c =
    let n = c in
    let j = n in
    let k = j in
    record {
      verdict = j.judge_packed-verdict.result;
      allowed = rw (sym k.pack.ensures.same_card) ((verdict_exactly _ _ _ _).1 j.judge_packed-verdict.ensures);
      numbers = rw (c.four.ensures, n.in_numbers-told.ensures);
    }

pub urszovely_verdict_spec : {M : Type 1} → statement M
urszovely_verdict_spec = tie.close (tie.spec (λ c κs. search rules) (λ c κs. search rules) (λ c κs. search rules) (λ c κs. search rules) (λ c. search rules) returns)
