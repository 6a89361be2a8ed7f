-- `urszovely::urszovely_canonical` answers what the library's question answers: both encodings and four numbers.
use mathlib.Core.Path.{refl}
use borrow.Author.Rules.{rules}
use Rattle.urszovely.proofs.urszovely_canonical.Statement.{statement}
use Rattle.urszovely.proofs.urszovely_canonical.Tie as tie

returns : tie.Need-returns
returns c =
    let n = c in
    let j = n in
    record {
      reported = j.judge-reported.result;
      allowed = j.judge-reported.ensures;
      encoded = refl;
      numbers = rw (c.four.ensures, n.reported_numbers-numbers.ensures);
    }

pub urszovely_canonical_spec : {M : Type 1} → statement M
urszovely_canonical_spec = tie.close (tie.spec (λ c κs. search rules) (λ c κs. search rules) (λ c κs. search rules) (λ c. search rules) returns)
