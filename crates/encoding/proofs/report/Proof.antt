-- `encoding::report` has the definition's clause of each verdict.
use borrow.Author.Rules.{rules}
use Rattle.encoding.proofs.report.Statement.{statement}
use Rattle.encoding.proofs.report.Tie as tie

returns : tie.Need-returns-in-Ok
returns c = rw (c.in-Ok.is, c.encoded_lbo.ensures)

pub report_spec : {M : Type 1} → statement M
report_spec = tie.close (tie.spec (λ c. search rules) (λ c κs. search rules) (λ c. search rules) returns (λ c. rw c.in-Err.is))
