-- `reading_tokens::number` runs over a number, or the text goes wrong where it should begin: the first digit is a byte on, the others are `digits`.
use native.Mathlib.Omega.{arith}
use borrow.Author.Rules.{rules}
use Rattle.reading_tokens.proofs.Laws.{number_good, number_bad}
use Rattle.reading_tokens.proofs.number.Statement.{statement}
use Rattle.reading_tokens.proofs.number.Tie as tie

returns : tie.Need-returns-then-text-from
returns c =
    let a = c.args in
    rw c.wrong.ensures (number_bad a.text.now a.from a.least (λ h. absurd (omega (arith, h))))

returns_2 : tie.Need-returns-then-least-d
returns_2 c =
    let d = c in
    let a = d.args in
    number_good a.text.now a.from a.least _ (omega arith) (rw d.digit-d.ensures at c.if-least-d.true) (rw d.digit-d.ensures at c.digits.ensures)

returns_3 : tie.Need-returns
returns_3 c =
    let d = c in
    let a = d.args in
    rw c.wrong-2.ensures (number_bad a.text.now a.from a.least (λ _. rw d.digit-d.ensures at c.if-least-d.false))

pub number_spec : {M : Type 1} → statement M
number_spec =
    tie.close
    (tie.spec (λ c κs. search rules) returns (λ c. omega arith) (λ c κs. search rules) (λ c. omega arith) (λ c κs. omega arith) returns_2 (λ c κs. search rules) returns_3)
