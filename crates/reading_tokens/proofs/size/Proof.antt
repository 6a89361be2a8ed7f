-- `reading_tokens::size` runs over a sign and a number: after a minus the number begins with 1 to 9, as the machine's phase has it.
use mathlib.Core.Path.{sym, ◌∙◌}
use native.Mathlib.Omega.{arith}
use borrow.Author.Rules.{rules}
use Rattle.reading_tokens.proofs.Laws.{stands_yes, stands_no, size_plain, size_minus}
use Rattle.reading_tokens.proofs.size.Statement.{statement}
use Rattle.reading_tokens.proofs.size.Tie as tie

add_number : tie.Need-overflow_add-from
add_number c =
    let a = c.args in
    omega (arith, (stands_yes a.text.now a.from 45 (sym c.stands.ensures ∙ c.if-stands.true)).0)

returns : tie.Need-returns-then-stands
returns c =
    let a = c.args in
    let y = stands_yes a.text.now a.from 45 (sym c.stands.ensures ∙ c.if-stands.true) in
    size_minus a.text.now a.from c.number-below.result y.0 y.1 c.number-below.ensures

returns_2 : tie.Need-returns
returns_2 c =
    let a = c.args in
    size_plain a.text.now a.from c.number-n.result (stands_no a.text.now a.from 45 (sym c.stands.ensures ∙ c.if-stands.false)) c.number-n.ensures

pub size_spec : {M : Type 1} → statement M
size_spec = tie.close (tie.spec (λ c κs. search rules) add_number (λ c κs. search rules) returns (λ c κs. search rules) returns_2)
