-- `reading_tokens::axis` runs over an axis: its first byte decides by the machine's own tests, and the rest of its name is a word.
use mathlib.Core.Path.{refl}
use native.Mathlib.Omega.{arith}
use borrow.Author.Rules.{rules}
use borrow.Author.Tests.{leb-true}
use Rattle.reading_tokens.proofs.Laws.{axis_good, axis_bad, axis_tee, axis_named, axis_stuck, at_most_7, second_yes}
use lib.Dec.{leb, ltb, eqb}
use lib.ListN.{get_or}
use Rattle.notation.specs.Machine.{initial_of, rest_of}
use Rattle.notation.specs.declared.Phase.TheVariants.{At}
use Rattle.reading_tokens.proofs.axis.Statement.{statement}
use Rattle.reading_tokens.proofs.axis.Tie as tie

returns : tie.Need-returns-then-text-from
returns c =
    let a = c.args in
    rw c.wrong.ensures (axis_bad At a.text.now a.from a.least (λ p s. refl) (λ h. absurd (omega (arith, h))))

returns_2 : tie.Need-returns-then-b-least
returns_2 c =
    let a = c.args in
    axis_tee a.text.now a.from a.least c.tee.result (omega arith) c.if-b-least.true c.tee.ensures

returns_3 : tie.Need-returns-then-a-least
returns_3 c =
    let n = c in
    let a = n.args in
    let b = get_or a.text.now a.from 0 in
    let named = rw n.initial-a.ensures at c.if-a-least.true in
    axis_good At a.text.now a.from a.least (rest_of (initial_of b)) (initial_of b) c.word.result (omega arith) (at_most_7 (initial_of b) a.least named) (leb-true a.least (initial_of b) (second_yes (ltb (initial_of b) 8) (leb a.least (initial_of b)) named))
    (λ p s e. axis_named p s b a.least n.if-b-least.false named e) (rw (c.rest.ensures, n.initial-a.ensures) at c.word.ensures)

returns_4 : tie.Need-returns
returns_4 c =
    let n = c in
    let a = n.args in
    rw c.wrong-2.ensures
    (axis_bad At a.text.now a.from a.least (λ p s. refl)
    (λ _ p s e. axis_stuck p s (get_or a.text.now a.from 0) a.least n.if-b-least.false (rw n.initial-a.ensures at c.if-a-least.false) e))

tee_requires : tie.Need-tee-requires
tee_requires c κs =
    let a = c.args in
    leb-true a.least 6 (second_yes (eqb (get_or a.text.now a.from 0) 84) (leb a.least 6) c.if-b-least.true)

pub axis_spec : {M : Type 1} → statement M
axis_spec =
    tie.close
    (tie.spec (λ c κs. search rules) returns (λ c. omega arith) (λ c. omega arith) tee_requires returns_2 (λ c κs. search rules) (λ c. omega arith)
    (λ c κs. search rules) (λ c κs. omega arith) returns_3 (λ c κs. search rules) returns_4)
