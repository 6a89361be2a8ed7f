-- `reading_tokens::tee` runs over the rest of TCol or TLane: a byte decides which, and the rest of the name is a word.
use mathlib.Core.Path.{refl}
use native.Mathlib.Omega.{arith}
use borrow.Author.Rules.{rules}
use borrow.Author.Tests.{leb-true}
use Rattle.reading_tokens.proofs.Laws.{axis_good, axis_bad, tee_c, tee_l, tee_stuck, second_yes}
use lib.Dec.{leb, eqb}
use lib.ListN.{get_or}
use Rattle.notation.specs.declared.Phase.TheVariants.{Tee}
use Rattle.reading_tokens.proofs.tee.Statement.{statement}
use Rattle.reading_tokens.proofs.tee.Tie as tie

returns : tie.Need-returns-then-text-from
returns c =
    let a = c.args in
    rw c.wrong.ensures (axis_bad Tee a.text.now a.from a.least (λ p s. refl) (λ h. absurd (omega (arith, h))))

returns_2 : tie.Need-returns-then-b-eq67
returns_2 c =
    let a = c.args in
    axis_good Tee a.text.now a.from a.least 20 6 c.word.result (omega arith) (omega arith) c.requires (λ p s _. tee_c p s (get_or a.text.now a.from 0) c.if-b-eq67.true) c.word.ensures

returns_3 : tie.Need-returns-then-b-least
returns_3 c =
    let a = c.args in
    axis_good Tee a.text.now a.from a.least 16 5 c.word-then-b-least.result (omega arith) (omega arith) (leb-true a.least 5 (second_yes (eqb (get_or a.text.now a.from 0) 76) (leb a.least 5) c.if-b-least.true))
    (λ p s e. tee_l p s (get_or a.text.now a.from 0) a.least c.if-b-eq67.false c.if-b-least.true e) c.word-then-b-least.ensures

returns_4 : tie.Need-returns
returns_4 c =
    let a = c.args in
    rw c.wrong-2.ensures
    (axis_bad Tee a.text.now a.from a.least (λ p s. refl)
    (λ _ p s e. tee_stuck p s (get_or a.text.now a.from 0) a.least c.if-b-eq67.false c.if-b-least.false e))

pub tee_spec : {M : Type 1} → statement M
tee_spec =
    tie.close
    (tie.spec (λ c κs. search rules) returns (λ c. omega arith) (λ c. omega arith) (λ c κs. omega arith) returns_2 (λ c. omega arith) (λ c κs. omega arith) returns_3
    (λ c κs. search rules) returns_4)
