-- `admission::few_enough` is check 5: below the cap the capped products decide as the whole ones do.
use mathlib.Core.Path.{ap₂}
use mathlib.Core.Bool.{◌&&◌}
use native.Mathlib.Omega.{arith}
use borrow.Author.Rules.{rules}
use Rattle.card.specs.Limits.{most_elements, most_copies}
use Rattle.card.specs.Card.{elements, copies}
use Rattle.card.specs.Packed.{card_of}
use Rattle.card.proofs.Lists.{capped_test}
use Rattle.admission.proofs.few_enough.Statement.{statement}
use Rattle.admission.proofs.few_enough.Tie as tie

returns : tie.Need-returns
returns c =
    λ strides whole.
    let card = card_of c.args.numbers.now strides in
    ap₂ ◌&&◌ (capped_test (elements card) most_elements (omega arith) whole.elements_there) (capped_test (copies card) most_copies (omega arith) whole.copies_there)

pub few_enough_spec : {M : Type 1} → statement M
few_enough_spec = tie.close (tie.spec (λ c. search rules) (λ c. search rules) returns)
