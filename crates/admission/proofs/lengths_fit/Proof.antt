-- `admission::lengths_fit` is check 4 of a packed card: the column of the lengths is tested, and the capped cells decide as the whole ones do.
use mathlib.Core.Path.{ap₂}
use mathlib.Core.Bool.{◌&&◌}
use native.Mathlib.Omega.{arith}
use borrow.Author.Rules.{rules}
use Rattle.card.specs.Limits.{most_cells}
use Rattle.card.specs.Card.{cells}
use Rattle.card.specs.Packed.{card_of}
use Rattle.card.proofs.Lists.{capped_test}
use Rattle.admission.proofs.lengths_fit.Statement.{statement}
use Rattle.admission.proofs.lengths_fit.Tie as tie

returns : tie.Need-returns
returns c =
    λ strides whole. ap₂ ◌&&◌ c.all_within.ensures (capped_test (cells (card_of c.args.numbers.now strides)) most_cells (omega arith) whole.cells_there)

pub lengths_fit_spec : {M : Type 1} → statement M
lengths_fit_spec = tie.close (tie.spec (λ c. search rules) (λ c κs. search rules) (λ c. search rules) returns)
