-- The part so far is below the cap, and its product with the product of the numbers still to come is the product of all, capped.
use Rattle.std.proofs.Common.{◌≤◌}
use Rattle.card.specs.Packed.{beyond}
use Rattle.card.proofs.Lists.{Multiplied}
use Rattle.card_products.proofs.product.Given as goal

abbrev pub invariant-loop-k : goal.invariant-loop-k
invariant-loop-k l = record { capped : l.part ≤ beyond; multiplied : Multiplied l.numbers l.count beyond l.k l.part }
