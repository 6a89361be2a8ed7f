-- `c_packed::cells` is the capped product of the lengths.
use mathlib.Core.Path.{◌≡◌, ap, ◌∙◌}
use mathlib.Core.List.{List}
use Prim.Native.Nat.{ℕ, min}
use borrow.Author.Rules.{rules}
use lib.ListN.{take}
use Rattle.card.specs.Lists.{product}
use Rattle.card.specs.Packed.{beyond}
use Rattle.c_packed.proofs.cells.Statement.{statement}
use Rattle.c_packed.proofs.cells.Tie as tie

returns : tie.Need-returns
returns c = c.product.ensures ∙ ap (λ (l : List ℕ). min (product (take 8 l)) beyond) c.of_axes.ensures

pub cells_spec : {M : Type 1} → statement M
cells_spec = tie.close (tie.spec (λ c κs. search rules) (λ c κs. search rules) returns)
