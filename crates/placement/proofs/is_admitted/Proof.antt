-- `placement::is_admitted` is check 9: below the cap the capped product decides as the whole one does.
use mathlib.Core.Path.{ap, ◌∙◌}
use mathlib.Core.Bool.{and-eq-true_iff}
use Prim.Native.Nat.{ℕ}
use borrow.Author.Tests.{leb-true}
use lib.Dec.{leb, eqb}
use Rattle.laws.proofs.Capped.{capped_eqb}
use Rattle.card.specs.Lists.{product}
use Rattle.card.specs.Packed.{beyond}
use Rattle.placement_judged.specs.Placement.{entries, most_dimensions}
use Rattle.placement.proofs.is_admitted.Statement.{statement}
use Rattle.placement.proofs.is_admitted.Tie as tie

product_requires : tie.Need-product-requires
product_requires c κs =
    let count = c.args.shape.count in
    leb-true count most_dimensions ((and-eq-true_iff (leb 1 count) (leb count most_dimensions)).0 c.if-count.true).1

returns : tie.Need-returns-then-count
returns c =
    let s = c in
    rw c.if-count.true
    (ap (λ (n : ℕ). eqb n s.args.elements) c.product.ensures
    ∙ capped_eqb beyond (product (entries s.args.shape)) s.args.elements s.requires)

returns_2 : tie.Need-returns-else-count
returns_2 c = rw c.if-count.false

pub is_admitted_spec : {M : Type 1} → statement M
is_admitted_spec = tie.close (tie.spec product_requires returns returns_2)
