-- A space that fits can be numbered, all eight axes of it.
use mathlib.Core.Path.{◌≡◌, ap}
use mathlib.Core.Bool.{true, and-eq-true_iff}
use mathlib.Core.List.{List}
use Prim.Native.Nat.{ℕ, ◌+◌, ◌≤◌}
use native.Mathlib.Nat.{le_refl}
use native.Mathlib.Omega.{arith}
use borrow.Author.Tests.{leb-true}
use lib.Dec.{leb}
use lib.ListN.{length, take}
use lib.Seq.{slice}
use Rattle.card.specs.Lists.{all, within, product}
use Rattle.card.specs.Limits.{most_length, most_cells}
use Rattle.card.specs.Packed.{beyond}
use Rattle.card.specs.Admission.{space_fits}
use Rattle.card.proofs.Lists.{product_positive}
use Rattle.copies.specs.Clauses.{Numerable}

-- the cells of a space that fits
pub record Roomed (lengths : List ℕ) : Type 0 where
  pub some : 1 ≤ product lengths
  pub few : product lengths ≤ most_cells

pub roomed : (lengths : List ℕ) → space_fits lengths ≡ true → Roomed lengths
roomed lengths t =
    let both = (and-eq-true_iff (all (within 1 most_length) lengths) (leb (product lengths) most_cells)).0 t in
    record { some = product_positive most_length lengths both.0; few = leb-true (product lengths) most_cells both.1 }

pub space_numerable : (numbers : List ℕ) → length numbers ≡ 56 → space_fits (slice 32 40 numbers) ≡ true → Numerable numbers 32 8
space_numerable numbers all t =
    let n = roomed (slice 32 40 numbers) t in
    record { there = omega arith; few = le_refl 8; some = n.some; small = omega (arith, n.few) }

-- the first of some sizes
pub prefix_numerable : (sizes : List ℕ) (count : ℕ) → count ≤ length sizes → count ≤ 8 → 1 ≤ product (take count sizes) → product (take count sizes) ≤ beyond
    → Numerable sizes 0 count
prefix_numerable sizes count there few some small =
    let none : 0 + count ≡ count = omega arith in
    let same : product (slice 0 (0 + count) sizes) ≡ product (take count sizes) = ap (λ (n : ℕ). product (take n sizes)) none in
    record { there = omega arith; few = few; some = omega arith; small = omega arith }
