-- How far an index leaves an axis from its far end is the difference of the two sums: iter by iter, the steps that are missing times the stride.
use mathlib.Core.Path.{◌≡◌, refl, sym, ap}
use mathlib.Core.Bool.{Bool, true, false, cond, not, true≢false}
use mathlib.Core.List.{List, [], ◌∷◌, map}
use Prim.Native.Nat.{ℕ, suc, ◌+◌, ◌*◌, ◌-◌, ◌<◌}
use native.Mathlib.Nat.{mul-zero}
use native.Mathlib.Omega.{arith}
use borrow.Author.Tests.{le-leb}
use lib.Dec.{eqb}
use lib.IntN.{ℤ, pos, negsuc, ◌+ℤ◌, ◌*ℤ◌}
use Rattle.laws.proofs.Parts.{up, down, parts_sum, parts_times, whole}
use Rattle.card.specs.Lists.{all, within, product}
use Rattle.card.specs.Limits.{most_extent}
use Rattle.card.specs.Card.{listed, extent_of}
use Rattle.card.specs.declared.Iter.{Iter}
use Rattle.card.specs.declared.Iters.{Iters}
use Rattle.rules.specs.RowMajor.{components, inside}
use Rattle.rules.specs.Rules.{added, part}
use Rattle.rules.proofs.RowMajor.{inside_parts, components_inside}
use Rattle.rules.proofs.Reuse.{components_back}
use Rattle.rules_linear.specs.Reaching.{ahead, missing}
use Rattle.outside_reach.specs.Ends.{far_end, ends, end_index}
use Rattle.outside_reach.proofs.Reach.{ends_inside}

-- so much apart, the first of two the further one
abbrev pub Apart : Bool → ℤ → ℤ → ℕ → Type 0
Apart upwards far here n = cond upwards far here ≡ cond upwards here far +ℤ pos n

-- one component
one_apart : (upwards : Bool) (axis c : ℕ) (iter : Iter) → c < iter.extent
    → Apart upwards (cond (eqb iter.axis axis) (pos (far_end upwards iter) *ℤ iter.stride) (pos 0)) (cond (eqb iter.axis axis) (pos c *ℤ iter.stride) (pos 0))
    ((iter.extent - 1 - c) * ahead upwards axis iter + c * ahead (not upwards) axis iter)
one_apart upwards axis c iter h = by (eqb iter.axis axis) upwards iter.stride
  where
    steps : (iter.extent - 1) ≡ c + (iter.extent - 1 - c)
    steps = omega arith

    by : (b u : Bool) (s : ℤ)
        → Apart u (cond b (pos (far_end u (record { extent = iter.extent; stride = s; axis = iter.axis })) *ℤ s) (pos 0)) (cond b (pos c *ℤ s) (pos 0))
        ((iter.extent - 1 - c) * cond b (cond u (up s) (down s)) 0 + c * cond b (cond (not u) (up s) (down s)) 0)
    by true true (pos n) = rw (le-leb 0 n (omega arith)) (omega (whole, ap (λ (m : ℕ). m * n) steps, mul-zero c))
    by true true (negsuc n) =
        omega (whole, parts_times 0 (negsuc n), parts_times c (negsuc n), parts_sum (pos c *ℤ negsuc n) (pos ((iter.extent - 1 - c) * 0 + c * suc n)), mul-zero (iter.extent - 1 - c))
    by true false (pos n) = rw (le-leb 0 n (omega arith)) (omega (whole, mul-zero (iter.extent - 1 - c)))
    by true false (negsuc n) =
        omega (
          whole,
          parts_times (iter.extent - 1) (negsuc n),
          parts_times c (negsuc n),
          parts_sum (pos (iter.extent - 1) *ℤ negsuc n) (pos ((iter.extent - 1 - c) * suc n + c * 0)),
          ap (λ (m : ℕ). m * suc n) steps,
          mul-zero c,
        )
    by false true s = omega (whole, mul-zero (iter.extent - 1 - c), mul-zero c)
    by false false s = omega (whole, mul-zero (iter.extent - 1 - c), mul-zero c)

-- all of them
both_apart : (upwards : Bool) (a b c d : ℤ) (n m : ℕ) → Apart upwards a b n → Apart upwards c d m → Apart upwards (a +ℤ c) (b +ℤ d) (n + m)
both_apart true a b c d n m h k = omega (whole, parts_sum b (pos n), parts_sum d (pos m), parts_sum a c, parts_sum b d, parts_sum (b +ℤ d) (pos (n + m)))
both_apart false a b c d n m h k = omega (whole, parts_sum a (pos n), parts_sum c (pos m), parts_sum a c, parts_sum b d, parts_sum (a +ℤ c) (pos (n + m)))

added_apart : (upwards : Bool) (axis : ℕ) (l : List Iter) (cs : List ℕ) → inside (map extent_of l) cs ≡ true
    → Apart upwards (added axis l (ends upwards l)) (added axis l cs) (missing upwards axis l cs)
added_apart true axis [] cs i = refl
added_apart false axis [] cs i = refl
added_apart upwards axis (iter ∷ l) [] i = absurd (true≢false (sym i))
added_apart upwards axis (iter ∷ l) (c ∷ cs) i =
    let both = inside_parts iter.extent (map extent_of l) c cs i in
    both_apart upwards _ _ _ _ _ _ (one_apart upwards axis c iter both.0) (added_apart upwards axis l cs both.1)

-- on a list of iters
pub part_apart : (upwards : Bool) (iters : Iters) → all (within 1 most_extent) (map extent_of (listed iters)) ≡ true → (axis index : ℕ) → 0 < product (map extent_of (listed iters))
    → Apart upwards (part iters (end_index upwards iters) axis) (part iters index axis) (missing upwards axis (listed iters) (components (map extent_of (listed iters)) index))
part_apart upwards iters fit axis index some =
    rw (components_back (map extent_of (listed iters)) (ends upwards (listed iters)) (ends_inside upwards (listed iters) fit))
    (added_apart upwards axis (listed iters) (components (map extent_of (listed iters)) index) (components_inside (map extent_of (listed iters)) index some))
