-- The cell of a copy is its level and its swizzled m: row-major numbers are sums of coordinates times weights, and so are levels, over whole numbers.
use mathlib.Core.Path.{◌≡◌, refl, sym, ap, ap₂, ◌∙◌}
use mathlib.Core.Bool.{Bool, true, false, cond, and-eq-true_iff, true≢false}
use mathlib.Core.List.{List, [], ◌∷◌, ◌++◌, map}
use Prim.Native.Nat.{ℕ, suc, ◌+◌, ◌*◌, ◌≤◌, ◌<◌}
use native.Mathlib.Nat.{mul_comm, mul_left_comm, mul-le-mul, mul-le-mul_right}
use native.Mathlib.Omega.{arith}
use lib.Dec.{leb}
use lib.IntN.{ℤ, pos, negsuc, nat_abs, ◌+ℤ◌, ◌*ℤ◌, +ℤ_idl, +ℤ_idr, +ℤ_assoc, *ℤ-zero}
use lib.ListN.{length, get_or, take}
use Rattle.laws.proofs.Signed.{sum_far, times_far}
use Rattle.laws.proofs.Parts.{whole, up, down, parts_sum, parts_times}
use Rattle.card.specs.Lists.{all, within, product}
use Rattle.card.specs.Limits.{last_axis, most_length, most_cells}
use Rattle.card.specs.Admission.{space_fits}
use Rattle.card.specs.declared.Card.{Card}
use Rattle.card.proofs.Lists.{within_numbers}
use Rattle.rules.specs.RowMajor.{row_major, inside}
use Rattle.rules.specs.Rules.{part, sum, swizzled_z, finished, on_axis, coordinates, spot}
use Rattle.rules.specs.declared.Spot.TheVariants.{Inside}
use Rattle.rules.proofs.RowMajor.{inside_parts}
use Rattle.rules.proofs.Spots.{spot_numbered}
use Rattle.answers.specs.declared.Cell.{Cell}
use Rattle.rules_linear.specs.Levels.{weighed_sum, seven, level_at, base}
use Rattle.rules_linear.proofs.Times.{times_sum, times_one}

-- the level of sums is the sum of the levels, and so many times the level is that of so many times the sums
pub weighed_sum_lem : (ns : List ℕ) (f g : ℕ → ℤ) (l : List ℕ) → weighed_sum ns (map (λ a. f a +ℤ g a) l) ≡ weighed_sum ns (map f l) +ℤ weighed_sum ns (map g l)
weighed_sum_lem [] f g l = refl
weighed_sum_lem (n ∷ ns) f g [] = refl
weighed_sum_lem (n ∷ ns) f g (a ∷ l) =
    ap₂ (λ (x y : ℤ). x +ℤ y) (times_sum (product ns) (f a) (g a)) (weighed_sum_lem ns f g l)
    ∙ swap (pos (product ns) *ℤ f a) (pos (product ns) *ℤ g a) (weighed_sum ns (map f l)) (weighed_sum ns (map g l))
  where
    swap : (a b c d : ℤ) → (a +ℤ b) +ℤ (c +ℤ d) ≡ (a +ℤ c) +ℤ (b +ℤ d)
    swap a b c d = omega (whole, parts_sum a b, parts_sum c d, parts_sum (a +ℤ b) (c +ℤ d), parts_sum a c, parts_sum b d, parts_sum (a +ℤ c) (b +ℤ d))

times_times : (n m : ℕ) (z : ℤ) → pos n *ℤ (pos m *ℤ z) ≡ pos m *ℤ (pos n *ℤ z)
times_times n m z =
    let inner = parts_times m z in
    let other = parts_times n z in
    omega (
      whole,
      parts_times n (pos m *ℤ z),
      parts_times m (pos n *ℤ z),
      ap (λ (k : ℕ). n * k) inner.0,
      ap (λ (k : ℕ). n * k) inner.1,
      ap (λ (k : ℕ). m * k) other.0,
      ap (λ (k : ℕ). m * k) other.1,
      mul_left_comm n m (up z),
      mul_left_comm n m (down z),
    )

pub weighed_times : (ns : List ℕ) (c : ℕ) (f : ℕ → ℤ) (l : List ℕ) → weighed_sum ns (map (λ a. pos c *ℤ f a) l) ≡ pos c *ℤ weighed_sum ns (map f l)
weighed_times [] c f l = sym (*ℤ-zero (pos c))
weighed_times (n ∷ ns) c f [] = sym (*ℤ-zero (pos c))
weighed_times (n ∷ ns) c f (a ∷ l) =
    ap₂ (λ (x y : ℤ). x +ℤ y) (times_times (product ns) c (f a)) (weighed_times ns c f l)
    ∙ sym (times_sum c (pos (product ns) *ℤ f a) (weighed_sum ns (map f l)))

-- inside, each coordinate is the sum itself, so the row-major number is that of the sums
pub coordinate_is : (z : ℤ) (n : ℕ) → on_axis z < n → n ≤ most_length → pos (on_axis z) ≡ z
coordinate_is (pos k) n h few = refl
coordinate_is (negsuc k) n h few = absurd (omega arith)

pub row_major_weighed : (ns : List ℕ) (zs : List ℤ) → all (within 1 most_length) ns ≡ true → inside ns (map on_axis zs) ≡ true
    → pos (row_major ns (map on_axis zs)) ≡ weighed_sum ns zs
row_major_weighed [] [] a i = refl
row_major_weighed [] (z ∷ zs) a i = absurd (true≢false (sym i))
row_major_weighed (n ∷ ns) [] a i = absurd (true≢false (sym i))
row_major_weighed (n ∷ ns) (z ∷ zs) a i =
    let both = (and-eq-true_iff (within 1 most_length n) (all (within 1 most_length) ns)).0 a in
    let parts = inside_parts n ns (on_axis z) (map on_axis zs) i in
    let few = (within_numbers 1 most_length n both.0).1 in
    ap₂ (λ (x y : ℤ). x +ℤ y)
    (ap pos (mul_comm (on_axis z) (product ns)) ∙ ap (λ (x : ℤ). pos (product ns) *ℤ x) (coordinate_is z n parts.0 few))
    (row_major_weighed ns zs both.1 parts.1)

-- the last weight is 1
pub weighed_last : (ns : List ℕ) (zs : List ℤ) (z : ℤ) → length ns ≡ suc (length zs) → weighed_sum ns (zs ++ z ∷ []) ≡ weighed_sum ns zs +ℤ z
weighed_last [] zs z e = absurd (omega arith)
weighed_last (n ∷ []) [] z e = +ℤ_idr (pos 1 *ℤ z) ∙ times_one z ∙ sym (+ℤ_idl z)
weighed_last (n ∷ m ∷ ns) [] z e = absurd (omega arith)
weighed_last (n ∷ ns) (x ∷ zs) z e =
    ap (λ (y : ℤ). pos (product ns) *ℤ x +ℤ y) (weighed_last ns zs z (omega arith)) ∙ sym (+ℤ_assoc (pos (product ns) *ℤ x) (weighed_sum ns zs) z)

-- the cell of a copy inside: the level of its base, that of its combination, and its swizzled m
pub cell_linear : (card : Card) (flat combination : ℕ) (cell : Cell) → space_fits card.lengths ≡ true → length card.lengths ≡ 8
    → spot card flat combination ≡ Inside cell
    → pos cell.0
    ≡ level_at card.lengths (base card flat) +ℤ level_at card.lengths (part card.replica combination)
    +ℤ swizzled_z card.swizzle (base card flat last_axis +ℤ part card.replica combination last_axis)
unfolding coordinates
cell_linear card flat combination cell fits eight e =
    let is = spot_numbered card flat combination cell e in
    let short = ((and-eq-true_iff (all (within 1 most_length) card.lengths) (leb (product card.lengths) most_cells)).0 fits).0 in
    let m = swizzled_z card.swizzle (sum card flat combination last_axis) in
    ap pos (sym is.number)
    ∙ row_major_weighed card.lengths (finished card flat combination) short is.within
    ∙ weighed_last card.lengths (map (sum card flat combination) seven) m eight
    ∙ ap (λ (z : ℤ). z +ℤ m) (weighed_sum_lem card.lengths (base card flat) (part card.replica combination) seven)

-- no level is far from zero
pub weighed_far : (ns : List ℕ) (zs : List ℤ) (most : ℕ) → all (within 1 most_length) ns ≡ true → product ns ≤ most_cells
    → ((i : ℕ) → nat_abs (get_or zs i (pos 0)) ≤ most) → nat_abs (weighed_sum ns zs) ≤ length zs * (most_cells * most)
weighed_far [] zs most a few small = omega arith
weighed_far (n ∷ ns) [] most a few small = omega arith
weighed_far (n ∷ ns) (z ∷ zs) most a few small =
    let both = (and-eq-true_iff (within 1 most_length n) (all (within 1 most_length) ns)).0 a in
    let some = (within_numbers 1 most_length n both.0).0 in
    let fewer : product ns ≤ most_cells = omega (arith, mul-le-mul_right (product ns) some) in
    let first : nat_abs z ≤ most = small 0 in
    omega (
      arith,
      sum_far (pos (product ns) *ℤ z) (weighed_sum ns zs),
      times_far (product ns) z,
      mul-le-mul fewer first,
      weighed_far ns zs most both.1 fewer (λ i. small (suc i)),
    )
