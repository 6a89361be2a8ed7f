-- A level from the last axis before m on: the weight is the product of the lengths passed, and the sum is the level of what was passed.
use mathlib.Core.Path.{◌≡◌, refl, sym, ap, ap₂, ◌∙◌}
use mathlib.Core.Bool.{true, and-eq-true_iff}
use mathlib.Core.List.{List, [], ◌∷◌}
use Prim.Native.Nat.{ℕ, zero, suc, ◌+◌, ◌*◌, ◌^◌, ◌≤◌, ◌<◌}
use native.Mathlib.Nat.{mul_comm, mul-one, mul-le-mul, mul-le-mul_right, le_refl, le_trans}
use native.Mathlib.Numerals.{add-one}
use native.Mathlib.Omega.{arith}
use borrow.Author.Tests.{leb-true}
use lib.Dec.{leb}
use lib.IntN.{ℤ, pos, nat_abs, ◌+ℤ◌, ◌*ℤ◌, +ℤ_comm}
use lib.ListN.{length, get_or, take, drop, length-take, drop_of_length-le}
use lib.Seq.{drop-cons, get_or-take}
use Rattle.laws.proofs.Signed.{sum_far, times_far}
use Rattle.card.specs.Lists.{all, within, product}
use Rattle.card.specs.Limits.{most_length, most_cells}
use Rattle.card.specs.Admission.{space_fits}
use Rattle.card.proofs.Lists.{all_at, within_numbers}
use Rattle.copies_sums.specs.Walks.{roomy, Sums, Steps}
use Rattle.rules_linear.specs.Levels.{weighed_sum, level}

-- what a step adds at most
abbrev reach : ℕ
reach = 2 ^ 56

-- a weighing that has passed the axes from k on
pub record Weighing (ns : List ℕ) (zs : List ℤ) (k weight : ℕ) (sum : ℤ) : Type 0 where
  pub weight_is : weight ≡ product (drop k ns)
  pub sum_is : sum ≡ weighed_sum (drop k ns) (drop k (take 7 zs))
  pub near : nat_abs sum + k * reach ≤ 7 * reach

weighed_nothing : (ns : List ℕ) → weighed_sum ns [] ≡ pos 0
weighed_nothing [] = refl
weighed_nothing (n ∷ ns) = refl

-- the later of some lengths have no larger product
product_later : (ns : List ℕ) (k : ℕ) → all (within 1 most_length) ns ≡ true → product (drop k ns) ≤ product ns
product_later ns zero a = le_refl (product ns)
product_later [] (suc k) a = le_refl 1
product_later (n ∷ ns) (suc k) a =
    let both = (and-eq-true_iff (within 1 most_length n) (all (within 1 most_length) ns)).0 a in
    let some = (within_numbers 1 most_length n both.0).0 in
    omega (arith, product_later ns k both.1, mul-le-mul_right (product ns) some)

-- each of them is short
pub length_short : (ns : List ℕ) → space_fits ns ≡ true → (k : ℕ) → k < length ns → get_or ns k 0 ≤ most_length
length_short ns fits k h =
    let b = (and-eq-true_iff (all (within 1 most_length) ns) (leb (product ns) most_cells)).0 fits in
    (within_numbers 1 most_length (get_or ns k 0) (all_at (within 1 most_length) ns k 0 b.0 h)).1

module _ (ns : List ℕ) (zs : List ℤ) (eight : length ns ≡ 8) (sums : Sums zs) where
  pub weighing_none : Weighing ns zs 7 (get_or ns 7 0) (pos 0)
  weighing_none = record {
    weight_is =
        sym (ap product (drop-cons ns 7 0 (omega arith))
        ∙ ap (λ (l : List ℕ). get_or ns 7 0 * product l) (drop_of_length-le ns {i = 8} (omega arith))
        ∙ mul-one (get_or ns 7 0));
    sum_is =
        sym (ap (weighed_sum (drop 7 ns)) (drop_of_length-le (take 7 zs) {i = 7} (omega (arith, length-take 7 zs))) ∙ weighed_nothing (drop 7 ns));
    near = omega arith;
  }

  pub weighing_all : {weight : ℕ} {sum : ℤ} → Weighing ns zs 0 weight sum → sum ≡ level ns zs
  weighing_all w = w.sum_is

  module _ (fits : space_fits ns ≡ true) (k weight : ℕ) (sum : ℤ) (h : k < 7) (w : Weighing ns zs (k + 1) weight sum) where
    both : (all (within 1 most_length) ns ≡ true) × (product ns ≤ most_cells)
    both =
        let b = (and-eq-true_iff (all (within 1 most_length) ns) (leb (product ns) most_cells)).0 fits in
        (b.0, leb-true (product ns) most_cells b.1)

    pub light : weight ≤ most_cells
    light = omega (arith, w.weight_is, product_later ns (k + 1) both.0, both.1)

    term : weight * nat_abs (get_or zs k (pos 0)) ≤ reach
    term = le_trans (mul-le-mul {n₂ = most_cells} {m₂ = roomy} light (sums.small k)) (omega arith)

    pub steps : Steps sum weight (get_or zs k (pos 0))
    steps = record { small_component = omega (arith, light); room = omega (arith, w.near, term) }

    pub weighing_more : {new : ℤ} → new ≡ sum +ℤ pos weight *ℤ get_or zs k (pos 0) → Weighing ns zs k (weight * get_or ns k 0) new
    weighing_more {new} e =
        let z = get_or zs k (pos 0) in
        let next = rw (add-one k) at w in
        record {
          weight_is =
              ap (λ (n : ℕ). n * get_or ns k 0) next.weight_is
              ∙ mul_comm (product (drop (suc k) ns)) (get_or ns k 0)
              ∙ sym (ap product (drop-cons ns k 0 (omega arith)));
          sum_is =
              e
              ∙ +ℤ_comm sum (pos weight *ℤ z)
              ∙ ap₂ (λ (n : ℕ) (s : ℤ). pos n *ℤ z +ℤ s) next.weight_is next.sum_is
              ∙ ap (λ (x : ℤ). pos (product (drop (suc k) ns)) *ℤ x +ℤ weighed_sum (drop (suc k) ns) (drop (suc k) (take 7 zs))) (sym (get_or-take 7 zs k (pos 0) h))
              ∙ sym (ap₂ weighed_sum (drop-cons ns k 0 (omega arith)) (drop-cons (take 7 zs) k (pos 0) (omega (arith, length-take 7 zs, sums.eight))));
          near = omega (arith, ap nat_abs e, sum_far sum (pos weight *ℤ z), times_far weight z, term, w.near);
        }
