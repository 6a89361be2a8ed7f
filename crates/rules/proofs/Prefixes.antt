-- Coordinates of the first n sizes and those after them, by induction on the sizes: a row-major number is its prefix's and what is left,
-- so coordinates inside begin with a prefix exactly when their number lies under it.
use mathlib.Core.Path.{◌≡◌, refl, ap, ◌∙◌}
use mathlib.Core.Bool.{true, false≢true, and-eq-true_iff}
use mathlib.Core.Logic.{◌↔◌}
use mathlib.Core.List.{List, [], ◌∷◌}
use Prim.Native.Nat.{ℕ, zero, suc, ◌+◌, ◌*◌, ◌≤◌, ◌<◌}
use native.Mathlib.Nat.{mul_assoc, one-mul, mul-le-mul_right, lt_of_mul-lt-mul_right}
use native.Mathlib.Omega.{arith}
use lib.Dec.{ltb}
use lib.ListN.{take, drop}
use Rattle.card.specs.Lists.{product}
use Rattle.rules.specs.RowMajor.{row_major, inside}
use Rattle.rules.proofs.RowMajor.{row_major_below, row_major_one_to_one}

pub product_parts : (n : ℕ) (ns : List ℕ) → product (take n ns) * product (drop n ns) ≡ product ns
product_parts zero ns = one-mul (product ns)
product_parts (suc n) [] = refl
product_parts (suc n) (m ∷ ns) =
    mul_assoc m (product (take n ns)) (product (drop n ns)) ∙ ap (λ (k : ℕ). m * k) (product_parts n ns)

-- coordinates inside are inside by parts
pub inside_first : (n : ℕ) (ns xs : List ℕ) → inside ns xs ≡ true → inside (take n ns) (take n xs) ≡ true
inside_first zero ns xs t = refl
inside_first (suc n) [] [] t = refl
inside_first (suc n) [] (x ∷ xs) t = absurd (false≢true t)
inside_first (suc n) (m ∷ ns) [] t = absurd (false≢true t)
inside_first (suc n) (m ∷ ns) (x ∷ xs) t =
    let both = (and-eq-true_iff (ltb x m) (inside ns xs)).0 t in rw both.0 (inside_first n ns xs both.1)

pub inside_after : (n : ℕ) (ns xs : List ℕ) → inside ns xs ≡ true → inside (drop n ns) (drop n xs) ≡ true
inside_after zero ns xs t = t
inside_after (suc n) [] [] t = refl
inside_after (suc n) [] (x ∷ xs) t = absurd (false≢true t)
inside_after (suc n) (m ∷ ns) [] t = absurd (false≢true t)
inside_after (suc n) (m ∷ ns) (x ∷ xs) t = inside_after n ns xs ((and-eq-true_iff (ltb x m) (inside ns xs)).0 t).1

none : (ns : List ℕ) → row_major ns [] ≡ 0
none [] = refl
none (m ∷ ns) = refl

-- coordinates that are left out count as 0: the number of a prefix among all sizes
pub row_major_prefix : (n : ℕ) (ns xs : List ℕ) → row_major ns (take n xs) ≡ row_major (take n ns) (take n xs) * product (drop n ns)
row_major_prefix zero ns xs = omega (arith, none ns)
row_major_prefix (suc n) [] xs = refl
row_major_prefix (suc n) (m ∷ ns) [] = omega arith
row_major_prefix (suc n) (m ∷ ns) (x ∷ xs) =
    omega (arith, row_major_prefix n ns xs, ap (λ (k : ℕ). x * k) (product_parts n ns))

-- a number is that of its prefix and what is left
pub row_major_parts : (n : ℕ) (ns xs : List ℕ) → row_major ns xs ≡ row_major ns (take n xs) + row_major (drop n ns) (drop n xs)
row_major_parts zero ns xs = omega (arith, none ns)
row_major_parts (suc n) [] xs = refl
row_major_parts (suc n) (m ∷ ns) [] = omega (arith, none (drop n ns))
row_major_parts (suc n) (m ∷ ns) (x ∷ xs) = omega (arith, row_major_parts n ns xs)

module _ (n : ℕ) (ns xs : List ℕ) (prefix : inside (take n ns) (take n xs) ≡ true) where
  -- the numbers under a prefix inside end within the product
  pub prefix_within : row_major ns (take n xs) + product (drop n ns) ≤ product ns
  prefix_within =
      omega
      (arith, row_major_prefix n ns xs, product_parts n ns, mul-le-mul_right (product (drop n ns)) (row_major_below (take n ns) (take n xs) prefix))

  -- coordinates inside begin with a prefix exactly when their number lies under it
  pub prefix_under : (at : List ℕ) → inside ns at ≡ true
      → (take n at ≡ take n xs)
      ↔ ((row_major ns (take n xs) ≤ row_major ns at) × (row_major ns at < row_major ns (take n xs) + product (drop n ns)))
  prefix_under at t =
      let rest : ℕ = product (drop n ns) in
      let below = row_major_below (drop n ns) (drop n at) (inside_after n ns at t) in
      let parts = row_major_parts n ns at in
      let whole = row_major_prefix n ns at in
      let start = row_major_prefix n ns xs in
      let first : ℕ = row_major (take n ns) (take n xs) in
      let asked : ℕ = row_major (take n ns) (take n at) in (
        λ q. let same = ap (row_major ns) q in (omega arith, omega arith),
        λ h.
            let least : first < asked + 1 = lt_of_mul-lt-mul_right rest (omega (arith, h.0)) in
            let most : asked < first + 1 = lt_of_mul-lt-mul_right rest (omega (arith, h.1)) in
            row_major_one_to_one (take n ns) (take n at) (take n xs) (inside_first n ns at t) prefix (omega arith),
      )
