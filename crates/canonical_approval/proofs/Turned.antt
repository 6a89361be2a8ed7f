-- The digits of a canonical layout, from the order of its shard to the order of its strides.
use mathlib.Core.Path.{◌≡◌, refl, sym, ap, ◌∙◌}
use mathlib.Core.Bool.{true, and-eq-true_iff}
use mathlib.Core.List.{List, [], ◌∷◌}
use Prim.Native.Nat.{ℕ, ◌+◌, ◌*◌, ◌<◌}
use native.Mathlib.Omega.{arith}
use lib.Dec.{ltb}
use lib.ListN.{get_or}
use borrow.Author.Tests.{lt-ltb}
use Rattle.rules.specs.RowMajor.{inside}
use Rattle.rules.proofs.RowMajor.{inside_parts}

with_one : (n x : ℕ) (ns xs : List ℕ) → x < n → inside ns xs ≡ true → inside (n ∷ ns) (x ∷ xs) ≡ true
with_one n x ns xs h t = (and-eq-true_iff (ltb x n) (inside ns xs)).1 (lt-ltb x n h, t)

-- four components, each below its size
pub four_inside : (n₁ n₂ n₃ n₄ c₁ c₂ c₃ c₄ : ℕ) → c₁ < n₁ → c₂ < n₂ → c₃ < n₃ → c₄ < n₄ → inside (n₁ ∷ n₂ ∷ n₃ ∷ n₄ ∷ []) (c₁ ∷ c₂ ∷ c₃ ∷ c₄ ∷ []) ≡ true
four_inside n₁ n₂ n₃ n₄ c₁ c₂ c₃ c₄ h₁ h₂ h₃ h₄ =
    with_one n₁ c₁ (n₂ ∷ n₃ ∷ n₄ ∷ []) (c₂ ∷ c₃ ∷ c₄ ∷ []) h₁
    (with_one n₂ c₂ (n₃ ∷ n₄ ∷ []) (c₃ ∷ c₄ ∷ []) h₂ (with_one n₃ c₃ (n₄ ∷ []) (c₄ ∷ []) h₃ (with_one n₄ c₄ [] [] h₄ refl)))

-- four digits, the third slowest
abbrev pub third_first : List ℕ → List ℕ
third_first cs = get_or cs 2 0 ∷ get_or cs 0 0 ∷ get_or cs 1 0 ∷ get_or cs 3 0 ∷ []

abbrev pub third_back : List ℕ → List ℕ
third_back cs = get_or cs 1 0 ∷ get_or cs 2 0 ∷ get_or cs 0 0 ∷ get_or cs 3 0 ∷ []

module _ (n₁ n₂ n₃ n₄ c₁ c₂ c₃ c₄ : ℕ) where
  pub third_inside : inside (n₁ ∷ n₂ ∷ n₃ ∷ n₄ ∷ []) (c₁ ∷ c₂ ∷ c₃ ∷ c₄ ∷ []) ≡ true
      → inside (n₃ ∷ n₁ ∷ n₂ ∷ n₄ ∷ []) (c₃ ∷ c₁ ∷ c₂ ∷ c₄ ∷ []) ≡ true
  third_inside t =
      let p = inside_parts n₁ (n₂ ∷ n₃ ∷ n₄ ∷ []) c₁ (c₂ ∷ c₃ ∷ c₄ ∷ []) t in
      let q = inside_parts n₂ (n₃ ∷ n₄ ∷ []) c₂ (c₃ ∷ c₄ ∷ []) p.1 in
      let r = inside_parts n₃ (n₄ ∷ []) c₃ (c₄ ∷ []) q.1 in
      with_one n₃ c₃ (n₁ ∷ n₂ ∷ n₄ ∷ []) (c₁ ∷ c₂ ∷ c₄ ∷ []) r.0
      (with_one n₁ c₁ (n₂ ∷ n₄ ∷ []) (c₂ ∷ c₄ ∷ []) p.0 (with_one n₂ c₂ (n₄ ∷ []) (c₄ ∷ []) q.0 r.1))

-- five digits, the fourth slowest, then the first, the last, the second and the third
abbrev pub fourth_first : List ℕ → List ℕ
fourth_first cs = get_or cs 3 0 ∷ get_or cs 0 0 ∷ get_or cs 4 0 ∷ get_or cs 1 0 ∷ get_or cs 2 0 ∷ []

abbrev pub fourth_back : List ℕ → List ℕ
fourth_back cs = get_or cs 1 0 ∷ get_or cs 3 0 ∷ get_or cs 4 0 ∷ get_or cs 0 0 ∷ get_or cs 2 0 ∷ []

module _ (n₁ n₂ n₃ n₄ n₅ c₁ c₂ c₃ c₄ c₅ : ℕ) where
  pub fourth_inside : inside (n₁ ∷ n₂ ∷ n₃ ∷ n₄ ∷ n₅ ∷ []) (c₁ ∷ c₂ ∷ c₃ ∷ c₄ ∷ c₅ ∷ []) ≡ true
      → inside (n₄ ∷ n₁ ∷ n₅ ∷ n₂ ∷ n₃ ∷ []) (c₄ ∷ c₁ ∷ c₅ ∷ c₂ ∷ c₃ ∷ []) ≡ true
  fourth_inside t =
      let p = inside_parts n₁ (n₂ ∷ n₃ ∷ n₄ ∷ n₅ ∷ []) c₁ (c₂ ∷ c₃ ∷ c₄ ∷ c₅ ∷ []) t in
      let q = inside_parts n₂ (n₃ ∷ n₄ ∷ n₅ ∷ []) c₂ (c₃ ∷ c₄ ∷ c₅ ∷ []) p.1 in
      let r = inside_parts n₃ (n₄ ∷ n₅ ∷ []) c₃ (c₄ ∷ c₅ ∷ []) q.1 in
      let s = inside_parts n₄ (n₅ ∷ []) c₄ (c₅ ∷ []) r.1 in
      let u = inside_parts n₅ [] c₅ [] s.1 in
      with_one n₄ c₄ (n₁ ∷ n₅ ∷ n₂ ∷ n₃ ∷ []) (c₁ ∷ c₅ ∷ c₂ ∷ c₃ ∷ []) s.0
      (with_one n₁ c₁ (n₅ ∷ n₂ ∷ n₃ ∷ []) (c₅ ∷ c₂ ∷ c₃ ∷ []) p.0
      (with_one n₅ c₅ (n₂ ∷ n₃ ∷ []) (c₂ ∷ c₃ ∷ []) u.0
      (with_one n₂ c₂ (n₃ ∷ []) (c₃ ∷ []) q.0 (with_one n₃ c₃ [] [] r.0 u.1))))

  pub fourth_back_inside : inside (n₄ ∷ n₁ ∷ n₅ ∷ n₂ ∷ n₃ ∷ []) (c₄ ∷ c₁ ∷ c₅ ∷ c₂ ∷ c₃ ∷ []) ≡ true
      → inside (n₁ ∷ n₂ ∷ n₃ ∷ n₄ ∷ n₅ ∷ []) (c₁ ∷ c₂ ∷ c₃ ∷ c₄ ∷ c₅ ∷ []) ≡ true
  fourth_back_inside t =
      let p = inside_parts n₄ (n₁ ∷ n₅ ∷ n₂ ∷ n₃ ∷ []) c₄ (c₁ ∷ c₅ ∷ c₂ ∷ c₃ ∷ []) t in
      let q = inside_parts n₁ (n₅ ∷ n₂ ∷ n₃ ∷ []) c₁ (c₅ ∷ c₂ ∷ c₃ ∷ []) p.1 in
      let r = inside_parts n₅ (n₂ ∷ n₃ ∷ []) c₅ (c₂ ∷ c₃ ∷ []) q.1 in
      let s = inside_parts n₂ (n₃ ∷ []) c₂ (c₃ ∷ []) r.1 in
      let u = inside_parts n₃ [] c₃ [] s.1 in
      with_one n₁ c₁ (n₂ ∷ n₃ ∷ n₄ ∷ n₅ ∷ []) (c₂ ∷ c₃ ∷ c₄ ∷ c₅ ∷ []) q.0
      (with_one n₂ c₂ (n₃ ∷ n₄ ∷ n₅ ∷ []) (c₃ ∷ c₄ ∷ c₅ ∷ []) s.0
      (with_one n₃ c₃ (n₄ ∷ n₅ ∷ []) (c₄ ∷ c₅ ∷ []) u.0
      (with_one n₄ c₄ (n₅ ∷ []) (c₅ ∷ []) p.0 (with_one n₅ c₅ [] [] r.0 refl))))

-- the sum in either order
pub four_sum : (a b c d : ℕ) → a + (b + (c + (d + 0))) ≡ c + (a + (b + (d + 0)))
four_sum a b c d = omega arith

pub five_sum : (a b c d e : ℕ) → a + (b + (c + (d + (e + 0)))) ≡ d + (a + (e + (b + (c + 0))))
five_sum a b c d e = omega arith

-- the two slowest exchanged
pub swap_inside : (m n x y : ℕ) (ns xs : List ℕ) → inside (m ∷ n ∷ ns) (x ∷ y ∷ xs) ≡ true → inside (n ∷ m ∷ ns) (y ∷ x ∷ xs) ≡ true
swap_inside m n x y ns xs t =
    let p = inside_parts m (n ∷ ns) x (y ∷ xs) t in
    let q = inside_parts n ns y xs p.1 in
    with_one n y (m ∷ ns) (x ∷ xs) q.0 (with_one m x ns xs p.0 q.1)

abbrev pub third_second : List ℕ → List ℕ
third_second cs = get_or cs 0 0 ∷ get_or cs 2 0 ∷ get_or cs 1 0 ∷ get_or cs 3 0 ∷ []

abbrev pub fourth_second : List ℕ → List ℕ
fourth_second cs = get_or cs 0 0 ∷ get_or cs 3 0 ∷ get_or cs 4 0 ∷ get_or cs 1 0 ∷ get_or cs 2 0 ∷ []

pub four_swapped : (a b c d : ℕ) → a + (b + (c + (d + 0))) ≡ a + (c + (b + (d + 0)))
four_swapped a b c d = omega arith

pub five_swapped : (a b c d e : ℕ) → a + (b + (c + (d + (e + 0)))) ≡ a + (d + (e + (b + (c + 0))))
five_swapped a b c d e = omega arith
