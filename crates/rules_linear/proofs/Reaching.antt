-- The first index near enough to a far end: an iter that stays back as far as what is spare allows has the smallest component that any near enough index
-- can have, and leaves the later iters all that is spare.
use mathlib.Core.Path.{◌≡◌, refl, sym, ap}
use mathlib.Core.Bool.{Bool, true, false, cond, not, true≢false}
use mathlib.Core.List.{List, [], ◌∷◌, map}
use Prim.Native.Nat.{ℕ, zero, suc, ◌*◌, ◌-◌, ◌/◌, ◌≤◌, ◌<◌, min}
use native.Mathlib.Nat.{mul-le-mul_right, div-mul-le_self, lt-div-mul-add, mul-zero}
use native.Mathlib.Decide.{dec_lt, dec_le}
use native.Mathlib.Omega.{arith}
use borrow.Author.Tests.{lt-ltb, ne_eqb}
use lib.Dec.{eqb}
use lib.IntN.{ℤ, pos, negsuc}
use Rattle.laws.proofs.Parts.{up, down}
use Rattle.laws.proofs.Products.{factors}
use Rattle.card.specs.Lists.{product}
use Rattle.card.specs.Card.{listed, extent_of}
use Rattle.card.specs.declared.Iter.{Iter}
use Rattle.card.specs.declared.Iters.{Iters}
use Rattle.rules.specs.RowMajor.{row_major, components, inside}
use Rattle.rules.proofs.RowMajor.{inside_parts, row_major_below, components_inside, components_give_back}
use Rattle.rules.proofs.Reuse.{components_back}
use Rattle.rules_linear.specs.Reaching.{ahead, missing, steps_back, first_within, first_index}

-- how far back an iter may stay
pub back_all : (extent spare : ℕ) → steps_back extent 0 spare ≡ extent - 1
back_all extent spare = refl

pub back_some : (extent weight spare : ℕ) → 0 < weight → steps_back extent weight spare ≡ min (extent - 1) (spare / weight)
back_some extent weight spare h = rw (ne_eqb weight 0 (λ e. absurd (omega arith)))

pub back_most : (extent weight spare : ℕ) → steps_back extent weight spare ≤ extent - 1
back_most extent zero spare = omega arith
back_most extent (suc w) spare = omega (arith, back_some extent (suc w) spare (omega arith))

pub back_spare : (extent weight spare : ℕ) → steps_back extent weight spare * weight ≤ spare
back_spare extent zero spare = omega (arith, mul-zero (extent - 1))
back_spare extent (suc w) spare =
    let few : steps_back extent (suc w) spare ≤ spare / suc w = omega (arith, back_some extent (suc w) spare (omega arith)) in
    omega (arith, mul-le-mul_right (suc w) few, div-mul-le_self spare (suc w))

-- and no less
pub back_least : (extent weight spare b : ℕ) → b ≤ extent - 1 → b * weight ≤ spare → b ≤ steps_back extent weight spare
back_least extent zero spare b h k = h
back_least extent (suc w) spare b h k =
    elim (dec_le b (spare / suc w)) [
      | yes few ↦ omega (arith, back_some extent (suc w) spare (omega arith))
      | no many ↦ absurd (omega (arith, lt-div-mul-add {a = spare} {b = suc w} (omega arith), mul-le-mul_right {m = suc (spare / suc w)} {n = b} (suc w) (omega arith)))
    ]

-- an iter that moves an axis one way does not move it the other
pub one_way : (upwards : Bool) (axis : ℕ) (iter : Iter) → 0 < ahead upwards axis iter → ahead (not upwards) axis iter ≡ 0
one_way upwards axis iter = by (eqb iter.axis axis) upwards iter.stride
  where
    by : (b u : Bool) (z : ℤ) → 0 < cond b (cond u (up z) (down z)) 0 → cond b (cond (not u) (up z) (down z)) 0 ≡ 0
    by true true (pos n) h = refl
    by true true (negsuc n) h = absurd (omega arith)
    by true false (pos n) h = absurd (omega arith)
    by true false (negsuc n) h = refl
    by false u z h = refl

-- where the iter goes back, the other way costs nothing, and where it costs something, the iter goes all the way back
other_none : (extent w o spare : ℕ) → (0 < w → o ≡ 0) → (extent - 1 - steps_back extent w spare) * o ≡ 0
other_none extent zero o spare h = let none : extent - 1 - (extent - 1) ≡ 0 = omega arith in omega (arith, ap (λ (n : ℕ). n * o) none)
other_none extent (suc w) o spare h = omega (arith, ap (λ (n : ℕ). (extent - 1 - steps_back extent (suc w) spare) * n) (h (omega arith)), mul-zero (extent - 1 - steps_back extent (suc w) spare))

module _ (upwards : Bool) (axis : ℕ) where
  pub first_inside : (l : List Iter) (spare : ℕ) → 0 < product (map extent_of l) → inside (map extent_of l) (first_within upwards axis spare l) ≡ true
  first_inside [] spare s = refl
  first_inside (iter ∷ l) spare s =
      let p = factors iter.extent (product (map extent_of l)) s in
      let w = ahead upwards axis iter in
      let b = steps_back iter.extent w spare in
      rw (lt-ltb (iter.extent - 1 - b) iter.extent (omega arith), first_inside l (spare - b * w) p.1)

  -- it is near enough
  pub first_near : (l : List Iter) (spare : ℕ) → missing upwards axis l (first_within upwards axis spare l) ≤ spare
  first_near [] spare = omega arith
  first_near (iter ∷ l) spare =
      let w = ahead upwards axis iter in
      let b = steps_back iter.extent w spare in
      let most = back_most iter.extent w spare in
      let same : iter.extent - 1 - (iter.extent - 1 - b) ≡ b = omega arith in
      omega (arith, ap (λ (n : ℕ). n * w) same, back_spare iter.extent w spare, other_none iter.extent w (ahead (not upwards) axis iter) spare (one_way upwards axis iter), first_near l (spare - b * w))

  -- and none before it is
  pub first_least : (l : List Iter) (spare : ℕ) (cs : List ℕ) → inside (map extent_of l) cs ≡ true → missing upwards axis l cs ≤ spare
      → row_major (map extent_of l) (first_within upwards axis spare l) ≤ row_major (map extent_of l) cs
  first_least [] spare cs i h = omega arith
  first_least (iter ∷ l) spare [] i h = absurd (true≢false (sym i))
  first_least (iter ∷ l) spare (c ∷ cs) i h =
      let both = inside_parts iter.extent (map extent_of l) c cs i in
      let n = product (map extent_of l) in
      let some : 0 < n = omega (arith, row_major_below (map extent_of l) cs both.1) in
      let w = ahead upwards axis iter in
      let b = steps_back iter.extent w spare in
      let c₀ = iter.extent - 1 - b in
      let back = back_least iter.extent w spare (iter.extent - 1 - c) (omega arith) (omega arith) in
      let below = row_major_below (map extent_of l) (first_within upwards axis (spare - b * w) l) (first_inside l (spare - b * w) some) in
      elim (dec_lt c₀ c) [
        | yes k ↦ omega (arith, mul-le-mul_right {m = suc c₀} {n = c} n k)
        | no k ↦
            let same : c ≡ c₀ = omega (arith, both.0) in
            let steps : iter.extent - 1 - c ≡ b = omega (arith, back_most iter.extent w spare) in
            omega (arith, ap (λ (m : ℕ). m * n) same, ap (λ (m : ℕ). m * w) steps, first_least l (spare - b * w) cs both.1 (omega (arith, ap (λ (m : ℕ). m * w) steps)))
      ]

-- the same of the index
module _ (upwards : Bool) (axis spare : ℕ) (iters : Iters) (some : 0 < product (map extent_of (listed iters))) where
  abbrev extents : List ℕ
  extents = map extent_of (listed iters)

  -- how far from the far end an index leaves an axis
  abbrev pub missing_at : ℕ → ℕ
  missing_at index = missing upwards axis (listed iters) (components extents index)

  pub index_below : first_index upwards axis spare iters < product extents
  index_below = row_major_below extents (first_within upwards axis spare (listed iters)) (first_inside upwards axis (listed iters) spare some)

  pub index_near : missing_at (first_index upwards axis spare iters) ≤ spare
  index_near =
      rw (components_back extents (first_within upwards axis spare (listed iters)) (first_inside upwards axis (listed iters) spare some))
      (first_near upwards axis (listed iters) spare)

  pub index_least : (index : ℕ) → index < product extents → missing_at index ≤ spare → first_index upwards axis spare iters ≤ index
  index_least index h near =
      let least = first_least upwards axis (listed iters) spare (components extents index) (components_inside extents index some) near in
      omega (arith, components_give_back extents index h)
