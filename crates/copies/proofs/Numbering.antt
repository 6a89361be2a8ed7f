-- Coordinates numbered from the first: the number so far times what is left, and the rest of the coordinates, give the number of all.
use mathlib.Core.Path.{◌≡◌, refl, ap, ◌∙◌}
use mathlib.Core.Bool.{Bool, cond, ◌&&◌}
use mathlib.Core.List.{List, [], ◌∷◌}
use Prim.Native.Nat.{ℕ, ◌+◌, ◌*◌, ◌≤◌, ◌<◌}
use native.Mathlib.Nat.{mul-le-mul_left, mul-le-mul_right, le-mul_of_pos_right}
use native.Mathlib.Omega.{arith}
use borrow.Author.Tests.{lt-ltb, le-ltb}
use Rattle.card.specs.Lists.{product}
use Rattle.rules.specs.RowMajor.{row_major, inside, first_past, position}
use Rattle.rules.specs.declared.Position.TheVariants.{At, Past}
use Rattle.laws.proofs.Products.{factors}

-- where numbering stands that has passed k coordinates and has these sizes and coordinates left
pub record Numbering (sizes xs left-sizes left_xs : List ℕ) (k number : ℕ) : Type 0 where
  pub same_inside : inside sizes xs ≡ inside left-sizes left_xs
  pub same_number : row_major sizes xs ≡ number * product left-sizes + row_major left-sizes left_xs
  pub same_past : first_past sizes xs ≡ k + first_past left-sizes left_xs
  pub room : (number + 1) * product left-sizes ≤ product sizes
  pub some : 0 < product left-sizes

pub numbering_none : (sizes xs : List ℕ) → 0 < product sizes → Numbering sizes xs sizes xs 0 0
numbering_none sizes xs h = record {
  same_inside = refl;
  same_number = omega arith;
  same_past = omega arith;
  room = omega arith;
  some = h;
}

module _ {sizes xs : List ℕ} (size : ℕ) (ns : List ℕ) (x : ℕ) (ys : List ℕ) (k number : ℕ) (w : Numbering sizes xs (size ∷ ns) (x ∷ ys) k number) where
  -- the next number has room
  pub numbering_room : x < size → number * size + x < product sizes
  numbering_room h =
      let some : 0 < product ns = (factors size (product ns) w.some).1 in
      omega (arith, w.room, mul-le-mul_left (number + 1) (le-mul_of_pos_right size some))

  pub numbering_more : x < size → Numbering sizes xs ns ys (k + 1) (number * size + x)
  numbering_more h =
      let flag = lt-ltb x size h in
      record {
        same_inside = w.same_inside ∙ ap (λ (b : Bool). b && inside ns ys) flag;
        same_number = omega (arith, w.same_number);
        same_past = w.same_past ∙ ap (λ (b : Bool). k + cond b (first_past ns ys + 1) 0) flag ∙ omega arith;
        room = omega (arith, w.room, mul-le-mul_right (product ns) h);
        some = (factors size (product ns) w.some).1;
      }

  -- past its size: nothing before it was
  pub numbering_past : size ≤ x → position sizes xs ≡ Past k
  unfolding position
  numbering_past h =
      let flag = le-ltb x size h in
      rw (w.same_inside, w.same_past, flag) (ap Past (omega arith))

pub numbering_all : {sizes xs : List ℕ} (k number : ℕ) → Numbering sizes xs [] [] k number → position sizes xs ≡ At number
unfolding position
numbering_all k number w = rw (w.same_inside, w.same_number) (ap At (omega arith))
