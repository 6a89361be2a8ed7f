-- Two layouts that pass a test that computes are the same, part by part.
use mathlib.Core.Path.{◌≡◌, refl, sym, ap, ap₂}
use mathlib.Core.Bool.{Bool, true, false, ◌&&◌, false≢true}
use mathlib.Core.List.{List, [], ◌∷◌}
use Prim.Native.Nat.{ℕ}
use borrow.Author.Tests.{eqb-true}
use lib.Dec.{eqb}
use lib.IntN.{ℤ, pos, negsuc}
use Rattle.card.specs.declared.Iter.{Iter}
use Rattle.card.specs.declared.Iters.{Iters}
use Rattle.notation.specs.declared.Layout.{Layout}
use Rattle.notation.proofs.Lists.{both}

abbrev same_int : ℤ → ℤ → Bool
same_int (pos m) (pos n) = eqb m n
same_int (pos m) (negsuc n) = false
same_int (negsuc m) (pos n) = false
same_int (negsuc m) (negsuc n) = eqb m n

int_same : (x y : ℤ) → same_int x y ≡ true → x ≡ y
int_same (pos m) (pos n) e = ap pos (eqb-true m n e)
int_same (pos m) (negsuc n) e = absurd (false≢true e)
int_same (negsuc m) (pos n) e = absurd (false≢true e)
int_same (negsuc m) (negsuc n) e = ap negsuc (eqb-true m n e)

abbrev same_mark : Bool → Bool → Bool
same_mark true true = true
same_mark true false = false
same_mark false true = false
same_mark false false = true

mark_same : (x y : Bool) → same_mark x y ≡ true → x ≡ y
mark_same true true e = refl
mark_same true false e = absurd (false≢true e)
mark_same false true e = absurd (false≢true e)
mark_same false false e = refl

abbrev same_iter : Iter → Iter → Bool
same_iter x y = eqb x.extent y.extent && (same_int x.stride y.stride && eqb x.axis y.axis)

iter_same : (x y : Iter) → same_iter x y ≡ true → x ≡ y
iter_same x y e =
    let a = both (eqb x.extent y.extent) (same_int x.stride y.stride && eqb x.axis y.axis) e in
    let b = both (same_int x.stride y.stride) (eqb x.axis y.axis) a.1 in
    λ i. record {
      extent = eqb-true x.extent y.extent a.0 i;
      stride = int_same x.stride y.stride b.0 i;
      axis = eqb-true x.axis y.axis b.1 i;
    }

abbrev same_list_lem : {A : Type 0} → (A → A → Bool) → List A → List A → Bool
same_list_lem same [] [] = true
same_list_lem same [] (y ∷ ys) = false
same_list_lem same (x ∷ xs) [] = false
same_list_lem same (x ∷ xs) (y ∷ ys) = same x y && same_list_lem same xs ys

list_same : {A : Type 0} (same : A → A → Bool) → ((x y : A) → same x y ≡ true → x ≡ y) → (xs ys : List A) → same_list_lem same xs ys ≡ true → xs ≡ ys
list_same same sound [] [] e = refl
list_same same sound [] (y ∷ ys) e = absurd (false≢true e)
list_same same sound (x ∷ xs) [] e = absurd (false≢true e)
list_same same sound (x ∷ xs) (y ∷ ys) e =
    let t = both (same x y) (same_list_lem same xs ys) e in
    ap₂ (λ a l. a ∷ l) (sound x y t.0) (list_same same sound xs ys t.1)

abbrev same_iters : Iters → Iters → Bool
same_iters x y = eqb x.count y.count && same_list_lem same_iter x.at y.at

iters_same : (x y : Iters) → same_iters x y ≡ true → x ≡ y
iters_same x y e =
    let t = both (eqb x.count y.count) (same_list_lem same_iter x.at y.at) e in
    λ i. record { at = list_same same_iter iter_same x.at y.at t.1 i; count = eqb-true x.count y.count t.0 i }

abbrev pub same_layout : Layout → Layout → Bool
same_layout x y =
    (same_iters x.shard y.shard && same_iters x.replica y.replica)
    && (same_list_lem same_mark x.marks y.marks && same_list_lem same_int x.offset y.offset)

pub layout_same : (x y : Layout) → same_layout x y ≡ true → x ≡ y
layout_same x y e =
    let marks = same_list_lem same_mark x.marks y.marks in
    let offset = same_list_lem same_int x.offset y.offset in
    let shard = same_iters x.shard y.shard in
    let replica = same_iters x.replica y.replica in
    let t = both (shard && replica) (marks && offset) e in
    let a = both shard replica t.0 in
    let b = both marks offset t.1 in
    λ i. record {
      shard = iters_same x.shard y.shard a.0 i;
      marks = list_same same_mark mark_same x.marks y.marks b.0 i;
      replica = iters_same x.replica y.replica a.1 i;
      offset = list_same same_int int_same x.offset y.offset b.1 i;
    }
