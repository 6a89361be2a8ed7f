-- An iter of extent 1 adds nothing, so it may be cut away; and the flat index of a place is the mixed radix of its digits, list behind list.
use mathlib.Core.Path.{◌≡◌, refl, sym, ap, ap₂, ◌∙◌}
use mathlib.Core.Bool.{Bool, true, false, cond}
use mathlib.Core.List.{List, [], ◌∷◌, ◌++◌, map}
use Prim.Native.Nat.{ℕ, ◌+◌, ◌*◌, ◌/◌, ◌%◌, ◌<◌}
use native.Mathlib.Nat.{suc_inj, mod-one, add-zero, zero-add, mul-one, one-mul, zero-mul, add_assoc, mul_assoc, add-mul}
use native.Mathlib.Omega.{arith}
use borrow.Author.Tests.{eqb-true}
use lib.Dec.{eqb}
use lib.IntN.{ℤ, pos, ◌+ℤ◌, ◌*ℤ◌, zero-*ℤ, +ℤ_idl}
use lib.ListN.{length, get_or}
use lib.Seq.{take_at}
use Rattle.card.specs.Lists.{product}
use Rattle.card.specs.Card.{extent_of, listed, counted}
use Rattle.card.specs.declared.Iter.{Iter}
use Rattle.rules.specs.RowMajor.{row_major, components}
use Rattle.rules.specs.Rules.{added}
use Rattle.mma_kinds.specs.Layouts.{cut}

pub listed_all : (l : List Iter) → listed (counted l) ≡ l
listed_all l = take_at l _ (length l) refl

-- extents of a list of iters
abbrev pub extents : List Iter → List ℕ
extents l = map extent_of l

-- what is cut away is one element
pub cut_product : (l : List Iter) → product (extents (cut l)) ≡ product (extents l)
cut_product [] = refl
cut_product (d ∷ l) = split (eqb d.extent 1) refl (cut_product l)
  where
    split : (b : Bool) → eqb d.extent 1 ≡ b → product (extents (cut l)) ≡ product (extents l)
        → product (extents (cond b (cut l) (d ∷ cut l))) ≡ d.extent * product (extents l)
    split true e after = after ∙ sym (one-mul (product (extents l))) ∙ ap (λ (n : ℕ). n * product (extents l)) (sym (eqb-true d.extent 1 e))
    split false e after = ap (λ (n : ℕ). d.extent * n) after

-- and adds nothing
pub cut_adds : (axis flat : ℕ) (l : List Iter) → added axis (cut l) (components (extents (cut l)) flat) ≡ added axis l (components (extents l) flat)
cut_adds axis flat [] = refl
cut_adds axis flat (d ∷ l) = split (eqb d.extent 1) refl (cut_adds axis flat l)
  where
    after : ℤ
    after = added axis l (components (extents l) flat)

    nothing : (b : Bool) (n : ℕ) → n ≡ 0 → after ≡ cond b (pos n *ℤ d.stride) (pos 0) +ℤ after
    nothing true n e = sym (ap (λ (k : ℕ). (pos k *ℤ d.stride) +ℤ after) e ∙ ap (λ (z : ℤ). z +ℤ after) (zero-*ℤ d.stride) ∙ +ℤ_idl after)
    nothing false n e = sym (+ℤ_idl after)

    split : (b : Bool) → eqb d.extent 1 ≡ b → added axis (cut l) (components (extents (cut l)) flat) ≡ after
        → added axis (cond b (cut l) (d ∷ cut l)) (components (extents (cond b (cut l) (d ∷ cut l))) flat) ≡ added axis (d ∷ l) (components (extents (d ∷ l)) flat)
    split true e same =
        same
        ∙ nothing (eqb d.axis axis) (flat / product (extents l) % d.extent)
        (ap (λ (n : ℕ). flat / product (extents l) % n) (eqb-true d.extent 1 e) ∙ mod-one (flat / product (extents l)))
    split false e same =
        ap₂ (λ (n : ℕ) (z : ℤ). cond (eqb d.axis axis) (pos (flat / n % d.extent) *ℤ d.stride) (pos 0) +ℤ z) (cut_product l) same

-- mixed radix of two lists, one behind the other
pub product_append : (ms ns : List ℕ) → product (ms ++ ns) ≡ product ms * product ns
product_append [] ns = sym (one-mul (product ns))
product_append (a ∷ ms) ns = ap (λ (n : ℕ). a * n) (product_append ms ns) ∙ sym (mul_assoc a (product ms) (product ns))

pub row_major_append : (ms ns xs ys : List ℕ) → length xs ≡ length ms
    → row_major (ms ++ ns) (xs ++ ys) ≡ row_major ms xs * product ns + row_major ns ys
row_major_append [] ns [] ys e = sym (ap (λ (n : ℕ). n + row_major ns ys) (zero-mul (product ns)) ∙ zero-add (row_major ns ys))
row_major_append [] ns (x ∷ xs) ys e = absurd (omega (arith, e))
row_major_append (a ∷ ms) ns [] ys e = absurd (omega (arith, e))
row_major_append (a ∷ ms) ns (x ∷ xs) ys e =
    let tail = row_major_append ms ns xs ys (suc_inj e) in
    ap₂ (λ (n m : ℕ). x * n + m) (product_append ms ns) tail
    ∙ sym (add_assoc (x * (product ms * product ns)) (row_major ms xs * product ns) (row_major ns ys))
    ∙ ap (λ (n : ℕ). n + row_major ms xs * product ns + row_major ns ys) (sym (mul_assoc x (product ms) (product ns)))
    ∙ ap (λ (n : ℕ). n + row_major ns ys) (sym (add-mul (x * product ms) (row_major ms xs) (product ns)))

-- so the flat index of a place is that of its digits
pub flat_of_digits : (x m : ℕ) (ms ns xs ys : List ℕ) → length xs ≡ length ms
    → row_major (x ∷ product ms ∷ product ns ∷ []) (m ∷ row_major ms xs ∷ row_major ns ys ∷ []) ≡ row_major (x ∷ ms ++ ns) (m ∷ xs ++ ys)
flat_of_digits x m ms ns xs ys e =
    let whole = product_append ms ns in
    let both = row_major_append ms ns xs ys e in
    let one : product ns * 1 ≡ product ns = mul-one (product ns) in
    let size : product ms * (product ns * 1) ≡ product (ms ++ ns) = ap (λ (n : ℕ). product ms * n) one ∙ sym whole in
    let rest : row_major ms xs * (product ns * 1) + (row_major ns ys * 1 + 0) ≡ row_major (ms ++ ns) (xs ++ ys) =
    ap₂ (λ (n k : ℕ). row_major ms xs * n + k) one (add-zero (row_major ns ys * 1) ∙ mul-one (row_major ns ys)) ∙ sym both in
    ap₂ (λ (n k : ℕ). m * n + k) size rest
