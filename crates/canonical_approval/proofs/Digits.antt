-- Addresses of nested digits: below the top, and each of one list of components alone.
use mathlib.Core.Path.{◌≡◌, refl, sym, ap, ap₂, ◌∙◌}
use mathlib.Core.Bool.{true, false≢true}
use mathlib.Core.List.{List, [], ◌∷◌}
use Prim.Native.Nat.{ℕ, ◌+◌, ◌*◌, ◌/◌, ◌%◌, ◌≤◌, ◌<◌}
use native.Mathlib.Nat.{lt_of_lt_of_le}
use native.Mathlib.Omega.{arith}
use lib.Arith.{digits_lt, digits_div, digits_mod}
use Rattle.rules.specs.RowMajor.{inside}
use Rattle.rules.proofs.RowMajor.{inside_parts}
use Rattle.canonical_approval.specs.Nested.{Digit, value, sizes, top, Nested}

pub below_top : (ds : List Digit) (cs : List ℕ) → Nested ds → inside (sizes ds) cs ≡ true → value ds cs < top ds
below_top [] [] n t = omega arith
below_top [] (c ∷ cs) n t = absurd (false≢true t)
below_top (d ∷ ds) [] n t = absurd (false≢true t)
below_top (d ∷ ds) (c ∷ cs) n t =
    let p = inside_parts d.extent (sizes ds) c cs t in
    digits_lt p.0 (lt_of_lt_of_le (below_top ds cs n.1 p.1) n.0)

pub value_once : (ds : List Digit) (xs ys : List ℕ) → Nested ds → inside (sizes ds) xs ≡ true → inside (sizes ds) ys ≡ true
    → value ds xs ≡ value ds ys → xs ≡ ys
value_once [] [] [] n s t e = refl
value_once [] [] (y ∷ ys) n s t e = absurd (false≢true t)
value_once [] (x ∷ xs) ys n s t e = absurd (false≢true s)
value_once (d ∷ ds) [] ys n s t e = absurd (false≢true s)
value_once (d ∷ ds) (x ∷ xs) [] n s t e = absurd (false≢true t)
value_once (d ∷ ds) (x ∷ xs) (y ∷ ys) n s t e =
    let p = inside_parts d.extent (sizes ds) x xs s in
    let q = inside_parts d.extent (sizes ds) y ys t in
    let a = lt_of_lt_of_le (below_top ds xs n.1 p.1) n.0 in
    let b = lt_of_lt_of_le (below_top ds ys n.1 q.1) n.0 in
    ap₂ ◌∷◌
    (sym (digits_div x a) ∙ ap (λ (m : ℕ). m / d.stride) e ∙ digits_div y b)
    (value_once ds xs ys n.1 p.1 q.1 (sym (digits_mod x a) ∙ ap (λ (m : ℕ). m % d.stride) e ∙ digits_mod y b))
