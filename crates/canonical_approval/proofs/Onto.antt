-- Packed digits hit every address below the top; and a table without an empty entry is occupied throughout.
use mathlib.Core.Path.{◌≡◌, refl, sym, ap, ap₂, subst, ◌∙◌}
use mathlib.Core.Bool.{true, and-eq-true_iff}
use mathlib.Core.List.{List, [], ◌∷◌}
use Prim.Native.Nat.{ℕ, zero, suc, ◌+◌, ◌*◌, ◌/◌, ◌%◌, ◌≤◌, ◌<◌}
use native.Mathlib.Nat.{mod-lt, div-lt_iff_lt-mul, div-add-mod', le_of_eq}
use native.Mathlib.Omega.{arith}
use lib.Dec.{ltb}
use lib.ListN.{get_or, take}
use borrow.Author.Tests.{lt-ltb}
use Rattle.laws.proofs.Products.{factors}
use Rattle.rules.specs.RowMajor.{inside}
use Rattle.claims.specs.Claims.{taken, occupied}
use Rattle.canonical_approval.specs.Nested.{Digit, value, sizes, top, Nested, StridesPacked}

pub packed_nested : (ds : List Digit) → StridesPacked ds → Nested ds
packed_nested [] p = tt
packed_nested (d ∷ ds) p = (le_of_eq p.0, packed_nested ds p.1)

-- the components of an address, from the slowest digit on
abbrev pub decoded : List Digit → ℕ → List ℕ
decoded [] x = []
decoded (d ∷ ds) x = x / d.stride ∷ decoded ds (x % d.stride)

pub onto : (ds : List Digit) → StridesPacked ds → (x : ℕ) → x < top ds → (inside (sizes ds) (decoded ds x) ≡ true) × (value ds (decoded ds x) ≡ x)
onto [] p x h = (refl, omega arith)
onto (d ∷ ds) p x h =
    let s = d.stride in
    let some : 0 < s = (factors d.extent s (omega (arith, h))).1 in
    let rest = onto ds p.1 (x % s) (subst (λ (n : ℕ). x % s < n) (sym p.0) (mod-lt x some)) in
    let first : x / s < d.extent = (div-lt_iff_lt-mul some).1 h in (
      (and-eq-true_iff (ltb (x / s) d.extent) (inside (sizes ds) (decoded ds (x % s)))).1 (lt-ltb (x / s) d.extent first, rest.0),
      ap (λ (n : ℕ). x / s * s + n) rest.1 ∙ div-add-mod' x s,
    )

is_taken : (entry : ℕ) → (entry ≡ 0 → ⊥) → taken entry ≡ 1
is_taken zero h = absurd (h refl)
is_taken (suc n) h = refl

-- where none of the first n entries is empty, n are occupied
pub all_taken : (n : ℕ) (table : List ℕ) → ((i : ℕ) → i < n → get_or table i 0 ≡ 0 → ⊥) → occupied (take n table) ≡ n
all_taken zero table h = refl
all_taken (suc n) [] h = absurd (h 0 (omega arith) refl)
all_taken (suc n) (entry ∷ table) h =
    ap₂ (λ (a b : ℕ). a + b) (is_taken entry (h 0 (omega arith))) (all_taken n table (λ i below. h (suc i) (omega (arith, below)))) ∙ omega arith
