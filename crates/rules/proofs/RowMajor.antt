-- Row-major numbers and components undo each other, below the product of the sizes: size by size, a digit and what is left below it.
use mathlib.Core.Path.{◌≡◌, refl, sym, ap, ap₂, ◌∙◌}
use mathlib.Core.Bool.{Bool, true, false, cond, ◌&&◌, false≢true, and-eq-true_iff}
use mathlib.Core.List.{List, [], ◌∷◌}
use Prim.Native.Nat.{ℕ, zero, suc, ◌+◌, ◌*◌, ◌/◌, ◌%◌, ◌≤◌, ◌<◌, suc-le-suc}
use native.Mathlib.Nat.{mod-lt, mod-eq_of_lt, mod-one, not-suc-le-zero, le_of_suc-le-suc, suc_inj}
use native.Mathlib.Numerals.{add-one}
use native.Mathlib.Omega.{arith}
use lib.Arith.{digits_lt, digits_div, digits_mod, mod-mul}
use lib.Dec.{ltb}
use lib.ListN.{length, get_or}
use borrow.Author.Tests.{ltb-true, ltb-false, lt-ltb}
use Rattle.laws.proofs.Products.{factors}
use Rattle.card.specs.Lists.{product}
use Rattle.rules.specs.RowMajor.{row_major, components, inside, first_past}

-- the first coordinate below its size, and the rest below theirs
pub inside_parts : (n : ℕ) (ns : List ℕ) (x : ℕ) (xs : List ℕ) → inside (n ∷ ns) (x ∷ xs) ≡ true → (x < n) × (inside ns xs ≡ true)
inside_parts n ns x xs t =
    let both = (and-eq-true_iff (ltb x n) (inside ns xs)).0 t in (ltb-true x n both.0, both.1)

-- the number of coordinates inside is below the product
pub row_major_below : (ns xs : List ℕ) → inside ns xs ≡ true → row_major ns xs < product ns
row_major_below [] [] t = omega arith
row_major_below [] (x ∷ xs) t = absurd (false≢true t)
row_major_below (n ∷ ns) [] t = absurd (false≢true t)
row_major_below (n ∷ ns) (x ∷ xs) t =
    let p = inside_parts n ns x xs t in digits_lt p.0 (row_major_below ns xs p.1)

-- coordinates inside that have one number are the same
pub row_major_one_to_one : (ns xs ys : List ℕ) → inside ns xs ≡ true → inside ns ys ≡ true → row_major ns xs ≡ row_major ns ys → xs ≡ ys
row_major_one_to_one [] [] [] s t e = refl
row_major_one_to_one [] [] (y ∷ ys) s t e = absurd (false≢true t)
row_major_one_to_one [] (x ∷ xs) ys s t e = absurd (false≢true s)
row_major_one_to_one (n ∷ ns) [] ys s t e = absurd (false≢true s)
row_major_one_to_one (n ∷ ns) (x ∷ xs) [] s t e = absurd (false≢true t)
row_major_one_to_one (n ∷ ns) (x ∷ xs) (y ∷ ys) s t e =
    let p = inside_parts n ns x xs s in
    let q = inside_parts n ns y ys t in
    let a = row_major_below ns xs p.1 in
    let b = row_major_below ns ys q.1 in
    ap₂ ◌∷◌
    (sym (digits_div x a) ∙ ap (λ (m : ℕ). m / product ns) e ∙ digits_div y b)
    (row_major_one_to_one ns xs ys p.1 q.1
    (sym (digits_mod x a) ∙ ap (λ (m : ℕ). m % product ns) e ∙ digits_mod y b))

-- the components of any number have what is left of it below the product
pub row_major_components : (ns : List ℕ) (m : ℕ) → 0 < product ns → row_major ns (components ns m) ≡ m % product ns
row_major_components [] m h = sym (mod-one m)
row_major_components (n ∷ ns) m h =
    let p = factors n (product ns) h in
    ap (λ (r : ℕ). m / product ns % n * product ns + r) (row_major_components ns m p.1) ∙ sym (mod-mul m p.0 p.1)

pub components_inside : (ns : List ℕ) (m : ℕ) → 0 < product ns → inside ns (components ns m) ≡ true
components_inside [] m h = refl
components_inside (n ∷ ns) m h =
    let p = factors n (product ns) h in
    (and-eq-true_iff (ltb (m / product ns % n) n) (inside ns (components ns m))).1
    (lt-ltb (m / product ns % n) n (mod-lt (m / product ns) p.0), components_inside ns m p.1)

-- the components of a number below the product give it back
pub components_give_back : (ns : List ℕ) (m : ℕ) → m < product ns → row_major ns (components ns m) ≡ m
components_give_back ns m h = row_major_components ns m (omega arith) ∙ mod-eq_of_lt h

-- the smallest place at which a coordinate is not below its size
pub record FirstPast (sizes xs : List ℕ) (k : ℕ) : Type 0 where
  pub a_place : k < length sizes
  pub past : get_or sizes k 0 ≤ get_or xs k 0
  pub before_it : (j : ℕ) → j < k → get_or xs j 0 < get_or sizes j 0

later_past : (n : ℕ) (ns : List ℕ) (x : ℕ) (xs : List ℕ) (k : ℕ) → x < n → FirstPast ns xs k → FirstPast (n ∷ ns) (x ∷ xs) (suc k)
later_past n ns x xs k h f = record { a_place = suc-le-suc f.a_place; past = f.past; before_it = before }
  where
    before : (j : ℕ) → j < suc k → get_or (x ∷ xs) j 0 < get_or (n ∷ ns) j 0
    before zero below = h
    before (suc j) below = f.before_it j (le_of_suc-le-suc below)

-- coordinates that are not inside, as many as sizes, are first past a size where the definition says
pub first_past_lem : (sizes xs : List ℕ) → length xs ≡ length sizes → inside sizes xs ≡ false → FirstPast sizes xs (first_past sizes xs)
first_past_lem [] [] e t = absurd (false≢true (sym t))
first_past_lem [] (x ∷ xs) e t = absurd (omega arith)
first_past_lem (n ∷ ns) [] e t = absurd (omega arith)
first_past_lem (n ∷ ns) (x ∷ xs) e t = step (ltb x n) refl t (λ u. first_past_lem ns xs (suc_inj e) u)
  where
    step : (b : Bool) → ltb x n ≡ b → (b && inside ns xs) ≡ false → (inside ns xs ≡ false → FirstPast ns xs (first_past ns xs))
        → FirstPast (n ∷ ns) (x ∷ xs) (cond b (first_past ns xs + 1) 0)
    step true f u rest = rw (add-one (first_past ns xs)) (later_past n ns x xs (first_past ns xs) (ltb-true x n f) (rest u))
    step false f u rest = record { a_place = omega arith; past = ltb-false x n f; before_it = λ j below. absurd (not-suc-le-zero below) }
