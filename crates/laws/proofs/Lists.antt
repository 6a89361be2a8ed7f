-- Lists by parts: one more element of a part, `map` of a part, and the part that is the whole; how long a list is by its images.
use mathlib.Core.Path.{◌≡◌, refl, sym, ap, ◌∙◌}
use mathlib.Core.List.{List, [], ◌∷◌, map}
use Prim.Native.Nat.{ℕ, zero, suc, ◌+◌, ◌≤◌, ◌<◌, min}
use native.Mathlib.Nat.{le_of_eq, min-eq_left}
use native.Mathlib.Decide.{dec_le}
use native.Mathlib.Omega.{arith}
use native.Mathlib.Numerals.{add-one}
use lib.ListN.{length, get_or, set, take, length-map}
use lib.Seq.{slice, slice-cons, take_all}

-- the elements from k to n, the one at k apart
pub slice_next : {A : Type 0} (l : List A) (k n : ℕ) (other : A) → k < n → n ≤ length l → slice k n l ≡ get_or l k other ∷ slice (k + 1) n l
slice_next l k n other h fits = slice-cons k n l other h fits ∙ rw add-one

pub map_take : {A : Type 0} {B : Type 0} (f : A → B) (n : ℕ) (l : List A) → map f (take n l) ≡ take n (map f l)
map_take f zero l = refl
map_take f (suc n) [] = refl
map_take f (suc n) (x ∷ l) = ap (λ t. f x ∷ t) (map_take f n l)

-- as many as there are is all
pub take_whole : {A : Type 0} (n : ℕ) (l : List A) → length l ≡ n → take n l ≡ l
take_whole n l e = take_all n l (le_of_eq e)

-- and more than there are no more
pub take_min : {A : Type 0} (k n : ℕ) (l : List A) → length l ≡ n → take (min k n) l ≡ take k l
take_min k n l e =
    elim (dec_le k n) [
      | yes few ↦ ap (λ (m : ℕ). take m l) (min-eq_left few)
      | no many ↦ take_all (min k n) l (omega (arith, e)) ∙ sym (take_all k l (omega (arith, e)))
    ]

-- of an array of structs the number of elements is told of its images
pub length_of : (A : Type 0) (B : Type 0) (f : A → B) (l : List A) (n : ℕ) → length (map f l) ≡ n → length l ≡ n
length_of A B f l n e = sym (length-map l f) ∙ e

pub map_set : {A B : Type 0} (f : A → B) (l : List A) (i : ℕ) (x : A) → set (map f l) i (f x) ≡ map f (set l i x)
map_set f [] i x = refl
map_set f (y ∷ l) zero x = refl
map_set f (y ∷ l) (suc i) x = ap (λ t. f y ∷ t) (map_set f l i x)
