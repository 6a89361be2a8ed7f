-- A test of all of a list, and its product, as loops come to them, one more element of the part that is left, and what they say of each element;
-- and lists that are the same.
use mathlib.Core.Path.{◌≡◌, refl, sym, ap, ap₂, ◌∙◌}
use mathlib.Core.Bool.{Bool, true, ◌&&◌, and_assoc, and-true, and-eq-true_iff, true≢false}
use mathlib.Core.List.{List, [], ◌∷◌}
use Prim.Native.Nat.{ℕ, zero, suc, ◌+◌, ◌*◌, ◌≤◌, ◌<◌, min}
use native.Mathlib.Nat.{mul_assoc, mul-one, min-eq_left, not-suc-le-zero, le_of_suc-le-suc, le_refl, one-le-mul}
use borrow.Author.Tests.{leb-true, eqb-true, eq-eqb}
use lib.Dec.{leb, eqb}
use lib.IntN.{ℤ, nat_abs}
use lib.ListN.{length, get_or, take}
use lib.Seq.{slice, slice_empty}
use lib.Signed.{mag}
use Rattle.laws.proofs.Capped.{capped_part, capped_leb}
use Rattle.laws.proofs.Lists.{slice_next}
use Rattle.laws.proofs.Signed.{between_far}
use Rattle.card.specs.Lists.{all, within, within_z, product, same}
use Rattle.card.specs.Limits.{least_stride, most_stride}
use Rattle.card.specs.Packed.{beyond, farthest}

module _ {A : Type 0} (p : A → Bool) (l : List A) (from n : ℕ) where
  -- what a loop that has tested the elements up to k still owes
  abbrev pub Tested : ℕ → Bool → Type 0
  Tested k fit = (fit && all p (slice k n l)) ≡ all p (slice from n l)

  pub tested_more : (k : ℕ) (other : A) (fit : Bool) → k < n → n ≤ length l → Tested k fit → Tested (k + 1) (fit && p (get_or l k other))
  tested_more k other fit h fits e =
      and_assoc fit (p (get_or l k other)) (all p (slice (k + 1) n l))
      ∙ sym (ap (λ (s : List A). fit && all p s) (slice_next l k n other h fits))
      ∙ e

  pub tested_all : (fit : Bool) → Tested n fit → fit ≡ all p (slice from n l)
  tested_all fit e = sym (and-true fit) ∙ sym (ap (λ (s : List A). fit && all p s) (slice_empty n l)) ∙ e

module _ (l : List ℕ) (n c : ℕ) where
  -- what a loop that has multiplied the first k numbers still owes, told apart below c
  abbrev pub Multiplied : ℕ → ℕ → Type 0
  Multiplied k part = min (part * product (slice k n l)) c ≡ min (product (take n l)) c

  pub multiplied_more : (k part : ℕ) → k < n → n ≤ length l → Multiplied k part → Multiplied (k + 1) (min (part * get_or l k 0) c)
  multiplied_more k part h fits e =
      capped_part c (part * get_or l k 0) (product (slice (k + 1) n l))
      ∙ ap (λ (x : ℕ). min x c)
      (mul_assoc part (get_or l k 0) (product (slice (k + 1) n l))
      ∙ sym (ap (λ (s : List ℕ). part * product s) (slice_next l k n 0 h fits)))
      ∙ e

  pub multiplied_all : (part : ℕ) → part ≤ c → Multiplied n part → part ≡ min (product (take n l)) c
  multiplied_all part small e =
      sym (ap (λ (s : List ℕ). min (part * product s) c) (slice_empty n l) ∙ ap (λ (x : ℕ). min x c) (mul-one part) ∙ min-eq_left small)
      ∙ e

-- what all pass, each passes
pub all_at : {A : Type 0} (p : A → Bool) (l : List A) (k : ℕ) (other : A) → all p l ≡ true → k < length l → p (get_or l k other) ≡ true
all_at p [] k other t h = absurd (not-suc-le-zero h)
all_at p (x ∷ l) zero other t h = ((and-eq-true_iff (p x) (all p l)).0 t).0
all_at p (x ∷ l) (suc k) other t h = all_at p l k other ((and-eq-true_iff (p x) (all p l)).0 t).1 (le_of_suc-le-suc h)

pub within_numbers : (least most n : ℕ) → within least most n ≡ true → (least ≤ n) × (n ≤ most)
within_numbers least most n t =
    let both = (and-eq-true_iff (leb least n) (leb n most)).0 t in (leb-true least n both.0, leb-true n most both.1)

pub stride_far : (z : ℤ) → within_z least_stride most_stride z ≡ true → nat_abs z ≤ farthest
stride_far = between_far (mag most_stride)

-- a product of numbers from 1 on is at least 1
pub product_positive : (most : ℕ) (l : List ℕ) → all (within 1 most) l ≡ true → 1 ≤ product l
product_positive most [] t = le_refl 1
product_positive most (n ∷ l) t =
    let both = (and-eq-true_iff (within 1 most n) (all (within 1 most) l)).0 t in
    one-le-mul (within_numbers 1 most n both.0).0 (product_positive most l both.1)

-- what is told apart below beyond decides a limit below it as the whole number does
pub capped_test : {n : ℕ} (whole limit : ℕ) → limit < beyond → n ≡ min whole beyond → leb n limit ≡ leb whole limit
capped_test whole limit small e = ap (λ (m : ℕ). leb m limit) e ∙ capped_leb beyond whole limit small

-- the same numbers
pub same_true : (l m : List ℕ) → same l m ≡ true → l ≡ m
same_true [] [] t = refl
same_true [] (y ∷ ys) t = absurd (true≢false (sym t))
same_true (x ∷ xs) [] t = absurd (true≢false (sym t))
same_true (x ∷ xs) (y ∷ ys) t =
    let both = (and-eq-true_iff (eqb x y) (same xs ys)).0 t in
    ap₂ ◌∷◌ (eqb-true x y both.0) (same_true xs ys both.1)

pub same_refl : (l : List ℕ) → same l l ≡ true
same_refl [] = refl
same_refl (x ∷ xs) = (and-eq-true_iff (eqb x x) (same xs xs)).1 (eq-eqb x x refl, same_refl xs)
