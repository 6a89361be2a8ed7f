-- The limits as inequalities: checks 1 to 6 are passed exactly when every count, extent, stride, offset, axis, length, product and M, B, S lies within
-- its numbers, test by test and element by element of each list.
use Rattle.std.specs.Prelude.{Ok}
use mathlib.Core.Path.{◌≡◌, refl, sym, ap, ◌∙◌}
use mathlib.Core.Bool.{Bool, true, false, not, ◌&&◌, ◌||◌, and-eq-true_iff, false≢true}
use mathlib.Core.Logic.Iff
use mathlib.Core.Logic.{◌↔◌}
use mathlib.Core.List.{List, [], ◌∷◌, map}
use Prim.Native.Nat.{ℕ, zero, suc, ◌≤◌, ◌<◌, zero-le, suc-le-suc}
use native.Mathlib.Nat.{not-suc-le-zero, le_of_suc-le-suc}
use native.Mathlib.Omega.{arith}
use borrow.Author.Tests.{leb-true, le-leb}
use lib.Dec.{T, leb}
use lib.IntN.{ℤ, pos, negsuc, neg_ℤ}
use lib.ListN.{length, get_or}
use lib.Signed.{◌≤ℤ◌, le_z}
use Rattle.answers.specs.Refusals.{no_refusal}
use Rattle.laws.proofs.Parts.{le_z_true}
use Rattle.card.specs.Lists.{all, within, within_z, product}
use Rattle.card.specs.Card.{listed, marks_of, extent_of, stride_of, axis_of, none, elements, copies}
use Rattle.card.specs.Admission.{counts_fit, iters_fit, marks_fit, numbers_fit, iters_on_axes, axes_fit, space_fits, few_enough, swizzle_fits, admission}
use Rattle.card.specs.declared.Iter.{Iter}
use Rattle.card.specs.declared.Iters.{Iters}
use Rattle.card.specs.declared.Card.{Card}
use Rattle.card.proofs.Admitted.{checked}
use Rattle.card.proofs.Theorems.{checked_admitted}

-- each of a list
abbrev pub Each : {A : Type 0} → A → List A → (A → Type 0) → Type 0
Each other l Fits = (k : ℕ) → k < length l → Fits (get_or l k other)

-- check 1: the shard has 1 to 8 iters, the replica up to 4
pub record CountsWithin (card : Card) : Type 0 where
  pub some : 1 ≤ card.shard.count
  pub shard : card.shard.count ≤ 8
  pub replica : card.replica.count ≤ 4

-- check 2: extents 1 to 65,536, strides and offsets -65,536 to 65,535, and of a marked iter the stride 0; iters past the count are not listed
abbrev pub StrideWithin : ℤ → Type 0
StrideWithin z = (neg_ℤ (pos 65536) ≤ℤ z) × (z ≤ℤ pos 65535)

pub record IterWithin (iter : Iter) : Type 0 where
  pub extent : (1 ≤ iter.extent) × (iter.extent ≤ 65536)
  pub stride : StrideWithin iter.stride

pub record NumbersWithin (card : Card) : Type 0 where
  pub shard : Each none (listed card.shard) IterWithin
  pub marked : (k : ℕ) → k < length (marks_of card) → k < length (listed card.shard) → get_or (marks_of card) k false ≡ true
      → (get_or (listed card.shard) k none).stride ≡ pos 0
  pub replica : Each none (listed card.replica) IterWithin
  pub offset : Each (pos 0) card.offset StrideWithin

-- check 3: axes 0 to 7
pub record AxesWithin (card : Card) : Type 0 where
  pub shard : Each none (listed card.shard) (λ iter. iter.axis ≤ 7)
  pub replica : Each none (listed card.replica) (λ iter. iter.axis ≤ 7)

-- check 4: lengths 1 to 65,536, and at most 65,536 cells
pub record SpaceWithin (lengths : List ℕ) : Type 0 where
  pub length_of_each : Each 0 lengths (λ n. (1 ≤ n) × (n ≤ 65536))
  pub most_cells_lem : product lengths ≤ 65536

-- check 5: at most 65,536 elements, and at most 64 copies
pub record SizesWithin (card : Card) : Type 0 where
  pub most_elements_lem : elements card ≤ 65536
  pub most_copies_lem : copies card ≤ 64

-- check 6: M at most 8, B at most 4, S at most 8 and not below B
pub record SwizzleWithin (card : Card) : Type 0 where
  pub most_m : card.swizzle.m ≤ 8
  pub most_b : card.swizzle.b ≤ 4
  pub most_s : card.swizzle.s ≤ 8
  pub not_below : card.swizzle.b ≤ card.swizzle.s

-- every number of the card lies within the limits
pub record WithinLimits (card : Card) : Type 0 where
  pub counts : CountsWithin card
  pub numbers : NumbersWithin card
  pub axes : AxesWithin card
  pub space : SpaceWithin card.lengths
  pub sizes : SizesWithin card
  pub swizzle : SwizzleWithin card

-- a test and the inequality that it tests
leb_exactly : (a b : ℕ) → (leb a b ≡ true) ↔ (a ≤ b)
leb_exactly a b = (leb-true a b, le-leb a b)

told : (b : Bool) → T b → b ≡ true
told true t = refl
told false t = absurd t

le_z_exactly : (a b : ℤ) → (le_z a b ≡ true) ↔ (a ≤ℤ b)
le_z_exactly a b = (le_z_true a b, λ h. told (le_z a b) h.le)

both_exactly : (a b : Bool) {A B : Type 0} → (a ≡ true) ↔ A → (b ≡ true) ↔ B → ((a && b) ≡ true) ↔ (A × B)
both_exactly a b h k = Iff.trans (and-eq-true_iff a b) (Iff.and h k)

within_exactly : (least most n : ℕ) → (within least most n ≡ true) ↔ ((least ≤ n) × (n ≤ most))
within_exactly least most n = both_exactly (leb least n) (leb n most) (leb_exactly least n) (leb_exactly n most)

stride_exactly : (z : ℤ) → (within_z (neg_ℤ (pos 65536)) (pos 65535) z ≡ true) ↔ StrideWithin z
stride_exactly z = both_exactly (le_z (neg_ℤ (pos 65536)) z) (le_z z (pos 65535)) (le_z_exactly (neg_ℤ (pos 65536)) z) (le_z_exactly z (pos 65535))

-- a test of a whole list
module _ {A : Type 0} (other : A) (p : A → Bool) (Fits : A → Type 0) (exactly : (x : A) → (p x ≡ true) ↔ Fits x) where
  each_of : (l : List A) → all p l ≡ true → Each other l Fits
  each_of [] t k h = absurd (not-suc-le-zero h)
  each_of (x ∷ l) t zero h = (exactly x).0 ((and-eq-true_iff (p x) (all p l)).0 t).0
  each_of (x ∷ l) t (suc k) h = each_of l ((and-eq-true_iff (p x) (all p l)).0 t).1 k (le_of_suc-le-suc h)

  all_of : (l : List A) → Each other l Fits → all p l ≡ true
  all_of [] each = refl
  all_of (x ∷ l) each =
      (and-eq-true_iff (p x) (all p l)).1 ((exactly x).1 (each zero (omega arith)), all_of l (λ k h. each (suc k) (suc-le-suc h)))

  each_exactly : (l : List A) → (all p l ≡ true) ↔ Each other l Fits
  each_exactly l = (each_of l, all_of l)

all_map : {A B : Type 0} (f : A → B) (p : B → Bool) (l : List A) → all p (map f l) ≡ all (λ x. p (f x)) l
all_map f p [] = refl
all_map f p (x ∷ l) = ap (λ (b : Bool). p (f x) && b) (all_map f p l)

-- by something that each iter has
module _ {B : Type 0} (f : Iter → B) (p : B → Bool) (Fits : B → Type 0) (exactly : (x : B) → (p x ≡ true) ↔ Fits x) (l : List Iter) where
  iters_exactly : (all p (map f l) ≡ true) ↔ Each none l (λ iter. Fits (f iter))
  iters_exactly =
      let e = each_exactly none (λ iter. p (f iter)) (λ iter. Fits (f iter)) (λ iter. exactly (f iter)) l in
      (λ t. e.0 (sym (all_map f p l) ∙ t), λ each. all_map f p l ∙ e.1 each)

-- check 1
pub counts_exactly : (card : Card) → (counts_fit card ≡ true) ↔ CountsWithin card
counts_exactly card =
    let n = card.shard.count in
    let m = card.replica.count in
    let e = both_exactly (within 1 8 n) (leb m 4) (within_exactly 1 8 n) (leb_exactly m 4) in (
      λ t. let h = e.0 t in record { some = h.0.0; shard = h.0.1; replica = h.1 },
      λ h. e.1 ((h.some, h.shard), h.replica),
    )

-- check 2
iters_within : (iters : Iters) → (iters_fit iters ≡ true) ↔ Each none (listed iters) IterWithin
iters_within iters =
    let l = listed iters in
    let e =
    both_exactly (all (within 1 65536) (map extent_of l)) (all (within_z (neg_ℤ (pos 65536)) (pos 65535)) (map stride_of l))
    (iters_exactly extent_of (within 1 65536) (λ n. (1 ≤ n) × (n ≤ 65536)) (within_exactly 1 65536) l)
    (iters_exactly stride_of (within_z (neg_ℤ (pos 65536)) (pos 65535)) StrideWithin stride_exactly l) in (
      λ t k h. let fits = e.0 t in record { extent = fits.0 k h; stride = fits.1 k h },
      λ each. e.1 (λ k h. (each k h).extent, λ k h. (each k h).stride),
    )

-- a mark and a stride
marked_is_0 : (z : ℤ) → within_z (pos 0) (pos 0) z ≡ true → z ≡ pos 0
marked_is_0 (pos n) t = let h = (within_exactly 0 0 n).0 t in ap pos (omega arith)
marked_is_0 (negsuc n) t = absurd (false≢true t)

marks_each : (marks : List Bool) (l : List Iter) → marks_fit marks (map stride_of l) ≡ true
    → (k : ℕ) → k < length marks → k < length l → get_or marks k false ≡ true → (get_or l k none).stride ≡ pos 0
marks_each [] l t k h g e = absurd (not-suc-le-zero h)
marks_each (mark ∷ marks) [] t k h g e = absurd (not-suc-le-zero g)
marks_each (true ∷ marks) (iter ∷ l) t zero h g e =
    marked_is_0 iter.stride ((and-eq-true_iff (within_z (pos 0) (pos 0) iter.stride) (marks_fit marks (map stride_of l))).0 t).0
marks_each (false ∷ marks) (iter ∷ l) t zero h g e = absurd (false≢true e)
marks_each (mark ∷ marks) (iter ∷ l) t (suc k) h g e =
    marks_each marks l ((and-eq-true_iff (not mark || within_z (pos 0) (pos 0) iter.stride) (marks_fit marks (map stride_of l))).0 t).1
    k (le_of_suc-le-suc h) (le_of_suc-le-suc g) e

marks_all : (marks : List Bool) (l : List Iter)
    → ((k : ℕ) → k < length marks → k < length l → get_or marks k false ≡ true → (get_or l k none).stride ≡ pos 0)
    → marks_fit marks (map stride_of l) ≡ true
marks_all [] l each = refl
marks_all (mark ∷ marks) [] each = refl
marks_all (mark ∷ marks) (iter ∷ l) each =
    (and-eq-true_iff (not mark || within_z (pos 0) (pos 0) iter.stride) (marks_fit marks (map stride_of l))).1
    (here mark (each zero (omega arith) (omega arith)), marks_all marks l (λ k h g. each (suc k) (suc-le-suc h) (suc-le-suc g)))
  where
    here : (b : Bool) → (b ≡ true → iter.stride ≡ pos 0) → (not b || within_z (pos 0) (pos 0) iter.stride) ≡ true
    here true e = ap (within_z (pos 0) (pos 0)) (e refl)
    here false e = refl

pub numbers_exactly : (card : Card) → (numbers_fit card ≡ true) ↔ NumbersWithin card
numbers_exactly card =
    let marks = marks_of card in
    let l = listed card.shard in
    let e =
    both_exactly (iters_fit card.shard && marks_fit marks (map stride_of l) && iters_fit card.replica) (all (within_z (neg_ℤ (pos 65536)) (pos 65535)) card.offset)
    (both_exactly (iters_fit card.shard && marks_fit marks (map stride_of l)) (iters_fit card.replica)
    (both_exactly (iters_fit card.shard) (marks_fit marks (map stride_of l)) (iters_within card.shard) (marks_each marks l, marks_all marks l))
    (iters_within card.replica))
    (each_exactly (pos 0) (within_z (neg_ℤ (pos 65536)) (pos 65535)) StrideWithin stride_exactly card.offset) in (
      λ t. let h = e.0 t in record { shard = h.0.0.0; marked = h.0.0.1; replica = h.0.1; offset = h.1 },
      λ h. e.1 (((h.shard, h.marked), h.replica), h.offset),
    )

-- check 3
axes_within : (iters : Iters) → (iters_on_axes iters ≡ true) ↔ Each none (listed iters) (λ iter. iter.axis ≤ 7)
axes_within iters =
    iters_exactly axis_of (within 0 7) (λ n. n ≤ 7) (λ n. let e = within_exactly 0 7 n in (λ t. (e.0 t).1, λ h. e.1 (zero-le, h))) (listed iters)

pub axes_exactly : (card : Card) → (axes_fit card ≡ true) ↔ AxesWithin card
axes_exactly card =
    let e = both_exactly (iters_on_axes card.shard) (iters_on_axes card.replica) (axes_within card.shard) (axes_within card.replica) in
    (λ t. let h = e.0 t in record { shard = h.0; replica = h.1 }, λ h. e.1 (h.shard, h.replica))

-- check 4
pub space_exactly : (lengths : List ℕ) → (space_fits lengths ≡ true) ↔ SpaceWithin lengths
space_exactly lengths =
    let e =
    both_exactly (all (within 1 65536) lengths) (leb (product lengths) 65536)
    (each_exactly 0 (within 1 65536) (λ n. (1 ≤ n) × (n ≤ 65536)) (within_exactly 1 65536) lengths) (leb_exactly (product lengths) 65536) in
    (λ t. let h = e.0 t in record { length_of_each = h.0; most_cells_lem = h.1 }, λ h. e.1 (h.length_of_each, h.most_cells_lem))

-- check 5
pub sizes_exactly : (card : Card) → (few_enough card ≡ true) ↔ SizesWithin card
sizes_exactly card =
    let e = both_exactly (leb (elements card) 65536) (leb (copies card) 64) (leb_exactly (elements card) 65536) (leb_exactly (copies card) 64) in
    (λ t. let h = e.0 t in record { most_elements_lem = h.0; most_copies_lem = h.1 }, λ h. e.1 (h.most_elements_lem, h.most_copies_lem))

-- check 6
pub swizzle_exactly : (card : Card) → (swizzle_fits card ≡ true) ↔ SwizzleWithin card
swizzle_exactly card =
    let m = card.swizzle.m in
    let b = card.swizzle.b in
    let s = card.swizzle.s in
    let e =
    both_exactly (leb m 8 && leb b 4 && leb s 8) (leb b s)
    (both_exactly (leb m 8 && leb b 4) (leb s 8) (both_exactly (leb m 8) (leb b 4) (leb_exactly m 8) (leb_exactly b 4)) (leb_exactly s 8)) (leb_exactly b s) in (
      λ t. let h = e.0 t in record { most_m = h.0.0.0; most_b = h.0.0.1; most_s = h.0.1; not_below = h.1 },
      λ h. e.1 (((h.most_m, h.most_b), h.most_s), h.not_below),
    )

-- a card is admitted exactly when every number of it lies within the limits
pub within_limits_exactly : (card : Card) → (admission card ≡ no_refusal) ↔ WithinLimits card
within_limits_exactly card = (
  λ e.
      let k = checked card e in
      record {
        counts = (counts_exactly card).0 k.counts;
        numbers = (numbers_exactly card).0 k.numbers;
        axes = (axes_exactly card).0 k.axes;
        space = (space_exactly card.lengths).0 k.space;
        sizes = (sizes_exactly card).0 k.few;
        swizzle = (swizzle_exactly card).0 k.swizzle;
      },
  λ w.
      checked_admitted card (record {
        counts = (counts_exactly card).1 w.counts;
        numbers = (numbers_exactly card).1 w.numbers;
        axes = (axes_exactly card).1 w.axes;
        space = (space_exactly card.lengths).1 w.space;
        few = (sizes_exactly card).1 w.sizes;
        swizzle = (swizzle_exactly card).1 w.swizzle;
      }),
)
