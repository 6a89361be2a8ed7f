-- A packed card read back: each column of the two arrays is one of the card's lists, and up to its count that of the listed iters.
use mathlib.Core.Path.{◌≡◌, refl, sym, ap, ◌∙◌}
use mathlib.Core.Bool.{Bool, true, false, cond, not}
use mathlib.Core.List.{List, ◌++◌, map}
use Prim.Native.Nat.{ℕ, zero, suc, ◌+◌, ◌*◌, ◌-◌, ◌≤◌, ◌<◌, min}
use mathlib.Core.Logic.{◌⊎◌, inl, inr}
use native.Mathlib.Omega.{arith}
use borrow.Author.Tests.{lt-ltb, le-ltb}
use lib.Dec.{eqb, ltb}
use lib.IntN.{ℤ, pos}
use lib.ListN.{length, get_or, take, replicate, length-take, length-map, length-append, length-replicate, get_or-replicate, get_or-append}
use lib.Seq.{slice, length-slice, length-take-le, ext_get_or, get_or-take, get_or-drop, get_or-append-add}
use Rattle.laws.proofs.Lists.{map_take}
use Rattle.laws.proofs.Columns.{Filled}
use Rattle.laws.proofs.Order.{le_or_lt}
use Rattle.card.specs.Lists.{slots, padded}
use Rattle.card.specs.Card.{listed, extent_of, stride_of, axis_of, elements, copies, cells, none, mark_number}
use Rattle.card.specs.Packed.{beyond, iter_at, iters_of, mark_at, card_of, Whole, Packs, last_column, ListOf}
use Rattle.card.specs.declared.Iter.{Iter}
use Rattle.card.specs.declared.Card.{Card}

-- a function of the eight slots, at one of them
pub eight_at : {A : Type 0} (f : ℕ → A) (other : A) (k : ℕ) → k < 8 → get_or (map f slots) k other ≡ f k
eight_at f other zero h = refl
eight_at f other (suc zero) h = refl
eight_at f other (suc (suc zero)) h = refl
eight_at f other (suc (suc (suc zero))) h = refl
eight_at f other (suc (suc (suc (suc zero)))) h = refl
eight_at f other (suc (suc (suc (suc (suc zero))))) h = refl
eight_at f other (suc (suc (suc (suc (suc (suc zero)))))) h = refl
eight_at f other (suc (suc (suc (suc (suc (suc (suc zero))))))) h = refl
eight_at f other (suc (suc (suc (suc (suc (suc (suc (suc k)))))))) h = absurd (omega arith)

-- a list of eight is a function of the slots if it is at each
pub eight_slots : {A : Type 0} (f : ℕ → A) (other : A) (l : List A) → length l ≡ 8 → ((k : ℕ) → k < 8 → get_or l k other ≡ f k) → l ≡ map f slots
eight_slots f other l eight at = ext_get_or other l (map f slots) eight (λ k h. at k (omega arith) ∙ sym (eight_at f other k (omega arith)))

-- the first n of a list of eight, with zeros past them, slot by slot
module _ {A : Type 0} (other : A) (l : List A) (n : ℕ) (eight : length l ≡ 8) (few : n ≤ 8) where
  first_n : length (take n l) ≡ n
  first_n = length-take-le n l (omega arith)

  pub padded_at : (k : ℕ) → k < n → get_or (padded other (take n l)) k other ≡ get_or l k other
  padded_at k h =
      get_or-append (take n l) (replicate (8 - length (take n l)) other) other k (omega (arith, first_n)) ∙ get_or-take n l k other h

  padded_past : (k : ℕ) → n ≤ k → k < 8 → get_or (padded other (take n l)) k other ≡ other
  padded_past k h small =
      let place : k ≡ length (take n l) + (k - n) = omega (arith, first_n) in
      ap (λ (x : ℕ). get_or (padded other (take n l)) x other) place
      ∙ get_or-append-add (take n l) (replicate (8 - length (take n l)) other) (k - n) other
      ∙ get_or-replicate (8 - length (take n l)) (k - n) other other (omega (arith, first_n))

  pub padded_slots : padded other (take n l) ≡ map (λ (k : ℕ). cond (ltb k n) (get_or l k other) other) slots
  padded_slots =
      eight_slots (λ (k : ℕ). cond (ltb k n) (get_or l k other) other) other (padded other (take n l))
      (length-append (take n l) (replicate (8 - length (take n l)) other) ∙ omega (arith, first_n, length-replicate (8 - length (take n l)) other))
      (λ k h. split k h (le_or_lt n k))
    where
      split : (k : ℕ) → k < 8 → (n ≤ k) ⊎ (k < n) → get_or (padded other (take n l)) k other ≡ cond (ltb k n) (get_or l k other) other
      split k h (inl past) = rw (le-ltb k n past) (padded_past k past h)
      split k h (inr within) = rw (lt-ltb k n within) (padded_at k within)

pub slice_at : {A : Type 0} (l : List A) (from end : ℕ) (other : A) (k : ℕ) → from + k < end → get_or (slice from end l) k other ≡ get_or l (from + k) other
slice_at l from end other k h = get_or-drop from (take end l) k other ∙ get_or-take end l (from + k) other h

-- the first n of a column of eight
column_part : {A : Type 0} (l : List A) (other : A) (from n : ℕ) → n ≤ 8 → from + n ≤ length l
    → take n (map (λ k. get_or l (from + k) other) slots) ≡ slice from (from + n) l
column_part l other from n few long =
    let column = map (λ k. get_or l (from + k) other) slots in
    let short : length (take n column) ≡ n = length-take n column ∙ omega arith in
    ext_get_or other (take n column) (slice from (from + n) l) (short ∙ omega (arith, length-slice from (from + n) l long))
    (λ k h.
    get_or-take n column k other (omega arith)
    ∙ eight_at (λ k. get_or l (from + k) other) other k (omega arith)
    ∙ sym (slice_at l from (from + n) other k (omega arith)))

-- up to its count a column is that of the listed iters
module _ (numbers : List ℕ) (strides : List ℤ) (list : ℕ) (of : ListOf numbers list) where
  abbrev count : ℕ
  count = get_or numbers (40 + list) 0

  part : {A : Type 0} (f : Iter → A) (l : List A) (other : A) (from : ℕ) → map f (map (iter_at numbers strides list) slots) ≡ map (λ k. get_or l (from + k) other) slots
      → from + 8 ≤ length l → map f (listed (iters_of numbers strides list)) ≡ slice from (from + count) l
  part f l other from same long =
      map_take f count (map (iter_at numbers strides list) slots)
      ∙ ap (take count) same
      ∙ column_part l other from count of.few (omega (arith, of.few))

  pub extents_part : length numbers ≡ 56 → map extent_of (listed (iters_of numbers strides list)) ≡ slice (16 * list) (16 * list + count) numbers
  extents_part all = part extent_of numbers 0 (16 * list) refl (omega (arith, of.one_of_two))

  pub axes_part : length numbers ≡ 56 → map axis_of (listed (iters_of numbers strides list)) ≡ slice (16 * list + 8) (16 * list + 8 + count) numbers
  axes_part all = part axis_of numbers 0 (16 * list + 8) refl (omega (arith, of.one_of_two))

  pub strides_part : length strides ≡ 24 → map stride_of (listed (iters_of numbers strides list)) ≡ slice (8 * list) (8 * list + count) strides
  strides_part all = part stride_of strides (pos 0) (8 * list) refl (omega (arith, of.one_of_two))

-- the lengths are eight
pub eight_lengths : {numbers : List ℕ} {strides : List ℤ} → Whole numbers strides → length (slice 32 40 numbers) ≡ 8
eight_lengths {numbers} w = length-slice 32 40 numbers (omega (arith, w.all_numbers))

-- what a card's columns hold
abbrev pub number_at : List Iter → List Iter → List ℕ → List ℕ → List Bool → ℕ → ℕ → ℕ
number_at shard replica lengths last marks zero j = (get_or shard j none).extent
number_at shard replica lengths last marks (suc zero) j = (get_or shard j none).axis
number_at shard replica lengths last marks (suc (suc zero)) j = (get_or replica j none).extent
number_at shard replica lengths last marks (suc (suc (suc zero))) j = (get_or replica j none).axis
number_at shard replica lengths last marks (suc (suc (suc (suc zero)))) j = get_or lengths j 0
number_at shard replica lengths last marks (suc (suc (suc (suc (suc zero))))) j = get_or last j 0
number_at shard replica lengths last marks (suc (suc (suc (suc (suc (suc c)))))) j = mark_number (get_or marks j false)

abbrev pub stride_at : List Iter → List Iter → List ℤ → ℕ → ℕ → ℤ
stride_at shard replica offset zero j = (get_or shard j none).stride
stride_at shard replica offset (suc zero) j = (get_or replica j none).stride
stride_at shard replica offset (suc (suc c)) j = get_or offset j (pos 0)

-- a card's lists are of eight, as its arrays are
pub record OfEight (card : Card) : Type 0 where
  pub shard : length card.shard.at ≡ 8
  pub marks : length card.marks ≡ 8
  pub replica : length card.replica.at ≡ 8
  pub offset : length card.offset ≡ 8
  pub lengths : length card.lengths ≡ 8

-- all columns filled, the card is packed
module _ (card : Card) (eight : OfEight card) {numbers : List ℕ} {strides : List ℤ}
    (f : Filled 0 (number_at card.shard.at card.replica.at card.lengths (last_column card) card.marks) 7 8 numbers)
    (g : Filled (pos 0) (stride_at card.shard.at card.replica.at card.offset) 3 8 strides) where
  shard_back : map (iter_at numbers strides 0) slots ≡ card.shard.at
  shard_back =
      sym (eight_slots (iter_at numbers strides 0) none card.shard.at eight.shard
      (λ k h. rw (f.so_far 0 k (omega arith) h, f.so_far 1 k (omega arith) h, g.so_far 0 k (omega arith) h)))

  replica_back : map (iter_at numbers strides 1) slots ≡ card.replica.at
  replica_back =
      sym (eight_slots (iter_at numbers strides 1) none card.replica.at eight.replica
      (λ k h. rw (f.so_far 2 k (omega arith) h, f.so_far 3 k (omega arith) h, g.so_far 1 k (omega arith) h)))

  column_back : {A : Type 0} (other : A) (from : ℕ) (l column : List A) → from + 8 ≤ length l → length column ≡ 8
      → ((k : ℕ) → k < 8 → get_or l (from + k) other ≡ get_or column k other) → slice from (from + 8) l ≡ column
  column_back other from l column long eight at =
      ext_get_or other (slice from (from + 8) l) column (omega (arith, length-slice from (from + 8) l long))
      (λ k h. let small : k < 8 = omega (arith, length-slice from (from + 8) l long) in slice_at l from (from + 8) other k (omega arith) ∙ at k small)

  mark_back : (mark : Bool) → not (eqb (mark_number mark) 0) ≡ mark
  mark_back true = refl
  mark_back false = refl

  marks_back : map (mark_at numbers) slots ≡ card.marks
  marks_back =
      sym (eight_slots (mark_at numbers) false card.marks eight.marks
      (λ k h. rw (f.so_far 6 k (omega arith) h) (sym (mark_back (get_or card.marks k false)))))

  card_back : card_of numbers strides ≡ card
  card_back =
      rw (
        shard_back,
        marks_back,
        replica_back,
        column_back 0 32 numbers card.lengths (omega (arith, f.whole)) eight.lengths (λ k h. f.so_far 4 k (omega arith) h),
        column_back (pos 0) 16 strides card.offset (omega (arith, g.whole)) eight.offset (λ k h. g.so_far 2 k (omega arith) h),
        f.so_far 5 0 (omega arith) (omega arith),
        f.so_far 5 1 (omega arith) (omega arith),
        f.so_far 5 2 (omega arith) (omega arith),
        f.so_far 5 3 (omega arith) (omega arith),
        f.so_far 5 4 (omega arith) (omega arith),
      )

  pub packs : Packs card numbers strides
  packs = record {
    whole = record {
      all_numbers = f.whole;
      all_strides = g.whole;
      elements_there = f.so_far 5 5 (omega arith) (omega arith) ∙ sym (ap (λ (c : Card). min (elements c) beyond) card_back);
      copies_there = f.so_far 5 6 (omega arith) (omega arith) ∙ sym (ap (λ (c : Card). min (copies c) beyond) card_back);
      cells_there = f.so_far 5 7 (omega arith) (omega arith) ∙ sym (ap (λ (c : Card). min (cells c) beyond) card_back);
    };
    same_card = card_back;
  }
