-- Marks tested one after the other: with the marks from k on still owed, each turn of a loop tests one more.
use mathlib.Core.Path.{◌≡◌, refl, sym, ap, ap₂, ◌∙◌}
use mathlib.Core.Bool.{Bool, true, false, not, ◌&&◌, ◌||◌, and_assoc, and-true}
use mathlib.Core.List.{List, map}
use Prim.Native.Nat.{ℕ, suc, ◌+◌, ◌≤◌, ◌<◌}
use native.Mathlib.Numerals.{add-one}
use native.Mathlib.Omega.{arith}
use lib.Dec.{eqb}
use lib.IntN.{ℤ, pos}
use lib.ListN.{length, get_or, drop, drop_of_length-le, length-take}
use native.Mathlib.Nat.{zero-add}
use lib.Seq.{slice, drop-cons, get_or-take, length-slice}
use Rattle.card.specs.Lists.{within_z, slots}
use Rattle.card.specs.Admission.{marks_fit}
use Rattle.card.specs.Packed.{mark_at, marks_there, strides_there, ListOf}
use Rattle.card.proofs.ReadBack.{eight_at, slice_at, strides_part}

-- the test of one mark
abbrev pub mark_fits : Bool → ℤ → Bool
mark_fits mark stride = not mark || within_z (pos 0) (pos 0) stride

module _ (marks : List Bool) (strides : List ℤ) where
  -- what a loop that has tested the first k marks still owes
  abbrev pub Marked : ℕ → Bool → Type 0
  Marked k fit = (fit && marks_fit (drop k marks) (drop k strides)) ≡ marks_fit marks strides

  pub marked_more : (k : ℕ) (fit : Bool) → k < length marks → k < length strides → Marked k fit
      → Marked (k + 1) (fit && mark_fits (get_or marks k false) (get_or strides k (pos 0)))
  marked_more k fit h g e =
      rw (add-one k) (and_assoc fit (mark_fits (get_or marks k false) (get_or strides k (pos 0))) (marks_fit (drop (suc k) marks) (drop (suc k) strides))
      ∙ sym (ap₂ (λ (m : List Bool) (s : List ℤ). fit && marks_fit m s) (drop-cons marks k false h) (drop-cons strides k (pos 0) g))
      ∙ e)

  pub marked_all : (n : ℕ) (fit : Bool) → length marks ≤ n → Marked n fit → fit ≡ marks_fit marks strides
  marked_all n fit h e =
      sym (and-true fit) ∙ sym (ap (λ (m : List Bool). fit && marks_fit m (drop n strides)) (drop_of_length-le marks {i = n} h)) ∙ e

-- the marks of a packed card's listed shard iters
module _ (numbers : List ℕ) (strides : List ℤ) (of : ListOf numbers 0) where
  abbrev count : ℕ
  count = get_or numbers 40 0

  pub as_many_marks : length (marks_there numbers strides) ≡ count
  as_many_marks = length-take count (map (mark_at numbers) slots) ∙ omega (arith, of.few)

  pub mark_there : (k : ℕ) → k < count → get_or (marks_there numbers strides) k false ≡ mark_at numbers k
  mark_there k h =
      get_or-take count (map (mark_at numbers) slots) k false h ∙ eight_at (mark_at numbers) false k (omega (arith, of.few))

-- and their strides
module _ (numbers : List ℕ) (strides : List ℤ) (all : length strides ≡ 24) (of : ListOf numbers 0) where
  abbrev listed_count : ℕ
  listed_count = get_or numbers 40 0

  first_column : strides_there numbers strides ≡ slice 0 listed_count strides
  first_column = strides_part numbers strides 0 of all ∙ ap (λ (end : ℕ). slice 0 end strides) (zero-add listed_count)

  pub as_many_strides : length (strides_there numbers strides) ≡ listed_count
  as_many_strides = ap length first_column ∙ omega (arith, length-slice 0 listed_count strides (omega (arith, of.few)), of.few)

  pub stride_there : (k : ℕ) → k < listed_count → get_or (strides_there numbers strides) k (pos 0) ≡ get_or strides k (pos 0)
  stride_there k h =
      ap (λ (l : List ℤ). get_or l k (pos 0)) first_column
      ∙ slice_at strides 0 listed_count (pos 0) k (omega arith)
      ∙ ap (λ (i : ℕ). get_or strides i (pos 0)) (zero-add k)

not_not : (b : Bool) → not (not b) ≡ b
not_not true = refl
not_not false = refl

-- the test of a mark by its number
pub mark_tested : (n : ℕ) (stride : ℤ) → mark_fits (not (eqb n 0)) stride ≡ (eqb n 0 || within_z (pos 0) (pos 0) stride)
mark_tested n stride = rw (not_not (eqb n 0))
