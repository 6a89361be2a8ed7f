-- A card whose shard lies on axis m alone: where its elements go.
use mathlib.Core.Path.{◌≡◌, refl, sym, ap, ap₂, ◌∙◌}
use mathlib.Core.Bool.{Bool, true, false, and-eq-true_iff}
use mathlib.Core.List.{List, [], ◌∷◌, map}
use Prim.Native.Nat.{ℕ, zero, suc, ◌+◌, ◌*◌, ◌^◌, ◌<◌}
use native.Mathlib.Nat.{add-zero}
use borrow.Author.Tests.{lt-ltb}
use lib.Dec.{eqb, ltb}
use lib.IntN.{ℤ, pos, ◌+ℤ◌, ◌*ℤ◌, pos-+ℤ-pos, pos-*ℤ-pos}
use lib.ListN.{get_or, replicate}
use Rattle.swizzle.specs.Swizzle.{swizzled}
use Rattle.card.specs.Card.{listed, extent_of}
use Rattle.card.specs.declared.Iter.{Iter}
use Rattle.card.specs.declared.Card.{Card}
use Rattle.rules.specs.RowMajor.{row_major, components, inside, position}
use Rattle.rules.specs.Rules.{added, part, sum, swizzled_m, on_axis, coordinates, spot_at, spot}
use Rattle.rules.specs.declared.Position.TheVariants.{At}
use Rattle.canonical.specs.Canonical.{on_m}
use Rattle.canonical_approval.specs.Nested.{Digit, value, sizes}

abbrev pub iters_of : List Digit → List Iter
iters_of [] = []
iters_of (d ∷ ds) = on_m d.extent d.stride ∷ iters_of ds

pub its_sizes : (ds : List Digit) → map extent_of (iters_of ds) ≡ sizes ds
its_sizes [] = refl
its_sizes (d ∷ ds) = ap (λ (l : List ℕ). d.extent ∷ l) (its_sizes ds)

on_m_lem : (ds : List Digit) (cs : List ℕ) → added 7 (iters_of ds) cs ≡ pos (value ds cs)
on_m_lem [] cs = refl
on_m_lem (d ∷ ds) [] = refl
on_m_lem (d ∷ ds) (c ∷ cs) = ap₂ ◌+ℤ◌ (pos-*ℤ-pos c d.stride) (on_m_lem ds cs) ∙ pos-+ℤ-pos (c * d.stride) (value ds cs)

off_m : (axis : ℕ) → eqb 7 axis ≡ false → (ds : List Digit) (cs : List ℕ) → added axis (iters_of ds) cs ≡ pos 0
off_m axis h [] cs = refl
off_m axis h (d ∷ ds) [] = refl
off_m axis h (d ∷ ds) (c ∷ cs) = rw h (ap (λ (z : ℤ). pos 0 +ℤ z) (off_m axis h ds cs))

-- the lengths, seven of them 1, and coordinates that are 0 but on m
abbrev pub space : ℕ → List ℕ
space L = 1 ∷ 1 ∷ 1 ∷ 1 ∷ 1 ∷ 1 ∷ 1 ∷ L ∷ []

abbrev pub at_m : ℕ → List ℕ
at_m x = 0 ∷ 0 ∷ 0 ∷ 0 ∷ 0 ∷ 0 ∷ 0 ∷ x ∷ []

pub inside_at : (x L : ℕ) → x < L → inside (space L) (at_m x) ≡ true
inside_at x L h = (and-eq-true_iff (ltb x L) true).1 (lt-ltb x L h, refl)

pub position_at : (x L : ℕ) → x < L → position (space L) (at_m x) ≡ At (row_major (space L) (at_m x))
unfolding position
position_at x L h = rw (inside_at x L h)

pub record Lies (card : Card) (ds : List Digit) (L : ℕ) : Type 0 where
  pub its_shard : listed card.shard ≡ iters_of ds
  pub its_replica : listed card.replica ≡ []
  pub its_offset : card.offset ≡ replicate 8 (pos 0)
  pub its_lengths : card.lengths ≡ space L

module _ (card : Card) (ds : List Digit) (L : ℕ) (lies : Lies card ds L) where
  -- the address of an element, and where the swizzle takes it
  abbrev pub address : ℕ → ℕ
  address flat = value ds (components (sizes ds) flat)

  abbrev pub moved : ℕ → ℕ
  moved flat = swizzled card.swizzle.m card.swizzle.b card.swizzle.s (address flat)

  its_part : (flat axis : ℕ) → part card.shard flat axis ≡ added axis (iters_of ds) (components (sizes ds) flat)
  its_part flat axis =
      ap (λ (l : List Iter). added axis l (components (map extent_of l) flat)) lies.its_shard
      ∙ ap (λ (l : List ℕ). added axis (iters_of ds) (components l flat)) (its_sizes ds)

  no_copies : (r axis : ℕ) → part card.replica r axis ≡ pos 0
  no_copies r axis = ap (λ (l : List Iter). added axis l (components (map extent_of l) r)) lies.its_replica

  no_offset_lem : (axis : ℕ) → get_or card.offset axis (pos 0) ≡ get_or (replicate 8 (pos 0)) axis (pos 0)
  no_offset_lem axis = ap (λ (l : List ℤ). get_or l axis (pos 0)) lies.its_offset

  -- on the other axes nothing is added
  sum_off : (flat r axis : ℕ) → eqb 7 axis ≡ false → get_or (replicate 8 (pos 0)) axis (pos 0) ≡ pos 0 → sum card flat r axis ≡ pos 0
  sum_off flat r axis h z =
      ap₂ ◌+ℤ◌ (ap₂ ◌+ℤ◌ (its_part flat axis ∙ off_m axis h ds (components (sizes ds) flat)) (no_offset_lem axis ∙ z)) (no_copies r axis)

  sum_on : (flat r : ℕ) → sum card flat r 7 ≡ pos (address flat)
  sum_on flat r =
      ap₂ ◌+ℤ◌ (ap₂ ◌+ℤ◌ (its_part flat 7 ∙ on_m_lem ds (components (sizes ds) flat)) (no_offset_lem 7)) (no_copies r 7)
      ∙ ap (λ (z : ℤ). z +ℤ pos 0) (pos-+ℤ-pos (address flat) 0 ∙ ap pos (add-zero (address flat)))
      ∙ pos-+ℤ-pos (address flat) 0
      ∙ ap pos (add-zero (address flat))

  pub coordinates_on : (flat r : ℕ) → coordinates card flat r ≡ at_m (moved flat)
  unfolding coordinates
  coordinates_on flat r =
      ap (λ (s : List ℤ). map on_axis (swizzled_m card.swizzle s))
      (λ i.
      sum_off flat r 0 refl refl i
      ∷ sum_off flat r 1 refl refl i
      ∷ sum_off flat r 2 refl refl i
      ∷ sum_off flat r 3 refl refl i
      ∷ sum_off flat r 4 refl refl i
      ∷ sum_off flat r 5 refl refl i
      ∷ sum_off flat r 6 refl refl i
      ∷ sum_on flat r i
      ∷ [])

  pub spot_on : (flat r : ℕ) → spot card flat r ≡ spot_at (position (space L) (at_m (moved flat)))
  unfolding spot
  spot_on flat r = ap₂ (λ (l c : List ℕ). spot_at (position l c)) lies.its_lengths (coordinates_on flat r)
