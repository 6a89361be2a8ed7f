-- The odometer of a card: its digits are the components of an element, whose base is the place, since splitting the index that digits make gives them back.
use mathlib.Core.Path.{◌≡◌, refl, sym, ap, ◌∙◌, subst, fun_ext}
use mathlib.Core.Bool.{true, and-eq-true_iff}
use mathlib.Core.List.{List, [], ◌∷◌}
use Prim.Native.Nat.{ℕ, zero, suc, ◌+◌, ◌≤◌}
use native.Mathlib.Nat.{zero-mul, zero-add}
use native.Mathlib.Omega.{arith}
use lib.IntN.{ℤ, pos, ◌+ℤ◌}
use lib.ListN.{length, get_or, replicate, length-map}
use Rattle.card.specs.Lists.{all, within, product}
use Rattle.card.specs.Limits.{most_extent}
use Rattle.card.specs.Packed.{card_of, Admits}
use Rattle.card.specs.declared.Card.{Card}
use Rattle.card.specs.declared.Iter.{Iter}
use Rattle.card.proofs.Admitted.{checked, fitting, numbered}
use Rattle.card.proofs.Lists.{all_at, within_numbers}
use Rattle.rules.specs.RowMajor.{row_major, components}
use Rattle.rules.specs.Rules.{added}
use Rattle.rules_linear.specs.Levels.{base}
use Rattle.copies.proofs.Cards.{walkable_shard}
use Rattle.copies_runs.specs.Clauses.{Adds}
use Rattle.copies_runs.specs.declared.LevelAndM.{LevelAndM}
use Rattle.claiming_turns.specs.Turns.{DigitsFit, iter_extents, index_of, sums_at, shard_iters, DigitsAt, WaysTo, Turnable}
use Rattle.claiming_turns.proofs.Digits.{digits_back}
use Rattle.claiming_turns.proofs.Ways.{iters_count}
use Rattle.claiming_runs.proofs.Places.{base_near}

-- no digits
zeros_fit : (ns : List ℕ) (n : ℕ) → length ns ≤ n → all (within 1 most_extent) ns ≡ true → DigitsFit ns (replicate n 0)
zeros_fit [] n h a = tt
zeros_fit (m ∷ ns) zero h a = absurd (omega arith)
zeros_fit (m ∷ ns) (suc n) h a =
    let both = (and-eq-true_iff (within 1 most_extent m) (all (within 1 most_extent) ns)).0 a in
    ((within_numbers 1 most_extent m both.0).0, zeros_fit ns n (omega arith) both.1)

pub zeros_index : (ns : List ℕ) (n : ℕ) → row_major ns (replicate n 0) ≡ 0
zeros_index [] n = refl
zeros_index (m ∷ ns) zero = refl
zeros_index (m ∷ ns) (suc n) = omega (arith, zero-mul (product ns), zeros_index ns n)

module _ (numbers : List ℕ) (strides : List ℤ) (a : Admits numbers strides) where
  abbrev card : Card
  card = card_of numbers strides

  abbrev l : List Iter
  l = shard_iters numbers strides

  few : get_or numbers 40 0 ≤ 8
  few = (walkable_shard numbers strides a).of.few

  -- what the digits add is the base of their element
  base_digits : (cs : List ℕ) → DigitsFit (iter_extents l) cs → base card (index_of l cs) ≡ sums_at l card.offset cs
  base_digits cs f =
      fun_ext (λ axis.
      ap (λ (z : ℤ). z +ℤ get_or card.offset axis (pos 0))
      (ap (λ (i : ℕ). added axis l (components (iter_extents l) i)) (sym (ap (λ (n : ℕ). n + index_of l cs) (zero-mul (product (iter_extents l))) ∙ zero-add (index_of l cs)))
      ∙ digits_back axis l cs 0 f))

  pub place_of : (cs : List ℕ) (place : LevelAndM) → DigitsAt numbers strides cs place → Adds card.lengths (base card (index_of l cs)) place
  place_of cs place d = rw (base_digits cs d.fits) d.at

  pub digits_none : {place : LevelAndM} → Adds card.lengths (base card 0) place → DigitsAt numbers strides (replicate 8 0) place
  digits_none {place} b =
      let f : DigitsFit (iter_extents l) (replicate 8 0) =
      zeros_fit (iter_extents l) 8 (simp length-map (omega (arith, iters_count numbers strides few, few))) (fitting card.shard (numbered card (checked card a.admitted).numbers).shard).extents in
      record { fits = f; at = subst (λ (g : ℕ → ℤ). Adds card.lengths g place) (ap (base card) (sym (zeros_index (iter_extents l) 8)) ∙ base_digits (replicate 8 0) f) b }

  pub turnable : (from : ℕ) (levels ms : List ℤ) (digits : List ℕ) (start : LevelAndM) → from ≤ length l → length digits ≡ 8 → WaysTo numbers strides from levels ms
      → DigitsAt numbers strides digits start → Turnable numbers strides from levels ms digits start
  turnable from levels ms digits start slower eight ways here = record {
    whole = (a.whole.all_numbers, eight, few);
    slower = slower;
    small = λ k h.
        let e = all_at (within 1 most_extent) (iter_extents l) k 0 (fitting card.shard (numbered card (checked card a.admitted).numbers).shard).extents (simp length-map h) in
        omega (arith, (within_numbers 1 most_extent (get_or (iter_extents l) k 0) e).1);
    near = λ cs place d. base_near numbers strides a (index_of l cs) (place_of cs place d);
    ways = ways;
    here = here;
  }
