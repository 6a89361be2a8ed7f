-- The far ends of a packed card are those that the search on an axis asks for.
use mathlib.Core.Path.{◌≡◌, sym, ◌∙◌, subst}
use mathlib.Core.Bool.{true, false}
use mathlib.Core.List.{List}
use Prim.Native.Nat.{ℕ, ◌+◌, ◌≤◌, ◌<◌}
use native.Mathlib.Nat.{le_refl, min-eq_left}
use native.Mathlib.Omega.{arith}
use lib.IntN.{ℤ, pos, negsuc, neg_ℤ}
use lib.ListN.{length, get_or}
use lib.Signed.{◌≤ℤ◌, ◌<ℤ◌}
use Rattle.laws.proofs.Parts.{whole, parts_sum, parts_neg}
use Rattle.card.specs.Limits.{last_axis}
use Rattle.card.specs.Card.{elements}
use Rattle.card.specs.Packed.{beyond, card_of, Admits}
use Rattle.card.proofs.Admitted.{Sized, sized}
use Rattle.rules_linear.specs.Leaving.{Sought, Leaves}
use Rattle.outside_ends.specs.Clauses.{blocks_of, BetweenTo}
use Rattle.outside_ends.proofs.Packed.{length_at, spaced}
use Rattle.outside_axis.specs.Straying.{Strays, beyond_end}
use Rattle.outside_axis.specs.Clauses.{AxisEnded as EndedOn}
use Rattle.outside_axis.proofs.Straying.{none_over, first_astray}
use Rattle.outside_swizzled.specs.Clauses.{NoneLeaving}
use Rattle.outside.specs.Outside.{Ended}
use Rattle.outside.proofs.Words.{strays_leaves, strays_leaves_m, leaves_strays}

module _ {numbers : List ℕ} {strides low high : List ℤ} (e : Ended numbers strides low high) where
  pub ended_on : (axis bound : ℕ) → axis < 8 → bound ≤ beyond → EndedOn numbers strides axis bound (get_or low axis (pos 0)) (get_or high axis (pos 0))
  ended_on axis bound h short = record {
    admits = e.admits;
    short = short;
    low_there = e.low_there.there axis h;
    high_there = e.high_there.there axis h;
  }

  pub short_length : (axis : ℕ) → axis < 8 → get_or numbers (32 + axis) 0 ≤ beyond
  short_length axis h = (spaced numbers strides e.admits).short axis h

  pub sizes : Sized (card_of numbers strides)
  sizes = sized (card_of numbers strides) e.admits.admitted

  -- on m the first that strays from its length is the first that leaves where it is whole blocks
  pub leaves_on_m : (flat bound : ℕ) → bound ≡ blocks_of numbers → bound ≡ get_or numbers 39 0
      → Sought (Strays (card_of numbers strides) last_axis bound) (elements (card_of numbers strides)) flat
      → Sought (λ f. Leaves (card_of numbers strides) f last_axis) (elements (card_of numbers strides)) flat
  leaves_on_m flat bound blocks same s =
      let card = card_of numbers strides in
      let length = length_at numbers strides e.admits last_axis (omega arith) in
      strays_leaves_m card (elements card) flat (rw length (sym blocks ∙ same))
      (subst (λ (n : ℕ). Sought (Strays card last_axis n) (elements card) flat) (same ∙ sym length) s)

  -- and on m none leaves before the first that strays from the whole blocks
  pub none_before : (from limit : ℕ) → limit ≤ elements (card_of numbers strides)
      → Sought (Strays (card_of numbers strides) last_axis (blocks_of numbers)) (elements (card_of numbers strides)) from → NoneLeaving numbers strides from limit
  none_before from limit few s = record {
    most = few;
    none_before = λ f h l.
        let strays = rw (length_at numbers strides e.admits last_axis (omega arith)) at (leaves_strays (card_of numbers strides) f l) in
        omega (arith, s.least f (omega (arith, s.most)) strays);
  }

-- between the far ends of a card that lie inside on an axis none strays from its length
pub none_astray : {numbers : List ℕ} {strides : List ℤ} {axis bound : ℕ} {low high : ℤ} → EndedOn numbers strides axis bound low high → pos 0 ≤ℤ low → high <ℤ pos bound
    → Sought (Strays (card_of numbers strides) axis bound) (elements (card_of numbers strides)) (elements (card_of numbers strides))
none_astray {numbers} {strides} {axis} {bound} {low} {high} e from_zero below =
    let card = card_of numbers strides in
    let admitted = e.admits.admitted in
    let up : beyond_end true card axis bound <ℤ pos 0 =
    rw (sym e.high_there) (omega (whole, below, parts_neg (pos bound), parts_sum high (neg_ℤ (pos bound)))) in
    let down : beyond_end false card axis bound <ℤ pos 0 =
    rw (sym e.low_there) (omega (whole, from_zero, parts_neg low, parts_sum (negsuc 0) (neg_ℤ low))) in
    subst (λ (n : ℕ). Sought (Strays card axis bound) (elements card) n) (min-eq_left (le_refl (elements card)))
    (first_astray card admitted axis bound (elements card) (elements card) (none_over card admitted axis bound true up) (none_over card admitted axis bound false down))

-- on an axis other than m the first that strays from its length is the first that leaves
pub leaves_there : (numbers : List ℕ) (strides : List ℤ) → Admits numbers strides → (axis flat : ℕ) → axis < last_axis
    → Sought (Strays (card_of numbers strides) axis (get_or numbers (32 + axis) 0)) (elements (card_of numbers strides)) flat
    → Sought (λ f. Leaves (card_of numbers strides) f axis) (elements (card_of numbers strides)) flat
leaves_there numbers strides admits axis flat h s =
    strays_leaves (card_of numbers strides) axis (elements (card_of numbers strides)) flat h (rw (length_at numbers strides admits axis (omega arith)) s)

-- none leaves on the axes on which the far ends lie inside
pub none_leaves : {numbers : List ℕ} {strides low high : List ℤ} → Ended numbers strides low high → (axes : ℕ) → axes ≤ last_axis → BetweenTo axes low high numbers
    → (a : ℕ) → a < axes → Sought (λ f. Leaves (card_of numbers strides) f a) (elements (card_of numbers strides)) (elements (card_of numbers strides))
none_leaves {numbers} {strides} {low} {high} e axes few b a h =
    leaves_there numbers strides e.admits a _ (omega arith)
    (none_astray (ended_on e a (get_or numbers (32 + a) 0) (omega arith) (short_length e a (omega arith))) (b.from_zero a h) (b.below a h))
