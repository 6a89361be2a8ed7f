-- The smallest number of an element and an axis is what judgement asks for: a copy lies outside on the smallest axis that it leaves, and one that leaves
-- lies outside.
use mathlib.Core.Path.{◌≡◌, refl, sym, ap, ◌∙◌, subst}
use mathlib.Core.Bool.{true}
use Prim.Native.Nat.{ℕ, ◌+◌, ◌*◌, ◌/◌, ◌%◌, ◌^◌, ◌≤◌, ◌<◌, min}
use native.Mathlib.Nat.{min-eq_left, min-eq_right}
use native.Mathlib.Decide.{dec_le, dec_lt, ℕ_discrete}
use native.Mathlib.Omega.{arith}
use lib.IntN.{ℤ, pos, negsuc}
use lib.ListN.{length, get_or}
use Rattle.laws.proofs.Parts.{whole}
use Rattle.card.specs.Limits.{last_axis}
use Rattle.card.specs.Card.{elements, copies}
use Rattle.card.specs.Admission.{space_fits}
use Rattle.card.specs.declared.Card.{Card}
use Rattle.rules.specs.Rules.{sum, swizzled_z, spot}
use Rattle.rules.specs.declared.Spot.{Spot}
use Rattle.rules.specs.declared.Spot.TheVariants.{Inside, Outside}
use Rattle.rules.proofs.Theorems.{coordinate_at}
use Rattle.rules.proofs.Whole.{Lies, on_every_axis, off_smallest_axis}
use Rattle.rules_linear.specs.Leaving.{Sought, Leaves}
use Rattle.rules_linear.proofs.Leaving.{sought_alike}
use Rattle.judgement.specs.Judgement.{LiesInside, AllInside, FirstOutside}
use Rattle.outside_reach.specs.Ends.{whole_blocks}
use Rattle.outside_reach.proofs.Inside.{blocks_kept, blocks_back}
use Rattle.outside_axis.specs.Straying.{Strays}
use Rattle.outside.specs.Outside.{FirstWord}

-- on an axis other than m an element leaves exactly where it strays from the length
pub strays_leaves : (card : Card) (axis n i : ℕ) → axis < last_axis → Sought (Strays card axis (get_or card.lengths axis 0)) n i → Sought (λ f. Leaves card f axis) n i
strays_leaves card axis n i h =
    sought_alike
    (λ f k s. record { combination = s.combination; copy = s.copy; off = rw (coordinate_at card f s.combination axis h) s.off })
    (λ f k l. record { combination = l.combination; copy = l.copy; off = rw (sym (coordinate_at card f l.combination axis h)) l.off })

-- on m it strays from the whole blocks of the length, if it leaves
kept : (M B S length : ℕ) (z : ℤ) → Lies (whole_blocks length (2 ^ (M + B))) z → Lies length (swizzled_z (record { m = M; b = B; s = S }) z)
kept M B S length (pos m) l = let below = blocks_kept M B S m length (omega (whole, l.1)) in (omega whole, omega (whole, below))
kept M B S length (negsuc m) l = absurd (omega (whole, l.0))

pub leaves_strays : (card : Card) (f : ℕ) → Leaves card f last_axis → Strays card last_axis (whole_blocks (get_or card.lengths last_axis 0) (2 ^ (card.swizzle.m + card.swizzle.b))) f
leaves_strays card f l = record {
  combination = l.combination;
  copy = l.copy;
  off = λ h. l.off (kept card.swizzle.m card.swizzle.b card.swizzle.s (get_or card.lengths last_axis 0) (sum card f l.combination last_axis) h);
}

-- and where the length is whole blocks it leaves exactly where it strays from the length
kept_back : (M B S length : ℕ) (z : ℤ) → whole_blocks length (2 ^ (M + B)) ≡ length → Lies length (swizzled_z (record { m = M; b = B; s = S }) z) → Lies length z
kept_back M B S length (pos m) same l = let below = blocks_back M B S m length same (omega (whole, l.1)) in (omega whole, omega (whole, below))
kept_back M B S length (negsuc m) same l = absurd (omega (whole, l.0))

pub strays_leaves_m : (card : Card) (n i : ℕ) → let length = get_or card.lengths last_axis 0 in whole_blocks length (2 ^ (card.swizzle.m + card.swizzle.b)) ≡ length
    → Sought (Strays card last_axis length) n i → Sought (λ f. Leaves card f last_axis) n i
strays_leaves_m card n i same =
    let length = get_or card.lengths last_axis 0 in
    sought_alike
    (λ f k s. record {
      combination = s.combination;
      copy = s.copy;
      off = λ h. s.off (kept_back card.swizzle.m card.swizzle.b card.swizzle.s length (sum card f s.combination last_axis) same h);
    })
    (λ f k l. subst (λ (bound : ℕ). Strays card last_axis bound f) same (leaves_strays card f l))

-- none on the axes so far, one more, and m, which is looked at only before the first element so far
pub no_word : (card : Card) (axes : ℕ) → ((a : ℕ) → a < axes → Sought (λ f. Leaves card f a) (elements card) (elements card)) → FirstWord card axes (8 * elements card)
no_word card axes none = record { most = omega arith; leaves = λ h. absurd (omega arith); least = λ f a h k l. omega (arith, (none a k).least f h l) }

module _ (card : Card) (word flat : ℕ) where
  smaller_leaves : (axis : ℕ) → axis < 8 → FirstWord card axis word → (8 * flat + axis < word → Leaves card flat axis) → min word (8 * flat + axis) < 8 * elements card
      → Leaves card (min word (8 * flat + axis) / 8) (min word (8 * flat + axis) % 8)
  smaller_leaves axis h w there below =
      elim (dec_le word (8 * flat + axis)) [
        | yes k ↦ rw (min-eq_left k) (w.leaves (omega (arith, min-eq_left k)))
        | no k ↦
            let less : 8 * flat + axis ≤ word = omega arith in
            let flat_is : (8 * flat + axis) / 8 ≡ flat = omega arith in
            let axis_is : (8 * flat + axis) % 8 ≡ axis = omega arith in
            rw (min-eq_right less, flat_is, axis_is) (there (omega arith))
      ]

  pub word_more : (axis : ℕ) → axis < 8 → FirstWord card axis word → Sought (λ f. Leaves card f axis) (elements card) flat → FirstWord card (axis + 1) (min word (8 * flat + axis))
  word_more axis h w s = record {
    most = omega (arith, w.most);
    leaves = smaller_leaves axis h w (λ k. s.holds (omega (arith, w.most)));
    least = λ f a hf ha l.
        elim (ℕ_discrete a axis) [
          | yes e ↦ let here = s.least f hf (rw (sym e) l) in omega (arith, e)
          | no e ↦ omega (arith, w.least f a hf (omega arith) l)
        ];
  }

  pub word_m : FirstWord card last_axis word → Sought (λ f. Leaves card f last_axis) (word / 8) flat → FirstWord card 8 (min word (8 * flat + last_axis))
  word_m w s = record {
    most = omega (arith, w.most);
    leaves = smaller_leaves last_axis (omega arith) w (λ k. s.holds (omega arith));
    least = λ f a hf ha l.
        elim (ℕ_discrete a last_axis) [
          | yes e ↦
              elim (dec_lt f (word / 8)) [
                | yes early ↦ let here = s.least f early (rw (sym e) l) in omega (arith, e)
                | no late ↦ omega (arith, e)
              ]
          | no e ↦ omega (arith, w.least f a hf (omega arith) l)
        ];
  }

-- what such a number says
module _ (card : Card) (eight : length card.lengths ≡ 8) (fits : space_fits card.lengths ≡ true) where
  outside_leaves : (f r a : ℕ) → r < copies card → spot card f r ≡ Outside a → (a < 8) × Leaves card f a
  outside_leaves f r a h e =
      let o = off_smallest_axis card eight fits f r a e in (o.an_axis, record { combination = r; copy = h; off = o.off })

  -- one that leaves on an axis lies outside, on that or a smaller one
  leaves_outside : (f a : ℕ) → a < 8 → (l : Leaves card f a) → (b : ℕ) × (b ≤ a) × (spot card f l.combination ≡ Outside b)
  leaves_outside f a h l = by (spot card f l.combination) refl
    where
      by : (p : Spot) → spot card f l.combination ≡ p → (b : ℕ) × (b ≤ a) × (p ≡ Outside b)
      by (Inside cell) e = absurd (l.off (on_every_axis card eight fits f l.combination cell e a h))
      by (Outside b) e =
          let o = off_smallest_axis card eight fits f l.combination b e in
          (b, elim (dec_le b a) [ yes k ↦ k | no k ↦ absurd (l.off (o.on_smaller a (omega arith))) ], refl)

  pub word_first : (word : ℕ) → FirstWord card 8 word → word < 8 * elements card → FirstOutside card (word / 8) (word % 8)
  word_first word w h =
      let l = w.leaves h in
      let f = word / 8 in
      let element : f < elements card = omega arith in
      let o = leaves_outside f (word % 8) (omega arith) l in
      let there = outside_leaves f l.combination o.0 l.copy o.2 in
      let same : o.0 ≡ word % 8 = omega (arith, o.1, w.least f o.0 element there.0 there.1) in
      record {
        element = element;
        combination = l.combination;
        copy = l.copy;
        outside = o.2 ∙ ap Outside same;
        smallest_axis = λ r other hr e. let p = outside_leaves f r other hr e in omega (arith, p.0, w.least f other element p.0 p.1);
        smallest_flat = λ g r other hg hr e. let p = outside_leaves g r other hr e in omega (arith, p.0, w.least g other hg p.0 p.1);
      }

  pub word_none : (word : ℕ) → FirstWord card 8 word → 8 * elements card ≤ word → AllInside card
  word_none word w h f r hf hr = by (spot card f r) refl
    where
      by : (p : Spot) → spot card f r ≡ p → LiesInside p
      by (Inside cell) e = tt
      by (Outside a) e = let p = outside_leaves f r a hr e in absurd (omega (arith, p.0, w.least f a hf p.0 p.1))
