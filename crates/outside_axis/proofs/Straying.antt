-- The first element that strays from a bound: its copy furthest up, or down, is the one at the replica's far end, so it strays exactly where it is near
-- enough to the shard's far end.
use Rattle.std.specs.Prelude.{Ok}
use mathlib.Core.Path.{◌≡◌, refl}
use mathlib.Core.Bool.{Bool, true, false}
use mathlib.Core.List.{map}
use Prim.Native.Nat.{ℕ, ◌+◌, ◌-◌, ◌≤◌, ◌<◌, min}
use native.Mathlib.Nat.{min-eq_left, min-eq_right}
use native.Mathlib.Decide.{dec_le}
use native.Mathlib.Omega.{arith}
use lib.IntN.{ℤ, pos, negsuc, neg_ℤ, ◌+ℤ◌}
use lib.ListN.{get_or}
use lib.Signed.{◌≤ℤ◌, ◌<ℤ◌, le_z, lt_z}
use Rattle.answers.specs.Refusals.{no_refusal}
use Rattle.laws.proofs.Parts.{whole, parts_sum, parts_neg, le_z_true, le_z_false, lt_z_true, lt_z_false}
use Rattle.card.specs.Card.{listed, extent_of, elements, copies}
use Rattle.card.specs.Admission.{admission}
use Rattle.card.specs.declared.Card.{Card}
use Rattle.card.proofs.Admitted.{checked, Numbered, numbered, Fitting, fitting, Sized, sized}
use Rattle.rules.specs.Rules.{part, sum}
use Rattle.rules.specs.RowMajor.{components}
use Rattle.rules.proofs.RowMajor.{row_major_below}
use Rattle.rules_linear.specs.Reaching.{missing, first_index}
use Rattle.rules_linear.proofs.Reaching.{index_below, index_near, index_least}
use Rattle.outside_reach.specs.Ends.{ends, end_index}
use Rattle.outside_reach.proofs.Reach.{part_most, part_least, ends_inside}
use Rattle.rules_linear.specs.Leaving.{Sought}
use Rattle.outside_axis.specs.Straying.{Strays, Reaches, beyond_end}
use Rattle.outside_axis.proofs.Ends.{Apart, part_apart}

module _ (card : Card) (admitted : admission card ≡ no_refusal) (axis bound : ℕ) where
  fits : Numbered card
  fits = numbered card (checked card admitted).numbers

  shard_fits : Fitting card.shard
  shard_fits = fitting card.shard fits.shard

  replica_fits : Fitting card.replica
  replica_fits = fitting card.replica fits.replica

  sizes : Sized card
  sizes = sized card admitted

  -- how far an element leaves the axis from the shard's far end
  abbrev short : Bool → ℕ → ℕ
  short upwards flat = missing upwards axis (listed card.shard) (components (map extent_of (listed card.shard)) flat)

  abbrev offset : ℤ
  offset = get_or card.offset axis (pos 0)

  abbrev last : Bool → ℤ
  last upwards = part card.replica (end_index upwards card.replica) axis

  -- it reaches the bound exactly where that is no more than the far end lies beyond it
  module _ (flat : ℕ) where
    abbrev here : ℤ
    here = part card.shard flat axis

    abbrev far : Bool → ℤ
    far upwards = part card.shard (end_index upwards card.shard) axis

    apart : (upwards : Bool) → Apart upwards (far upwards) here (short upwards flat)
    apart upwards = part_apart upwards card.shard shard_fits.extents axis flat sizes.some_elements

    near : (upwards : Bool) → pos (short upwards flat) ≤ℤ beyond_end upwards card axis bound → Reaches upwards card axis bound flat
    near true h =
        omega (whole, apart true, parts_sum here (pos (short true flat)), parts_sum here offset, parts_sum (here +ℤ offset) (last true), parts_sum (far true) offset, parts_sum (far true +ℤ offset) (last true), parts_neg (pos bound), parts_sum (far true +ℤ offset +ℤ last true) (neg_ℤ (pos bound)))
    near false h =
        omega (whole, apart false, parts_sum (far false) (pos (short false flat)), parts_sum here offset, parts_sum (here +ℤ offset) (last false), parts_sum (far false) offset, parts_sum (far false +ℤ offset) (last false), parts_neg (far false +ℤ offset +ℤ last false), parts_sum (negsuc 0) (neg_ℤ (far false +ℤ offset +ℤ last false)))

    reach : (upwards : Bool) → Reaches upwards card axis bound flat → pos (short upwards flat) ≤ℤ beyond_end upwards card axis bound
    reach true h =
        omega (whole, h, apart true, parts_sum here (pos (short true flat)), parts_sum here offset, parts_sum (here +ℤ offset) (last true), parts_sum (far true) offset, parts_sum (far true +ℤ offset) (last true), parts_neg (pos bound), parts_sum (far true +ℤ offset +ℤ last true) (neg_ℤ (pos bound)))
    reach false h =
        omega (whole, h, apart false, parts_sum (far false) (pos (short false flat)), parts_sum here offset, parts_sum (here +ℤ offset) (last false), parts_sum (far false) offset, parts_sum (far false +ℤ offset) (last false), parts_neg (far false +ℤ offset +ℤ last false), parts_sum (negsuc 0) (neg_ℤ (far false +ℤ offset +ℤ last false)))

  pub none_over : (upwards : Bool) → beyond_end upwards card axis bound <ℤ pos 0 → Sought (Reaches upwards card axis bound) (elements card) (elements card)
  none_over upwards h = record {
    most = omega arith;
    holds = λ k. absurd (omega arith);
    least = λ j k r. absurd (omega (whole, reach j upwards r));
  }

  pub first_over : (upwards : Bool) (spare : ℕ) → beyond_end upwards card axis bound ≡ pos spare
      → Sought (Reaches upwards card axis bound) (elements card) (first_index upwards axis spare card.shard)
  first_over upwards spare e =
      let some = sizes.some_elements in
      record {
        most = omega (arith, index_below upwards axis spare card.shard some);
        holds = λ h. near (first_index upwards axis spare card.shard) upwards (rw e (let n = index_near upwards axis spare card.shard some in omega (whole, n)));
        least = λ j h r. index_least upwards axis spare card.shard some j h (let n = rw e at (reach j upwards r) in omega (whole, n));
      }

  -- what one copy does, the one at the replica's far end does
  module _ (flat combination : ℕ) (copy : combination < copies card) where
    up_most : sum card flat combination axis ≤ℤ sum card flat (end_index true card.replica) axis
    up_most =
        let most = part_most card.replica replica_fits.extents combination axis copy in
        let base = part card.shard flat axis +ℤ offset in
        omega (whole, most, parts_sum base (part card.replica combination axis), parts_sum base (last true))

    down_most : sum card flat (end_index false card.replica) axis ≤ℤ sum card flat combination axis
    down_most =
        let least = part_least card.replica replica_fits.extents combination axis copy in
        let base = part card.shard flat axis +ℤ offset in
        omega (whole, least, parts_sum base (part card.replica combination axis), parts_sum base (last false))

  end_copy : (upwards : Bool) → end_index upwards card.replica < copies card
  end_copy upwards =
      row_major_below (map extent_of (listed card.replica)) (ends upwards (listed card.replica)) (ends_inside upwards (listed card.replica) replica_fits.extents)

  strays : (upwards : Bool) (flat : ℕ) → Reaches upwards card axis bound flat → Strays card axis bound flat
  strays true flat h = record { combination = end_index true card.replica; copy = end_copy true; off = λ l. absurd (omega (whole, h, l.1)) }
  strays false flat h = record { combination = end_index false card.replica; copy = end_copy false; off = λ l. absurd (omega (whole, h, l.0)) }

  -- the first of the two ways is the first that strays
  pub first_astray : (i j : ℕ) → Sought (Reaches true card axis bound) (elements card) i → Sought (Reaches false card axis bound) (elements card) j
      → Sought (Strays card axis bound) (elements card) (min i j)
  first_astray i j a b = record {
    most = omega (arith, a.most);
    holds = λ h. side (dec_le i j) h;
    least = λ k h s. by k h s (le_z (pos bound) (highest k)) refl (lt_z (lowest k) (pos 0)) refl;
  }
    where
      highest : ℕ → ℤ
      highest k = sum card k (end_index true card.replica) axis

      lowest : ℕ → ℤ
      lowest k = sum card k (end_index false card.replica) axis

      side : Dec (i ≤ j) → min i j < elements card → Strays card axis bound (min i j)
      side (yes k) h = rw (min-eq_left k) (strays true i (a.holds (omega arith)))
      side (no k) h = let l : j ≤ i = omega arith in rw (min-eq_right l) (strays false j (b.holds (omega arith)))

      by : (k : ℕ) → k < elements card → Strays card axis bound k → (t : Bool) → le_z (pos bound) (highest k) ≡ t → (u : Bool) → lt_z (lowest k) (pos 0) ≡ u → min i j ≤ k
      by k h s true e u d = omega (arith, a.least k h (le_z_true (pos bound) (highest k) e))
      by k h s false e true d = omega (arith, b.least k h (lt_z_true (lowest k) (pos 0) d))
      by k h s false e false d =
          let low = lt_z_false (lowest k) (pos 0) d in
          let high = le_z_false (pos bound) (highest k) e in
          let below = up_most k s.combination s.copy in
          let above = down_most k s.combination s.copy in
          absurd (s.off (omega (whole, low, above), omega (whole, high, below)))
