-- A card whose far ends lie inside lies inside: every coordinate is from 0 to below its length, and on m the swizzle keeps the block of each address.
use Rattle.std.specs.Prelude.{Ok}
use mathlib.Core.Path.{◌≡◌, refl, sym, ◌∙◌}
use mathlib.Core.Bool.{Bool, true, false}
use Prim.Native.Nat.{ℕ, ◌+◌, ◌*◌, ◌/◌, ◌^◌, ◌≤◌, ◌<◌}
use native.Mathlib.Nat.{div-lt_iff_lt-mul, div-add-mod'}
use lib.Pow.{pow_pos}
use native.Mathlib.Decide.{ℕ_discrete}
use native.Mathlib.Omega.{arith}
use lib.IntN.{ℤ, pos, negsuc, ◌+ℤ◌}
use lib.ListN.{length, get_or, get_or-map}
use lib.Signed.{◌≤ℤ◌, ◌<ℤ◌}
use Rattle.answers.specs.Refusals.{no_refusal}
use Rattle.swizzle.specs.Swizzle.{swizzled}
use Rattle.swizzle.proofs.Laws.{swizzled_block}
use Rattle.card.specs.Limits.{last_axis}
use Rattle.card.specs.Card.{elements, copies}
use Rattle.card.specs.Admission.{admission}
use Rattle.card.specs.declared.Card.{Card}
use Rattle.card.proofs.Admitted.{checked, Numbered, numbered, fitting}
use Rattle.rules.specs.RowMajor.{inside, first_past, position}
use Rattle.rules.specs.Rules.{sum, swizzled_z, finished, on_axis, coordinates, spot}
use Rattle.rules.proofs.RowMajor.{first_past_lem}
use Rattle.rules.proofs.Theorems.{coordinate_at}
use Rattle.judgement.specs.Judgement.{LiesInside, AllInside}
use Rattle.outside_reach.specs.Ends.{end_sum, whole_blocks}
use Rattle.outside_reach.specs.Stays.{Stays}
use Rattle.laws.proofs.Parts.{parts_sum, whole}
use Rattle.outside_reach.proofs.Reach.{part_most, part_least}

-- the two parts of a sum further up, the sum further up
sum_le : (a b c d offset : ℤ) → a ≤ℤ c → b ≤ℤ d → (a +ℤ offset +ℤ b) ≤ℤ (c +ℤ offset +ℤ d)
sum_le a b c d offset s t = omega (whole, parts_sum a offset, parts_sum (a +ℤ offset) b, parts_sum c offset, parts_sum (c +ℤ offset) d)

module _ (card : Card) (admitted : admission card ≡ no_refusal) (f r : ℕ) (hf : f < elements card) (hr : r < copies card) (axis : ℕ) where
  fits : Numbered card
  fits = numbered card (checked card admitted).numbers

  sum_most : sum card f r axis ≤ℤ end_sum true card axis
  sum_most =
      sum_le _ _ _ _ (get_or card.offset axis (pos 0)) (part_most card.shard (fitting card.shard fits.shard).extents f axis hf)
      (part_most card.replica (fitting card.replica fits.replica).extents r axis hr)

  sum_least : end_sum false card axis ≤ℤ sum card f r axis
  sum_least =
      sum_le _ _ _ _ (get_or card.offset axis (pos 0)) (part_least card.shard (fitting card.shard fits.shard).extents f axis hf)
      (part_least card.replica (fitting card.replica fits.replica).extents r axis hr)

-- between 0 and a bound a sum is a coordinate below it
coordinate_below : (z : ℤ) (n : ℕ) → pos 0 ≤ℤ z → z <ℤ pos n → on_axis z < n
coordinate_below (pos m) n l h = omega whole
coordinate_below (negsuc m) n l h = absurd (omega whole)

-- and a swizzled one below whole blocks stays below them
pub blocks_kept : (M B S m length : ℕ) → m < whole_blocks length (2 ^ (M + B)) → swizzled M B S m < length
blocks_kept M B S m length h =
    let b = 2 ^ (M + B) in
    let some : 0 < b = pow_pos (M + B) in
    let within : m < length / b * b = omega (arith, h) in
    let quotient : m / b < length / b = (div-lt_iff_lt-mul {k = b} some).1 within in
    let same = swizzled_block M B S m in
    let below : swizzled M B S m < length / b * b = (div-lt_iff_lt-mul {k = b} some).0 (omega (arith, same)) in
    omega (arith, div-add-mod' length b)

-- where the length is whole blocks, only what lies below it is swizzled to below it
pub blocks_back : (M B S m length : ℕ) → whole_blocks length (2 ^ (M + B)) ≡ length → swizzled M B S m < length → m < length
blocks_back M B S m length same h =
    let b = 2 ^ (M + B) in
    let some : 0 < b = pow_pos (M + B) in
    let within : swizzled M B S m < length / b * b = omega (arith, h, same) in
    let quotient : swizzled M B S m / b < length / b = (div-lt_iff_lt-mul {k = b} some).1 within in
    let block = swizzled_block M B S m in
    let below : m < length / b * b = (div-lt_iff_lt-mul {k = b} some).0 (omega (arith, block)) in
    omega (arith, same)

swizzled_below : (M B S : ℕ) (z : ℤ) (length : ℕ) → pos 0 ≤ℤ z → z <ℤ pos (whole_blocks length (2 ^ (M + B)))
    → on_axis (swizzled_z (record { m = M; b = B; s = S }) z) < length
swizzled_below M B S (pos m) length l h = blocks_kept M B S m length (omega whole)
swizzled_below M B S (negsuc m) length l h = absurd (omega whole)

module _ (card : Card) (admitted : admission card ≡ no_refusal) (eight : length card.lengths ≡ 8) (stays : Stays card) (f r : ℕ) (hf : f < elements card)
    (hr : r < copies card) where
  axis_below : (axis : ℕ) → axis < 8 → get_or (coordinates card f r) axis 0 < get_or card.lengths axis 0
  unfolding coordinates
  axis_below axis h =
      rw (get_or-map on_axis (finished card f r) axis (pos 0))
      (elim (ℕ_discrete axis last_axis) [
        | yes m ↦
            rw m
            (swizzled_below card.swizzle.m card.swizzle.b card.swizzle.s (sum card f r last_axis) (get_or card.lengths last_axis 0)
            (omega (whole, stays.low last_axis (omega arith), sum_least card admitted f r hf hr last_axis))
            (omega (whole, stays.m_high, sum_most card admitted f r hf hr last_axis)))
        | no other ↦
            rw (coordinate_at card f r axis (omega arith))
            (coordinate_below (sum card f r axis) (get_or card.lengths axis 0)
            (omega (whole, stays.low axis h, sum_least card admitted f r hf hr axis))
            (omega (whole, stays.high axis (omega arith), sum_most card admitted f r hf hr axis)))
      ])

  all_eight : length (coordinates card f r) ≡ 8
  unfolding coordinates
  all_eight = refl

  pub lies_inside : LiesInside (spot card f r)
  unfolding spot position
  lies_inside = by (inside card.lengths (coordinates card f r)) refl
    where
      by : (b : Bool) → inside card.lengths (coordinates card f r) ≡ b → LiesInside (spot card f r)
      by true e = rw e tt
      by false e =
          let k = first_past card.lengths (coordinates card f r) in
          let past = first_past_lem card.lengths (coordinates card f r) (all_eight ∙ sym eight) e in
          absurd (omega (arith, past.past, axis_below k (omega (arith, past.a_place))))

pub stays_inside : (card : Card) → admission card ≡ no_refusal → length card.lengths ≡ 8 → Stays card → AllInside card
stays_inside card admitted eight stays f r hf hr = lies_inside card admitted eight stays f r hf hr
