-- A packed card that is admitted has what the functions inside ask for: its lists can be walked, and with its base an element's copies can be placed.
use mathlib.Core.Path.{◌≡◌}
use mathlib.Core.Bool.{true, and-eq-true_iff}
use mathlib.Core.List.{List}
use Prim.Native.Nat.{ℕ, ◌≤◌, ◌<◌}
use native.Mathlib.Decide.{dec_lt}
use native.Mathlib.Omega.{arith}
use lib.IntN.{ℤ, pos, nat_abs}
use lib.ListN.{length, get_or, get_or-eq_default}
use lib.Seq.{slice, length-slice}
use Rattle.laws.proofs.Signed.{sum_far}
use Rattle.card.specs.Lists.{within_z}
use Rattle.card.specs.Limits.{least_stride, most_stride}
use Rattle.card.specs.Packed.{farthest, card_of, Admits}
use Rattle.card.specs.Admission.{iters_on_axes}
use Rattle.card.specs.declared.Card.{Card}
use Rattle.card.proofs.Lists.{all_at, stride_far}
use Rattle.card.proofs.Listed.{shard_list, replica_list}
use Rattle.card.proofs.Admitted.{Checked, checked, Numbered, numbered}
use Rattle.rules.specs.Rules.{part}
use Rattle.rules.specs.Walked.{walked}
use Rattle.rules.proofs.Base.{walked_at, walked_eight}
use Rattle.copies_sums.specs.Walks.{roomy, Walkable, Sums}
use Rattle.copies.specs.Clauses.{Ready}
use Rattle.copies_sums.proofs.Turn.{along_room}

-- a list of eight has a bound if it has it on each axis
pub eight_small : (l : List ℤ) (most : ℕ) → length l ≡ 8 → ((axis : ℕ) → axis < 8 → nat_abs (get_or l axis (pos 0)) ≤ most) → (axis : ℕ) → nat_abs (get_or l axis (pos 0)) ≤ most
eight_small l most h at axis =
    elim (dec_lt axis 8) [
      | yes below ↦ at axis below
      | no above ↦ rw (get_or-eq_default l (pos 0) {n = axis} (omega arith)) (omega arith)
    ]

module _ (numbers : List ℕ) (strides : List ℤ) (a : Admits numbers strides) where
  abbrev card : Card
  card = card_of numbers strides

  passed : Checked card
  passed = checked card a.admitted

  on_the_axes : (iters_on_axes card.shard ≡ true) × (iters_on_axes card.replica ≡ true)
  on_the_axes = (and-eq-true_iff (iters_on_axes card.shard) (iters_on_axes card.replica)).0 passed.axes

  fit : Numbered card
  fit = numbered card passed.numbers

  pub walkable_shard : Walkable numbers strides 0
  walkable_shard = record { of = shard_list numbers strides passed.counts; fit = fit.shard; on_axes = on_the_axes.0 }

  pub walkable_replica : Walkable numbers strides 1
  walkable_replica = record { of = replica_list numbers strides passed.counts; fit = fit.replica; on_axes = on_the_axes.1 }

  eight : length card.offset ≡ 8
  eight = length-slice 16 24 strides (omega (arith, a.whole.all_strides))

  offset_at : (axis : ℕ) → axis < 8 → nat_abs (get_or card.offset axis (pos 0)) ≤ farthest
  offset_at axis h =
      stride_far (get_or card.offset axis (pos 0))
      (all_at (within_z least_stride most_stride) card.offset axis (pos 0) fit.offset (omega (arith, eight)))

  pub offset_sums : Sums card.offset
  offset_sums = record {
    eight = eight;
    small = eight_small card.offset roomy eight (λ axis h. let s = offset_at axis h in omega arith);
  }

  pub base_sums : (flat : ℕ) → Sums (walked card.shard flat card.offset)
  base_sums flat = record {
    eight = walked_eight card.shard flat card.offset;
    small =
        eight_small (walked card.shard flat card.offset) roomy (walked_eight card.shard flat card.offset)
        (λ axis h.
        rw (walked_at card.shard flat card.offset axis h)
        (omega (arith, sum_far (get_or card.offset axis (pos 0)) (part card.shard flat axis), offset_at axis h, along_room numbers strides 0 walkable_shard 0 flat axis)));
  }

  -- with its base an element's copies can be placed
  pub ready : (flat : ℕ) → Ready (walked card.shard flat card.offset) numbers strides
  ready flat = record { sums = base_sums flat; iters = walkable_replica; space = passed.space; swizzles = passed.swizzle }
