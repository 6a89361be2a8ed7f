-- The far ends of a packed card lie within a signed word, and so do their distances from a bound.
use mathlib.Core.Path.{◌≡◌, refl}
use mathlib.Core.List.{List}
use Prim.Native.Nat.{ℕ, zero, suc, ◌+◌, ◌*◌, ◌≤◌}
use native.Mathlib.Omega.{arith}
use lib.Dec.{T}
use lib.IntN.{ℤ, pos, negsuc, neg_ℤ, nat_abs, ◌+ℤ◌, ◌-ℤ◌}
use lib.ListN.{get_or}
use lib.Signed.{non_neg}
use Rattle.laws.proofs.Signed.{sum_far}
use Rattle.card.specs.Packed.{card_of, Admits}
use Rattle.rules.specs.Rules.{part, sum}
use Rattle.copies_sums.specs.Walks.{roomy}
use Rattle.copies_sums.proofs.Turn.{along_room}
use Rattle.copies.proofs.Cards.{walkable_shard, walkable_replica, offset_sums}

-- a natural number is its own distance from zero
pub natural_is : (z : ℤ) → T (non_neg z) → z ≡ pos (nat_abs z)
natural_is (pos n) t = refl
natural_is (negsuc n) t = absurd t

-- a difference is no further from zero than its two numbers together
turned : (z : ℤ) → nat_abs (neg_ℤ z) ≡ nat_abs z
turned (pos zero) = refl
turned (pos (suc n)) = refl
turned (negsuc n) = refl

pub difference_far : (x y : ℤ) → nat_abs (x -ℤ y) ≤ nat_abs x + nat_abs y
difference_far x y = omega (arith, sum_far x (neg_ℤ y), turned y)

-- no sum of a card is far from zero
pub sum_near : (numbers : List ℕ) (strides : List ℤ) → Admits numbers strides → (flat combination axis : ℕ)
    → nat_abs (sum (card_of numbers strides) flat combination axis) ≤ 2 * roomy
sum_near numbers strides a flat combination axis =
    let card = card_of numbers strides in
    let shard = part card.shard flat axis in
    let offset = get_or card.offset axis (pos 0) in
    let replica = part card.replica combination axis in
    omega (
      arith,
      sum_far shard offset,
      sum_far (shard +ℤ offset) replica,
      along_room numbers strides 0 (walkable_shard numbers strides a) 0 flat axis,
      along_room numbers strides 1 (walkable_replica numbers strides a) 0 combination axis,
      (offset_sums numbers strides a).small axis,
    )
