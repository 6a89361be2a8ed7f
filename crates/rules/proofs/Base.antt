-- A copy from the base of its element is the copy of the card: offset and shard first, the replica after them.
use mathlib.Core.Path.{◌≡◌, refl, ap, ◌∙◌, fun_ext}
use mathlib.Core.List.{List, map}
use Prim.Native.Nat.{ℕ, ◌<◌}
use lib.IntN.{ℤ, pos, ◌+ℤ◌, +ℤ_comm}
use lib.ListN.{length, get_or}
use Rattle.card.specs.declared.Iters.{Iters}
use Rattle.card.specs.declared.Card.{Card}
use Rattle.card.proofs.ReadBack.{eight_at, eight_slots}
use Rattle.rules.specs.Rules.{axes, part, sum, coordinates, spot}
use Rattle.rules.specs.Walked.{walked, spot_from, PlacedRow}

-- what a walk leaves on an axis
pub walked_at : (iters : Iters) (index : ℕ) (sums : List ℤ) (i : ℕ) → i < 8 → get_or (walked iters index sums) i (pos 0) ≡ get_or sums i (pos 0) +ℤ part iters index i
unfolding walked
walked_at iters index sums i h = eight_at (λ axis. get_or sums axis (pos 0) +ℤ part iters index axis) (pos 0) i h

pub walked_eight : (iters : Iters) (index : ℕ) (sums : List ℤ) → length (walked iters index sums) ≡ 8
unfolding walked
walked_eight iters index sums = refl

-- offset and shard first, the replica after them: the sums of the rules
sums_of : (card : Card) (flat combination : ℕ)
    → walked card.replica combination (walked card.shard flat card.offset) ≡ map (sum card flat combination) axes
sums_of card flat combination =
    eight_slots (sum card flat combination) (pos 0) _ (walked_eight card.replica combination (walked card.shard flat card.offset))
    (λ i h.
    walked_at card.replica combination (walked card.shard flat card.offset) i h
    ∙ ap (λ (z : ℤ). z +ℤ part card.replica combination i)
    (walked_at card.shard flat card.offset i h ∙ +ℤ_comm (get_or card.offset i (pos 0)) (part card.shard flat i)))

pub spot_from_base : (card : Card) (flat combination : ℕ)
    → spot_from card.lengths card.swizzle card.replica (walked card.shard flat card.offset) combination ≡ spot card flat combination
unfolding spot coordinates
spot_from_base card flat combination = rw (sums_of card flat combination)

-- a row of the same copies, said of the card
pub row_of_card : (card : Card) (flat : ℕ) {before after : List ℕ} {outside : ℕ}
    → PlacedRow (spot_from card.lengths card.swizzle card.replica (walked card.shard flat card.offset)) before after outside
    → PlacedRow (spot card flat) before after outside
row_of_card card flat = rw (fun_ext (λ combination. spot_from_base card flat combination)) (λ r. r)
