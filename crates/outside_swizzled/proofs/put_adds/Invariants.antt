-- What the offset and each combination passed add to m is written.
use Rattle.std.proofs.Common.{◌≡◌, ◌<◌, ℕ, get_or}
use lib.IntN.{pos}
use Rattle.card.specs.Packed.{card_of}
use Rattle.outside_swizzled.specs.Doubt.{m_adds}
use Rattle.outside_swizzled.proofs.put_adds.Given as goal

abbrev pub invariant-loop-r : goal.invariant-loop-r
invariant-loop-r l = (j : ℕ) → j < l.r → get_or l.adds j (pos 0) ≡ m_adds (card_of l.numbers l.strides) j
