-- The canonical layouts for C: a card as its 57 numbers, in the order of docs/PROTOCOL.md, and what is promised of the verdict on one.
use Rattle.std.specs.Prelude.{ℕ, ◌≡◌, List, [], ◌∷◌, ◌++◌, map, get_or}
use Rattle.card.specs.declared.Card.{Card}
use Rattle.canonical.specs.Canonical.{CanonicalPromise, reported_numbers}
use Rattle.canonical.specs.declared.Canonical.{Canonical}
use Rattle.canonical.specs.declared.Reported.{Reported}
use Rattle.c_card.specs.Card.{eight, four}
use Rattle.c_layout.specs.Layout.{iter_numbers, offsets_of}

-- the shard count and eight iters, the replica count and four iters, the offsets, the lengths, M, B, S; marks are not among them
abbrev pub card_numbers : Card → List ℕ
card_numbers card =
    (card.shard.count ∷ iter_numbers card.shard eight)
    ++ ((card.replica.count ∷ iter_numbers card.replica (0 ∷ 1 ∷ 2 ∷ 3 ∷ []))
    ++ (offsets_of card.offset ++ (map (λ k. get_or card.lengths k 0) eight ++ (card.swizzle.m ∷ card.swizzle.b ∷ card.swizzle.s ∷ []))))

pub record AsCanonical (asked : Canonical) (before after encodings answer : List ℕ) : Type 0 where
  pub reported : Reported
  pub allowed : CanonicalPromise asked before after reported
  pub encoded : encodings ≡ reported.lbo ∷ reported.sbo ∷ []
  pub numbers : answer ≡ four (reported_numbers reported)
