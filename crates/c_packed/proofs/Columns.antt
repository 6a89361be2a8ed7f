-- The columns of a card packed from 57 numbers: what is written to each slot is what the card has there, so the card can be read back.
use mathlib.Core.Path.{◌≡◌, refl, sym, ap, ◌∙◌}
use mathlib.Core.Bool.{cond}
use mathlib.Core.List.{List}
use Prim.Native.Nat.{ℕ, zero, suc, ◌+◌, ◌*◌, ◌<◌}
use native.Mathlib.Omega.{arith}
use lib.Dec.{ltb}
use lib.IntN.{ℤ, pos}
use lib.ListN.{get_or}
use Rattle.laws.proofs.Columns.{Filled}
use Rattle.descriptor.specs.Descriptor.{yes}
use Rattle.card.specs.Card.{mark_number, extent_of, stride_of, axis_of, none}
use Rattle.card.specs.Packed.{last_column, Packs}
use Rattle.card.specs.declared.Iter.{Iter}
use Rattle.card.specs.declared.Card.{Card}
use Rattle.card.proofs.ReadBack.{eight_at, number_at, stride_at, OfEight, packs}
use Rattle.c_card.specs.Card.{signed64, card_from}

module _ (v : List ℕ) (bits : ℕ) where
  abbrev card : Card
  card = card_from v bits

  -- what is written
  abbrev pub slot : ℕ → ℕ → ℕ
  slot at j = cond (ltb j 4) (get_or v (at + 3 * j) 0) 0

  abbrev pub number_from : List ℕ → ℕ → ℕ → ℕ
  number_from last zero j = get_or v (1 + 3 * j) 0
  number_from last (suc zero) j = get_or v (3 + 3 * j) 0
  number_from last (suc (suc zero)) j = slot 26 j
  number_from last (suc (suc (suc zero))) j = slot 28 j
  number_from last (suc (suc (suc (suc zero)))) j = get_or v (46 + j) 0
  number_from last (suc (suc (suc (suc (suc zero))))) j = get_or last j 0
  number_from last (suc (suc (suc (suc (suc (suc c)))))) j = mark_number (yes j bits)

  abbrev pub stride_from : ℕ → ℕ → ℤ
  stride_from zero j = signed64 (get_or v (2 + 3 * j) 0)
  stride_from (suc zero) j = signed64 (slot 27 j)
  stride_from (suc (suc c)) j = signed64 (get_or v (38 + j) 0)

  -- is what the card has
  abbrev of_shard : ℕ → Iter
  of_shard j = record { extent = get_or v (1 + 3 * j) 0; stride = signed64 (get_or v (2 + 3 * j) 0); axis = get_or v (3 + 3 * j) 0 }

  abbrev of_replica : ℕ → Iter
  of_replica j = record { extent = slot 26 j; stride = signed64 (slot 27 j); axis = slot 28 j }

  shard_at : (j : ℕ) → j < 8 → get_or card.shard.at j none ≡ of_shard j
  shard_at j h = eight_at of_shard none j h

  replica_at : (j : ℕ) → j < 8 → get_or card.replica.at j none ≡ of_replica j
  replica_at j h = eight_at of_replica none j h

  number_same : (last : List ℕ) (c j : ℕ) → j < 8 → number_from last c j ≡ number_at card.shard.at card.replica.at card.lengths last card.marks c j
  number_same last zero j h = sym (ap extent_of (shard_at j h))
  number_same last (suc zero) j h = sym (ap axis_of (shard_at j h))
  number_same last (suc (suc zero)) j h = sym (ap extent_of (replica_at j h))
  number_same last (suc (suc (suc zero))) j h = sym (ap axis_of (replica_at j h))
  number_same last (suc (suc (suc (suc zero)))) j h = sym (eight_at (λ k. get_or v (46 + k) 0) 0 j h)
  number_same last (suc (suc (suc (suc (suc zero))))) j h = refl
  number_same last (suc (suc (suc (suc (suc (suc c)))))) j h = sym (ap mark_number (eight_at (λ k. yes k bits) _ j h))

  stride_same : (c j : ℕ) → j < 8 → stride_from c j ≡ stride_at card.shard.at card.replica.at card.offset c j
  stride_same zero j h = sym (ap stride_of (shard_at j h))
  stride_same (suc zero) j h = sym (ap stride_of (replica_at j h))
  stride_same (suc (suc c)) j h = sym (eight_at (λ k. signed64 (get_or v (38 + k) 0)) (pos 0) j h)

  eights : OfEight card
  eights = record { shard = refl; marks = refl; replica = refl; offset = refl; lengths = refl }

  pub packs_from : {numbers : List ℕ} {strides : List ℤ} → Filled 0 (number_from (last_column card)) 7 8 numbers → Filled (pos 0) stride_from 3 8 strides → Packs card numbers strides
  packs_from f g =
      packs card eights
      (record { whole = f.whole; so_far = λ c j below h. f.so_far c j below h ∙ number_same (last_column card) c j h })
      (record { whole = g.whole; so_far = λ c j below h. g.so_far c j below h ∙ stride_same c j h })
