-- Where each part of a card lies in its block.
use Prim.Native.Nat.{ℕ, zero, suc, ◌+◌, ◌*◌, ◌-◌, ◌≤◌, ◌<◌}
use mathlib.Core.Path.{◌≡◌, refl, sym, ap, ◌∙◌}
use mathlib.Core.Bool.{Bool, true, false, cond}
use mathlib.Core.List.{List, [], ◌∷◌, ◌++◌}
use native.Mathlib.Omega.{arith}
use lib.Dec.{ltb}
use lib.IntN.{ℤ, pos}
use lib.ListN.{length, get_or, take, replicate, length-append, length-replicate}
use lib.Seq.{get_or-take}
use Rattle.card.specs.Lists.{slots}
use Rattle.card.specs.Card.{none}
use Rattle.card.specs.declared.Iter.{Iter}
use Rattle.card.specs.declared.Card.{Card}
use Rattle.card.proofs.ReadBack.{OfEight, eight_at}
use Rattle.book.specs.Bytes.{bytes, twos, gather}
use Rattle.book.specs.Block.{iter_bytes, slot_bytes, first_bytes, shard_bytes, replica_bytes, offset_bytes, length_bytes, most_note, note_bytes, head_bytes, check_of, body_of, block_of}
use Rattle.book.proofs.Bytes.{length_bytes_lem}
use Rattle.book.proofs.Parts.{Lies, lies_whole, lies_first, lies_next, lies_row, length_gather}

-- the bytes before 104, 152 and 184
abbrev pub before_104 : Card → ℕ → List ℕ
before_104 card noted = first_bytes card noted ++ shard_bytes card

abbrev pub before_152 : Card → ℕ → List ℕ
before_152 card noted = before_104 card noted ++ replica_bytes card

abbrev pub before_184 : Card → ℕ → List ℕ
before_184 card noted = before_152 card noted ++ offset_bytes card.offset

pub slot_wide : (count : ℕ) (marks : List Bool) (iters : List Iter) (k : ℕ) → length (slot_bytes count marks iters k) ≡ 12
slot_wide count marks iters k = split (ltb k count)
  where
    split : (b : Bool) → length (cond b (iter_bytes (get_or marks k false) (get_or iters k none)) (replicate 12 0)) ≡ 12
    split true = refl
    split false = refl

module _ (card : Card) (eight : OfEight card) where
  pub length_shard : length (shard_bytes card) ≡ 96
  length_shard = length_gather (slot_bytes card.shard.count card.marks card.shard.at) 12 (slot_wide card.shard.count card.marks card.shard.at) slots

  pub length_replica : length (replica_bytes card) ≡ 48
  length_replica = length_gather (slot_bytes card.replica.count [] card.replica.at) 12 (slot_wide card.replica.count [] card.replica.at) (take 4 slots)

  pub length_offset : length (offset_bytes card.offset) ≡ 32
  length_offset = length_gather (λ (z : ℤ). bytes 4 (twos z)) 4 (λ z. refl) card.offset ∙ omega (arith, eight.offset)

  pub length_lengths : length (length_bytes card.lengths) ≡ 32
  length_lengths = length_gather (λ (n : ℕ). bytes 4 n) 4 (λ n. refl) card.lengths ∙ omega (arith, eight.lengths)

  module _ (noted : ℕ) where
    pub to_104 : length (before_104 card noted) ≡ 104
    to_104 = length-append (first_bytes card noted) (shard_bytes card) ∙ omega (arith, length_shard)

    pub to_152 : length (before_152 card noted) ≡ 152
    to_152 = length-append (before_104 card noted) (replica_bytes card) ∙ omega (arith, to_104, length_replica)

    pub to_184 : length (before_184 card noted) ≡ 184
    to_184 = length-append (before_152 card noted) (offset_bytes card.offset) ∙ omega (arith, to_152, length_offset)

    pub length_head : length (head_bytes card noted) ≡ 216
    unfolding head_bytes
    length_head = length-append (before_184 card noted) (length_bytes card.lengths) ∙ omega (arith, to_184, length_lengths)

  module _ (note : List ℕ) (short : length note ≤ most_note) where
    pub length_noted : length (note_bytes note) ≡ 292
    length_noted = length-append note (replicate (most_note - length note) 0) ∙ omega (arith, length-replicate {A = ℕ} (most_note - length note) 0)

    pub length_body : length (body_of card note) ≡ 508
    length_body = length-append (head_bytes card (length note)) (note_bytes note) ∙ omega (arith, length_head (length note), length_noted)

    pub length_block : length (block_of card note) ≡ 512
    length_block = length-append (body_of card note) (bytes 4 (check_of (body_of card note))) ∙ omega (arith, length_body)

    -- what lies where
    pub lies_head : Lies (head_bytes card (length note)) 0 (block_of card note)
    lies_head = lies_first (head_bytes card (length note)) (note_bytes note) 0 (block_of card note) (lies_first (body_of card note) (bytes 4 (check_of (body_of card note))) 0 (block_of card note) (lies_whole (block_of card note)))

    pub lies_noted : Lies (note_bytes note) 216 (block_of card note)
    lies_noted = (lies_next (head_bytes card (length note)) (note_bytes note) 0 (block_of card note) 216 (length_head (length note)) (lies_first (body_of card note) (bytes 4 (check_of (body_of card note))) 0 (block_of card note) (lies_whole (block_of card note))))

    pub lies_note : Lies note 216 (block_of card note)
    lies_note = lies_first note (replicate (most_note - length note) 0) 216 (block_of card note) lies_noted

    pub lies_check : Lies (bytes 4 (check_of (body_of card note))) 508 (block_of card note)
    lies_check = lies_next (body_of card note) (bytes 4 (check_of (body_of card note))) 0 (block_of card note) 508 length_body (lies_whole (block_of card note))

  -- the same of any bytes that begin with a head
  module _ (noted : ℕ) (b : List ℕ) (l : Lies (head_bytes card noted) 0 b) where
    upto_184 : Lies (before_184 card noted) 0 b
    unfolding head_bytes
    upto_184 = lies_first (before_184 card noted) (length_bytes card.lengths) 0 b l

    upto_152 : Lies (before_152 card noted) 0 b
    upto_152 = lies_first (before_152 card noted) (offset_bytes card.offset) 0 b upto_184

    upto_104 : Lies (first_bytes card noted ++ shard_bytes card) 0 b
    upto_104 = lies_first (before_104 card noted) (replica_bytes card) 0 b upto_152

    pub lies_8 : Lies (first_bytes card noted) 0 b
    lies_8 = lies_first (first_bytes card noted) (shard_bytes card) 0 b upto_104

    pub lies_shard : (k : ℕ) → k < 8 → Lies (slot_bytes card.shard.count card.marks card.shard.at k) (8 + 12 * k) b
    lies_shard k h =
        let f : ℕ → List ℕ = slot_bytes card.shard.count card.marks card.shard.at in
        let row = lies_row f 12 (slot_wide card.shard.count card.marks card.shard.at) slots 8 b (lies_next (first_bytes card noted) (shard_bytes card) 0 b 8 refl upto_104) k 0 h in
        rw (eight_at (λ (k : ℕ). k) 0 k h) at row

    pub lies_replica : (k : ℕ) → k < 4 → Lies (slot_bytes card.replica.count [] card.replica.at k) (104 + 12 * k) b
    lies_replica k h =
        let f : ℕ → List ℕ = slot_bytes card.replica.count [] card.replica.at in
        let row = lies_row f 12 (slot_wide card.replica.count [] card.replica.at) (take 4 slots) 104 b (lies_next (before_104 card noted) (replica_bytes card) 0 b 104 (to_104 noted) upto_152) k 0 h in
        rw (four_at k h) at row
      where
        four_at : (k : ℕ) → k < 4 → get_or (take 4 slots) k 0 ≡ k
        four_at k h = get_or-take 4 slots k 0 h ∙ eight_at (λ (k : ℕ). k) 0 k (omega arith)

    pub lies_offset : (k : ℕ) → k < 8 → Lies (bytes 4 (twos (get_or card.offset k (pos 0)))) (152 + 4 * k) b
    lies_offset k h = lies_row (λ (z : ℤ). bytes 4 (twos z)) 4 (λ z. refl) card.offset 152 b (lies_next (before_152 card noted) (offset_bytes card.offset) 0 b 152 (to_152 noted) upto_184) k (pos 0) (omega (arith, eight.offset))

    pub lies_length : (k : ℕ) → k < 8 → Lies (bytes 4 (get_or card.lengths k 0)) (184 + 4 * k) b
    unfolding head_bytes
    lies_length k h = lies_row (λ (n : ℕ). bytes 4 n) 4 (λ n. refl) card.lengths 184 b (lies_next (before_184 card noted) (length_bytes card.lengths) 0 b 184 (to_184 noted) l) k 0 (omega (arith, eight.lengths))
