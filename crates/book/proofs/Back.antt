-- What is read of a card's block is the card, slots past its counts as zeros, and the note.
use Prim.Native.Nat.{ℕ, zero, suc, ◌+◌, ◌*◌, ◌-◌, ◌^◌, ◌≤◌, ◌<◌}
use mathlib.Core.Path.{◌≡◌, refl, sym, ap, ◌∙◌}
use mathlib.Core.Bool.{Bool, true, false, cond, not, ◌&&◌}
use mathlib.Core.List.{List, [], ◌∷◌, ◌++◌, map}
use native.Mathlib.Omega.{arith}
use native.Mathlib.Nat.{add-zero}
use borrow.Author.Tests.{ltb-true}
use lib.Dec.{ltb, eqb}
use lib.IntN.{ℤ, pos, nat_abs}
use lib.ListN.{length, get_or, take, drop}
use lib.Seq.{take_all}
use Rattle.card.specs.Lists.{slots, padded}
use Rattle.card.specs.Card.{none, mark_number, marks_of, kept_iters, kept}
use Rattle.card.specs.declared.Iter.{Iter}
use Rattle.card.specs.declared.Iters.{Iters}
use Rattle.card.specs.declared.Card.{Card}
use Rattle.card.proofs.Listed.{Counted}
use Rattle.card.proofs.ReadBack.{OfEight, eight_at, eight_slots, padded_slots}
use Rattle.book.specs.Bytes.{bytes, number, bytes_from, field, twos, signed32}
use Rattle.book.specs.Block.{iter_bytes, slot_bytes, first_bytes, head_bytes}
use Rattle.book.specs.Book.{iter_in, slot_in, iters_in, mark_in, slot_mark_in, offset_in, length_in, card_in, noted_in}
use Rattle.book.proofs.Bytes.{one_back, two_back, four_back, twos_small, signed_back}
use Rattle.book.proofs.Parts.{Lies, lies_part}
use Rattle.book.proofs.Laid.{lies_head, lies_note, lies_8, lies_shard, lies_replica, lies_offset, lies_length}

-- an iter that twelve bytes hold, and a card that a block holds
pub record SmallIter (iter : Iter) : Type 0 where
  pub extent : iter.extent < 2 ^ 32
  pub stride : nat_abs iter.stride ≤ 2 ^ 30
  pub axis : iter.axis < 256

pub record Holdable (card : Card) : Type 0 where
  pub eight : OfEight card
  pub counts : Counted card
  pub m : card.swizzle.m < 256
  pub b : card.swizzle.b < 256
  pub s : card.swizzle.s < 256
  pub shard : (k : ℕ) → k < card.shard.count → SmallIter (get_or card.shard.at k none)
  pub replica : (k : ℕ) → k < card.replica.count → SmallIter (get_or card.replica.at k none)
  pub offset : (k : ℕ) → k < 8 → nat_abs (get_or card.offset k (pos 0)) ≤ 2 ^ 30
  pub lengths : (k : ℕ) → k < 8 → get_or card.lengths k 0 < 2 ^ 32

slots_alike : {A : Type 0} (f g : ℕ → A) → ((k : ℕ) → k < 8 → f k ≡ g k) → map f slots ≡ map g slots
slots_alike f g e = eight_slots g (f 0) (map f slots) refl (λ k h. eight_at f (f 0) k h ∙ e k h)

used : {A : Type 0} (b : Bool) (x y z : A) → (b ≡ true → x ≡ y) → cond b x z ≡ cond b y z
used true x y z e = e refl
used false x y z e = refl

-- a field at the front of a row
first_part : (row : List ℕ) (at : ℕ) (block : List ℕ) → Lies row at block → (w : ℕ) → w ≤ length row → bytes_from w at block ≡ bytes_from w 0 row
first_part row at block l w h = ap (λ (x : ℕ). bytes_from w x block) (sym (add-zero at)) ∙ lies_part row at block l w 0 (omega arith)

pub iter_back : (block : List ℕ) (at : ℕ) (mark : Bool) (iter : Iter) → Lies (iter_bytes mark iter) at block → SmallIter iter → iter_in block at ≡ iter
iter_back block at mark iter l s =
    let extent : field 4 at block ≡ iter.extent = ap number (first_part (iter_bytes mark iter) at block l 4 (omega arith)) ∙ four_back iter.extent s.extent in
    let stride : field 4 (at + 4) block ≡ twos iter.stride = ap number (lies_part (iter_bytes mark iter) at block l 4 4 (omega arith)) ∙ four_back (twos iter.stride) (twos_small iter.stride) in
    let axis : field 1 (at + 8) block ≡ iter.axis = ap number (lies_part (iter_bytes mark iter) at block l 1 8 (omega arith)) ∙ one_back iter.axis s.axis in
    rw (extent, stride, axis, signed_back iter.stride s.stride)

pub mark_back : (block : List ℕ) (at : ℕ) (mark : Bool) (iter : Iter) → Lies (iter_bytes mark iter) at block → mark_in block at ≡ mark
mark_back block at mark iter l = ap (λ (x : List ℕ). eqb (number x) 1) (lies_part (iter_bytes mark iter) at block l 1 9 (omega arith)) ∙ split mark
  where
    split : (mark : Bool) → eqb (number (bytes 1 (mark_number mark))) 1 ≡ mark
    split true = refl
    split false = refl

-- a slot below the count holds its iter
in_slot : (count : ℕ) (marks : List Bool) (iters : List Iter) (k at : ℕ) (block : List ℕ) → Lies (slot_bytes count marks iters k) at block → ltb k count ≡ true
    → Lies (iter_bytes (get_or marks k false) (get_or iters k none)) at block
in_slot count marks iters k at block l below = rw below at l

module _ (card : Card) (h : Holdable card) (noted : ℕ) (long : noted < 2 ^ 16) (block : List ℕ) (l : Lies (head_bytes card noted) 0 block) where
  first : Lies (first_bytes card noted) 0 block
  first = lies_8 card h.eight noted block l

  pub shard_count : field 1 0 block ≡ card.shard.count
  shard_count = ap number (lies_part (first_bytes card noted) 0 block first 1 0 (omega arith)) ∙ one_back card.shard.count (omega (arith, h.counts.shard))

  pub replica_count : field 1 1 block ≡ card.replica.count
  replica_count = ap number (lies_part (first_bytes card noted) 0 block first 1 1 (omega arith)) ∙ one_back card.replica.count (omega (arith, h.counts.replica))

  pub m_back : field 1 2 block ≡ card.swizzle.m
  m_back = ap number (lies_part (first_bytes card noted) 0 block first 1 2 (omega arith)) ∙ one_back card.swizzle.m h.m

  pub b_back : field 1 3 block ≡ card.swizzle.b
  b_back = ap number (lies_part (first_bytes card noted) 0 block first 1 3 (omega arith)) ∙ one_back card.swizzle.b h.b

  pub s_back : field 1 4 block ≡ card.swizzle.s
  s_back = ap number (lies_part (first_bytes card noted) 0 block first 1 4 (omega arith)) ∙ one_back card.swizzle.s h.s

  pub noted_back : noted_in block ≡ noted
  noted_back = ap number (lies_part (first_bytes card noted) 0 block first 2 6 (omega arith)) ∙ two_back noted long

  -- a slot below its count holds the card's iter, as long as its row lies there
  slots_back : (from count : ℕ) (marks : List Bool) (iters : List Iter) → length iters ≡ 8 → count ≤ 8
      → ((k : ℕ) → k < count → Lies (slot_bytes count marks iters k) (from + 12 * k) block) → ((k : ℕ) → k < count → SmallIter (get_or iters k none))
      → map (slot_in block from count) slots ≡ padded none (take count iters)
  slots_back from count marks iters eight few lies small =
      slots_alike (slot_in block from count) (λ (k : ℕ). cond (ltb k count) (get_or iters k none) none)
      (λ k h.
      used (ltb k count) (iter_in block (from + 12 * k)) (get_or iters k none) none
      (λ below.
      let there : k < count = ltb-true k count below in
      iter_back block (from + 12 * k) (get_or marks k false) (get_or iters k none) (in_slot count marks iters k (from + 12 * k) block (lies k there) below) (small k there)))
      ∙ sym (padded_slots none iters count eight few)

  shard_back : iters_in block 8 card.shard.count ≡ kept_iters card.shard
  shard_back =
      ap (λ (at : List Iter). record { at = at; count = card.shard.count })
      (slots_back 8 card.shard.count card.marks card.shard.at h.eight.shard h.counts.shard
      (λ k below. lies_shard card h.eight noted block l k (omega (arith, h.counts.shard)))
      h.shard)

  marks_back : map (slot_mark_in block card.shard.count) slots ≡ padded false (marks_of card)
  marks_back =
      slots_alike (slot_mark_in block card.shard.count) (λ (k : ℕ). cond (ltb k card.shard.count) (get_or card.marks k false) false)
      (λ k small.
      used (ltb k card.shard.count) (mark_in block (8 + 12 * k)) (get_or card.marks k false) false
      (λ below.
      mark_back block (8 + 12 * k) (get_or card.marks k false) (get_or card.shard.at k none)
      (in_slot card.shard.count card.marks card.shard.at k (8 + 12 * k) block (lies_shard card h.eight noted block l k small) below)))
      ∙ sym (padded_slots false card.marks card.shard.count h.eight.marks h.counts.shard)

  replica_back : iters_in block 104 card.replica.count ≡ kept_iters card.replica
  replica_back =
      ap (λ (at : List Iter). record { at = at; count = card.replica.count })
      (slots_back 104 card.replica.count [] card.replica.at h.eight.replica (omega (arith, h.counts.replica))
      (λ k below. lies_replica card h.eight noted block l k (omega (arith, h.counts.replica)))
      h.replica)

  offset_back : map (offset_in block) slots ≡ card.offset
  offset_back =
      sym (eight_slots (offset_in block) (pos 0) card.offset h.eight.offset
      (λ k small. sym
      (ap (λ (x : List ℕ). signed32 (number x)) (first_part (bytes 4 (twos (get_or card.offset k (pos 0)))) (152 + 4 * k) block (lies_offset card h.eight noted block l k small) 4 (omega arith))
      ∙ ap signed32 (four_back (twos (get_or card.offset k (pos 0))) (twos_small (get_or card.offset k (pos 0))))
      ∙ signed_back (get_or card.offset k (pos 0)) (h.offset k small))))

  lengths_back : map (length_in block) slots ≡ card.lengths
  lengths_back =
      sym (eight_slots (length_in block) 0 card.lengths h.eight.lengths
      (λ k small. sym
      (ap number (first_part (bytes 4 (get_or card.lengths k 0)) (184 + 4 * k) block (lies_length card h.eight noted block l k small) 4 (omega arith))
      ∙ four_back (get_or card.lengths k 0) (h.lengths k small))))

  pub card_back : card_in block ≡ kept card
  unfolding card_in
  card_back = rw (shard_count, replica_count, shard_back, marks_back, replica_back, offset_back, lengths_back, m_back, b_back, s_back)
