-- Request 9 in plain for-alls: one card with one note has one block, and what is written reads back.
use Rattle.std.specs.Prelude.{Ok, Err}
use Prim.Native.Nat.{ℕ, zero, suc, ◌+◌, ◌*◌, ◌-◌, ◌^◌, ◌≤◌, ◌<◌}
use mathlib.Core.Path.{◌≡◌, refl, sym, ap, ap₂, ◌∙◌}
use mathlib.Core.Bool.{Bool, true, false, cond, not, ◌&&◌, and-eq-true_iff, true≢false}
use mathlib.Core.List.{List, [], ◌∷◌, ◌++◌, map, append_assoc}
use native.Mathlib.Omega.{arith}
use native.Mathlib.Nat.{add-zero}
use borrow.Author.Tests.{ltb-true, ltb-false, le-ltb, leb-true, le-leb, eq-eqb, eqb-true, not-false}
use lib.Dec.{leb, ltb, eqb}
use lib.IntN.{ℤ, pos, nat_abs}
use lib.ListN.{length, get_or, take, drop, replicate, length-append, length-map, get_or-map}
use lib.Seq.{take_all, take_at, take-append-le, get_or-take, length-take-le}
use Rattle.answers.specs.Refusals.{no_refusal}
use Rattle.answers.specs.declared.Refusal.{Refusal}
use Rattle.answers.specs.declared.Refusal.TheVariants.{Counts, TooShort, WrongCheck, Unused}
use Rattle.laws.proofs.Rungs.{apart, passed_by}
use Rattle.laws.proofs.Tests.{four_of}
use Rattle.card.specs.Lists.{all, within, within_z, same, slots, padded}
use Rattle.card.specs.Limits.{most_extent, least_stride, most_stride, last_axis, most_length, most_cells}
use Rattle.card.specs.Card.{listed, marks_of, extent_of, stride_of, axis_of, cells, none, kept}
use Rattle.card.specs.Admission.{counts_fit, iters_fit, iters_on_axes, axes_fit, space_fits, admission}
use Rattle.card.specs.declared.Iter.{Iter}
use Rattle.card.specs.declared.Iters.{Iters}
use Rattle.card.specs.declared.Card.{Card}
use Rattle.card.proofs.Lists.{all_at, within_numbers, stride_far, same_true, same_refl}
use Rattle.card.proofs.Listed.{Counted, counted}
use Rattle.card.proofs.Admitted.{Checked, checked, fitting, numbered}
use Rattle.card.proofs.ReadBack.{OfEight, padded_at}
use Rattle.book.specs.Bytes.{bytes, number, bytes_from, field, gather}
use Rattle.book.specs.Block.{iter_bytes, slot_bytes, first_bytes, shard_bytes, replica_bytes, offset_bytes, length_bytes, head_bytes, note_bytes, most_note, check_of, body_of, block_of, block_length}
use Rattle.book.specs.Book.{card_in, noted_in, note_in, check_right, all_used, read_answer}
use Rattle.book.proofs.Bytes.{four_back}
use Rattle.book.proofs.Parts.{Lies, lies_first, lies_part, lies_longer}
use Rattle.book.proofs.Laid.{lies_head, lies_note, lies_check, length_body, length_block}
use Rattle.book.proofs.Back.{SmallIter, Holdable, card_back, noted_back}

-- what was read has passed every check
pub record Passed (block : List ℕ) : Type 0 where
  pub room : 512 ≤ length block
  pub right : check_right block ≡ true
  pub counts : counts_fit (card_in block) ≡ true
  pub noted : noted_in block ≤ most_note
  pub is : take 512 block ≡ block_of (card_in block) (note_in block)

pub passed : (block : List ℕ) → read_answer block ≡ no_refusal → Passed block
unfolding read_answer
passed block done =
    let eleven = passed_by (ltb (length block) block_length) done (λ q. apart (cc)) in
    let nineteen = passed_by (not (check_right block)) eleven.1 (λ q. apart (cc)) in
    let one = passed_by (not (counts_fit (card_in block))) nineteen.1 (λ q. apart (cc)) in
    let twenty = passed_by (not (all_used block)) one.1 (λ q. apart (cc)) in
    let used = (and-eq-true_iff (leb (noted_in block) most_note) (same (take 512 block) (block_of (card_in block) (note_in block)))).0 (not-false (all_used block) twenty.0) in
    record {
      room = ltb-false (length block) block_length eleven.0;
      right = not-false (check_right block) nineteen.0;
      counts = not-false (counts_fit (card_in block)) one.0;
      noted = leb-true (noted_in block) most_note used.0;
      is = same_true (take 512 block) (block_of (card_in block) (note_in block)) used.1;
    }

-- one card with one note has one block: two blocks that read to the same card and the same note are the same
pub one_block : (b c : List ℕ) → length b ≡ 512 → length c ≡ 512 → read_answer b ≡ no_refusal → read_answer c ≡ no_refusal → card_in b ≡ card_in c → note_in b ≡ note_in c → b ≡ c
one_block b c long-b long-c done-b done-c card note =
    sym (take_all 512 b (omega arith)) ∙ (passed b done-b).is ∙ ap₂ block_of card note ∙ sym (passed c done-c).is ∙ take_all 512 c (omega arith)

-- an admitted card can be held
listed_at : (iters : Iters) {A : Type 0} (f : Iter → A) (p : A → Bool) → all p (map f (listed iters)) ≡ true → length iters.at ≡ 8 → iters.count ≤ 8
    → (k : ℕ) → k < iters.count → p (f (get_or iters.at k none)) ≡ true
listed_at iters f p t eight few k h =
    let long = length-take-le iters.count iters.at (omega arith) in
    let at = all_at p (map f (listed iters)) k (f none) t (omega (arith, length-map (listed iters) f)) in
    rw (get_or-map f (listed iters) k none, get_or-take iters.count iters.at k none h) at at

small_iter : (iters : Iters) → iters_fit iters ≡ true → iters_on_axes iters ≡ true → length iters.at ≡ 8 → iters.count ≤ 8
    → (k : ℕ) → k < iters.count → SmallIter (get_or iters.at k none)
small_iter iters fit axes eight few k h =
    let f = fitting iters fit in
    let extent = within_numbers 1 most_extent (get_or iters.at k none).extent (listed_at iters extent_of (within 1 most_extent) f.extents eight few k h) in
    let axis = within_numbers 0 last_axis (get_or iters.at k none).axis (listed_at iters axis_of (within 0 last_axis) axes eight few k h) in
    let stride = stride_far (get_or iters.at k none).stride (listed_at iters stride_of (within_z least_stride most_stride) f.strides eight few k h) in
    record { extent = omega (arith, extent.1); stride = omega (arith, stride); axis = omega (arith, axis.1) }

pub holdable : (card : Card) → OfEight card → admission card ≡ no_refusal → Holdable card
holdable card eight e =
    let k = checked card e in
    let n = numbered card k.numbers in
    let counts = counted card k.counts in
    let axes = (and-eq-true_iff (iters_on_axes card.shard) (iters_on_axes card.replica)).0 k.axes in
    let space = (and-eq-true_iff (all (within 1 most_length) card.lengths) (leb (cells card) most_cells)).0 k.space in
    let swizzle = four_of (leb card.swizzle.m 8) _ _ _ k.swizzle in
    record {
      eight = eight;
      counts = counts;
      m = omega (arith, leb-true card.swizzle.m 8 swizzle.0);
      b = omega (arith, leb-true card.swizzle.b 4 swizzle.1);
      s = omega (arith, leb-true card.swizzle.s 8 swizzle.2);
      shard = small_iter card.shard n.shard axes.0 eight.shard (omega (arith, counts.shard));
      replica = small_iter card.replica n.replica axes.1 eight.replica (omega (arith, counts.replica));
      offset = λ j h. omega (arith, stride_far (get_or card.offset j (pos 0)) (all_at (within_z least_stride most_stride) card.offset j (pos 0) n.offset (omega (arith, eight.offset))));
      lengths = λ j h. omega (arith, (within_numbers 1 most_length (get_or card.lengths j 0) (all_at (within 1 most_length) card.lengths j 0 space.0 (omega (arith, eight.lengths)))).1);
    }

-- the block of what is kept of a card is the card's: a slot has the same bytes if below the count its mark and its iter are the same
slot_alike : (count : ℕ) (marks others : List Bool) (iters kepts : List Iter) → ((k : ℕ) → k < count → get_or others k false ≡ get_or marks k false)
    → ((k : ℕ) → k < count → get_or kepts k none ≡ get_or iters k none) → (k : ℕ) → slot_bytes count others kepts k ≡ slot_bytes count marks iters k
slot_alike count marks others iters kepts marked alike k = split (ltb k count) refl
  where
    split : (b : Bool) → ltb k count ≡ b
        → cond b (iter_bytes (get_or others k false) (get_or kepts k none)) (replicate 12 0) ≡ cond b (iter_bytes (get_or marks k false) (get_or iters k none)) (replicate 12 0)
    split true e = let h : k < count = ltb-true k count e in ap₂ iter_bytes (marked k h) (alike k h)
    split false e = refl

pub gather_alike : (f g : ℕ → List ℕ) → ((k : ℕ) → f k ≡ g k) → (xs : List ℕ) → gather f xs ≡ gather g xs
gather_alike f g e [] = refl
gather_alike f g e (x ∷ xs) = ap₂ ◌++◌ (e x) (gather_alike f g e xs)

pub head_kept : (card : Card) (noted : ℕ) → OfEight card → Counted card → head_bytes (kept card) noted ≡ head_bytes card noted
unfolding head_bytes
head_kept card noted eight counts =
    let shard : shard_bytes (kept card) ≡ shard_bytes card =
    gather_alike (slot_bytes card.shard.count (kept card).marks (kept card).shard.at) (slot_bytes card.shard.count card.marks card.shard.at)
    (slot_alike card.shard.count card.marks (kept card).marks card.shard.at (kept card).shard.at
    (padded_at false card.marks card.shard.count eight.marks counts.shard)
    (padded_at none card.shard.at card.shard.count eight.shard counts.shard)) slots in
    let replica : replica_bytes (kept card) ≡ replica_bytes card =
    gather_alike (slot_bytes card.replica.count [] (kept card).replica.at) (slot_bytes card.replica.count [] card.replica.at)
    (slot_alike card.replica.count [] [] card.replica.at (kept card).replica.at (λ k h. refl)
    (padded_at none card.replica.at card.replica.count eight.replica (omega (arith, counts.replica)))) (take 4 slots) in
    rw (shard, replica)

-- what is written reads back: the card, slots and marks past its counts as zeros, and the note; bytes past the block are not looked at
pub record ReadBack (card : Card) (note block : List ℕ) : Type 0 where
  pub accepted : read_answer block ≡ no_refusal
  pub same_card : card_in block ≡ kept card
  pub same_note : note_in block ≡ note

-- the ladder of a read, rung by rung
module _ (b : List ℕ) where
  pub at_eleven : ltb (length b) block_length ≡ true → read_answer b ≡ Err (TooShort block_length)
  unfolding read_answer
  at_eleven p = rw p

  pub at_nineteen : ltb (length b) block_length ≡ false → check_right b ≡ false → read_answer b ≡ Err WrongCheck
  unfolding read_answer
  at_nineteen p q = rw (p, q)

  pub at_one : ltb (length b) block_length ≡ false → check_right b ≡ true → counts_fit (card_in b) ≡ false → read_answer b ≡ Err Counts
  unfolding read_answer
  at_one p q r = rw (p, q, r)

  pub at_twenty : ltb (length b) block_length ≡ false → check_right b ≡ true → counts_fit (card_in b) ≡ true → all_used b ≡ false → read_answer b ≡ Err Unused
  unfolding read_answer
  at_twenty p q r s = rw (p, q, r, s)

  pub answered : ltb (length b) block_length ≡ false → check_right b ≡ true → counts_fit (card_in b) ≡ true → all_used b ≡ true → read_answer b ≡ no_refusal
  unfolding read_answer
  answered p q r s = rw (p, q, r, s)

counts_fit_lem : (card : Card) → 1 ≤ card.shard.count → card.shard.count ≤ 8 → card.replica.count ≤ 4 → counts_fit card ≡ true
counts_fit_lem card some shard replica = rw (le-leb 1 card.shard.count some, le-leb card.shard.count 8 shard, le-leb card.replica.count 4 replica)

pub held_back : (card : Card) (note rest : List ℕ) → Holdable card → length note ≤ most_note → ReadBack card note (block_of card note ++ rest)
held_back card note rest h short =
    let long = length_block card h.eight note short in
    let body = length_body card h.eight note short in
    let head = lies_longer (head_bytes card (length note)) 0 (block_of card note) rest (lies_head card h.eight note short) in
    let noted : noted_in (block_of card note ++ rest) ≡ length note = noted_back card h (length note) (omega arith) (block_of card note ++ rest) head in
    let back : card_in (block_of card note ++ rest) ≡ kept card = card_back card h (length note) (omega arith) (block_of card note ++ rest) head in
    let note-back : note_in (block_of card note ++ rest) ≡ note =
    ap (λ (n : ℕ). bytes_from n 216 (block_of card note ++ rest)) noted
    ∙ ap (λ (x : ℕ). bytes_from (length note) x (block_of card note ++ rest)) (sym (add-zero 216))
    ∙ lies_part note 216 (block_of card note ++ rest) (lies_longer note 216 (block_of card note) rest (lies_note card h.eight note short)) (length note) 0 (omega arith)
    ∙ take_all (length note) note (omega arith) in
    let first-512 : take 512 (block_of card note ++ rest) ≡ block_of card note = take_at (block_of card note) rest 512 long in
    let first-508 : take 508 (block_of card note ++ rest) ≡ body_of card note =
    ap (take 508) (append_assoc (body_of card note) (bytes 4 (check_of (body_of card note))) rest)
    ∙ take_at (body_of card note) (bytes 4 (check_of (body_of card note)) ++ rest) 508 body in
    let written : field 4 508 (block_of card note ++ rest) ≡ check_of (body_of card note) =
    ap number (lies_part (bytes 4 (check_of (body_of card note))) 508 (block_of card note ++ rest) (lies_longer (bytes 4 (check_of (body_of card note))) 508 (block_of card note) rest (lies_check card h.eight note short)) 4 0 (omega arith))
    ∙ four_back (check_of (body_of card note)) (omega arith) in
    let right : check_right (block_of card note ++ rest) ≡ true = eq-eqb _ _ (written ∙ sym (ap check_of first-508)) in
    let counts : counts_fit (kept card) ≡ true = counts_fit_lem (kept card) h.counts.some h.counts.shard h.counts.replica in
    let rebuilt : block_of (kept card) note ≡ block_of card note = ap (λ (x : List ℕ). x ++ note_bytes note ++ bytes 4 (check_of (x ++ note_bytes note))) (head_kept card (length note) h.eight h.counts) in
    let enough : ltb (length (block_of card note ++ rest)) block_length ≡ false = le-ltb (length (block_of card note ++ rest)) block_length (omega (arith, length-append (block_of card note) rest)) in
    record {
      accepted = answered (block_of card note ++ rest) enough right (ap counts_fit back ∙ counts)
          ((and-eq-true_iff (leb (noted_in (block_of card note ++ rest)) most_note) (same (take 512 (block_of card note ++ rest)) (block_of (card_in (block_of card note ++ rest)) (note_in (block_of card note ++ rest))))).1
          (le-leb (noted_in (block_of card note ++ rest)) most_note (omega arith), rw (first-512, back, note-back, rebuilt) (same_refl (block_of card note))));
      same_card = back;
      same_note = note-back;
    }

pub read_back_lem : (card : Card) (note rest : List ℕ) → OfEight card → admission card ≡ no_refusal → length note ≤ most_note → ReadBack card note (block_of card note ++ rest)
read_back_lem card note rest eight admitted short = held_back card note rest (holdable card eight admitted) short
