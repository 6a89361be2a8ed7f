-- Refusal 20 in document 02's words: a block with a right check, right counts and a note that is not too long is that of what it holds exactly when
-- every unused byte is zero and every mark is 0 or 1.
use Prim.Native.Nat.{ℕ, zero, suc, ◌+◌, ◌*◌, ◌-◌, ◌/◌, ◌%◌, ◌^◌, ◌≤◌, ◌<◌, min}
use mathlib.Core.Path.{◌≡◌, refl, sym, ap, ap₂, ◌∙◌}
use mathlib.Core.Bool.{Bool, true, false, cond, ◌&&◌}
use mathlib.Core.Logic.{◌⊎◌, inl, inr, ◌↔◌}
use mathlib.Core.List.{List, [], ◌∷◌, ◌++◌, map, append_assoc}
use native.Mathlib.Omega.{arith}
use native.Mathlib.Nat.{not-suc-le-zero, add-zero, mod-eq_of_lt, mul-suc, mul-zero, mul-one, mul-add}
use borrow.Author.Tests.{ltb-true, ltb-false, lt-ltb, le-ltb, eqb-true, eq-eqb, ne_eqb}
use lib.Dec.{leb, ltb, eqb}
use lib.IntN.{ℤ, pos, negsuc}
use lib.ListN.{length, get_or, take, drop, replicate, length-take, length-drop, get_or-eq_default, length-replicate, take-append-drop, get_or-replicate}
use lib.Seq.{take-take, take-add, drop-drop, take_all, length-take-le, get_or-take, get_or-drop, ext_get_or}
use Rattle.laws.proofs.Order.{le_or_lt}
use Rattle.card.specs.Admission.{counts_fit}
use Rattle.card.specs.Lists.{slots}
use Rattle.card.specs.Card.{none, mark_number}
use Rattle.card.specs.declared.Iter.{Iter}
use Rattle.card.proofs.ReadBack.{OfEight, eight_at}
use Rattle.book.specs.Bytes.{bytes, number, bytes_from, field, twos, signed32, gather}
use Rattle.book.specs.Block.{iter_bytes, slot_bytes, first_bytes, shard_bytes, replica_bytes, offset_bytes, length_bytes, head_bytes, note_bytes, most_note, check_of, body_of, block_of}
use Rattle.book.specs.Book.{iter_in, mark_in, slot_in, slot_mark_in, offset_in, length_in, card_in, noted_in, note_in, check_right}
use Rattle.book.proofs.Parts.{Lies, lies_part, lies_next, lies_longer}
use Rattle.book.proofs.Laid.{lies_head, lies_noted, lies_8, lies_shard, lies_replica}

-- every byte is one
abbrev pub Bytes : List ℕ → Type 0
Bytes l = (i : ℕ) → get_or l i 0 < 256

-- the bytes of a number that bytes hold are these bytes
pub bytes_number : (l : List ℕ) → Bytes l → bytes (length l) (number l) ≡ l
bytes_number [] small = refl
bytes_number (b ∷ bs) small =
    let low : (b + 256 * number bs) % 256 ≡ b = let h : b < 256 = small 0 in omega arith in
    let high : (b + 256 * number bs) / 256 ≡ number bs = let h : b < 256 = small 0 in omega arith in
    rw (low, high) (ap (λ (l : List ℕ). b ∷ l) (bytes_number bs (λ i. small (suc i))))

part_bytes : (w at : ℕ) (b : List ℕ) → Bytes b → Bytes (bytes_from w at b)
part_bytes w at b small i = split (le_or_lt w i)
  where
    split : (w ≤ i) ⊎ (i < w) → get_or (bytes_from w at b) i 0 < 256
    split (inl past) = rw (get_or-eq_default (bytes_from w at b) 0 {n = i} (omega (arith, length-take w (drop at b)))) (omega arith)
    split (inr within) = rw (get_or-take w (drop at b) i 0 within, get_or-drop at b i 0) (small (at + i))

-- a field's bytes
field_bytes : (w at : ℕ) (b : List ℕ) → Bytes b → at + w ≤ length b → bytes w (field w at b) ≡ bytes_from w at b
field_bytes w at b small room =
    let long : length (bytes_from w at b) ≡ w = length-take-le w (drop at b) (omega (arith, length-drop at b)) in
    ap (λ (x : ℕ). bytes x (field w at b)) (sym long) ∙ bytes_number (bytes_from w at b) (part_bytes w at b small)

field_small : (at : ℕ) (b : List ℕ) → Bytes b → field 4 at b < 2 ^ 32
field_small at b small = split (bytes_from 4 at b) (length-take 4 (drop at b)) (part_bytes 4 at b small)
  where
    split : (l : List ℕ) → length l ≡ min 4 (length (drop at b)) → Bytes l → number l < 2 ^ 32
    split [] e s = omega arith
    split (w ∷ []) e s = let a = s 0 in omega arith
    split (w ∷ x ∷ []) e s = let a = s 0 in let b = s 1 in omega arith
    split (w ∷ x ∷ y ∷ []) e s = let a = s 0 in let b = s 1 in let c = s 2 in omega arith
    split (w ∷ x ∷ y ∷ z ∷ []) e s = let a = s 0 in let b = s 1 in let c = s 2 in let d = s 3 in omega arith
    split (w ∷ x ∷ y ∷ z ∷ v ∷ l) e s = absurd (omega arith)

twos_signed : (n : ℕ) → n < 2 ^ 32 → twos (signed32 n) ≡ n
twos_signed n h = split (ltb n (2 ^ 31))
  where
    split : (b : Bool) → twos (cond b (pos n) (negsuc (2 ^ 32 - 1 - n))) ≡ n
    split true = mod-eq_of_lt h
    split false = omega arith

part_parts : (v w at : ℕ) (b : List ℕ) → bytes_from (v + w) at b ≡ bytes_from v at b ++ bytes_from w (at + v) b
part_parts v w at b = take-add v w (drop at b) ∙ ap (λ (x : List ℕ). bytes_from v at b ++ take w x) (drop-drop v at b)

-- rows of one width one after the other
abbrev range : ℕ → ℕ → List ℕ
range k zero = []
range k (suc n) = k ∷ range (k + 1) n

rows_parts : (w at n k : ℕ) (b : List ℕ) → gather (λ (j : ℕ). bytes_from w (at + w * j) b) (range k n) ≡ bytes_from (w * n) (at + w * k) b
rows_parts w at zero k b = rw (mul-zero w)
rows_parts w at (suc n) k b =
    let place : at + w * k + w ≡ at + w * (k + 1) = omega (arith, mul-add w k 1, mul-one w) in
    let wide : w * suc n ≡ w + w * n = omega (arith, mul-suc w n) in
    rw (wide, part_parts w (w * n) (at + w * k) b, place) (ap (λ (l : List ℕ). bytes_from w (at + w * k) b ++ l) (rows_parts w at n (k + 1) b))

-- every unused byte is zero, and every mark is 0 or 1, place by place
pub record UnusedZero (b : List ℕ) : Type 0 where
  pub fifth : get_or b 5 0 ≡ 0
  pub mark : (k : ℕ) → k < get_or b 0 0 → get_or b (17 + 12 * k) 0 ≤ 1
  pub shard : (k i : ℕ) → k < get_or b 0 0 → 18 + 12 * k ≤ i → i < 20 + 12 * k → get_or b i 0 ≡ 0
  pub replica : (k i : ℕ) → k < get_or b 1 0 → 113 + 12 * k ≤ i → i < 116 + 12 * k → get_or b i 0 ≡ 0
  pub shard_past : (i : ℕ) → 8 + 12 * get_or b 0 0 ≤ i → i < 104 → get_or b i 0 ≡ 0
  pub replica_past : (i : ℕ) → 104 + 12 * get_or b 1 0 ≤ i → i < 152 → get_or b i 0 ≡ 0
  pub past_note : (i : ℕ) → 216 + noted_in b ≤ i → i < 508 → get_or b i 0 ≡ 0

-- the same, part by part
record ZeroParts (b : List ℕ) : Type 0 where
  fifth : field 1 5 b ≡ 0
  mark : (k : ℕ) → k < field 1 0 b → field 1 (17 + 12 * k) b ≤ 1
  shard : (k : ℕ) → k < field 1 0 b → bytes_from 2 (18 + 12 * k) b ≡ replicate 2 0
  replica : (k : ℕ) → k < field 1 1 b → bytes_from 3 (113 + 12 * k) b ≡ replicate 3 0
  shard_past : (k : ℕ) → field 1 0 b ≤ k → k < 8 → bytes_from 12 (8 + 12 * k) b ≡ replicate 12 0
  replica_past : (k : ℕ) → field 1 1 b ≤ k → k < 4 → bytes_from 12 (104 + 12 * k) b ≡ replicate 12 0
  past_note : bytes_from (most_note - noted_in b) (216 + noted_in b) b ≡ replicate (most_note - noted_in b) 0

field_one : (at : ℕ) (b : List ℕ) → field 1 at b ≡ get_or b at 0
field_one at b = first (drop at b) ∙ get_or-drop at b 0 0 ∙ ap (λ (x : ℕ). get_or b x 0) (add-zero at)
  where
    first : (l : List ℕ) → number (take 1 l) ≡ get_or l 0 0
    first [] = refl
    first (x ∷ l) = omega arith

-- a part of zeros has a zero at each of its places, and the other way round
zeros_at : (w at : ℕ) (b : List ℕ) → bytes_from w at b ≡ replicate w 0 → (i : ℕ) → at ≤ i → i < at + w → get_or b i 0 ≡ 0
zeros_at w at b e i from to =
    let place : i ≡ at + (i - at) = omega arith in
    ap (λ (x : ℕ). get_or b x 0) place
    ∙ sym (get_or-take w (drop at b) (i - at) 0 (omega arith) ∙ get_or-drop at b (i - at) 0)
    ∙ ap (λ (l : List ℕ). get_or l (i - at) 0) e
    ∙ get_or-replicate {A = ℕ} w (i - at) 0 0 (omega arith)

at_zeros : (w at : ℕ) (b : List ℕ) → at + w ≤ length b → ((i : ℕ) → at ≤ i → i < at + w → get_or b i 0 ≡ 0) → bytes_from w at b ≡ replicate w 0
at_zeros w at b room zero_at =
    let long : length (bytes_from w at b) ≡ w = length-take-le w (drop at b) (omega (arith, length-drop at b)) in
    ext_get_or 0 (bytes_from w at b) (replicate w 0) (long ∙ sym (length-replicate {A = ℕ} w 0))
    (λ j h.
    get_or-take w (drop at b) j 0 (omega (arith, long))
    ∙ get_or-drop at b j 0
    ∙ zero_at (at + j) (omega arith) (omega (arith, long))
    ∙ sym (get_or-replicate {A = ℕ} w j 0 0 (omega (arith, long))))

module _ (b : List ℕ) (room : 512 ≤ length b) (noted : noted_in b ≤ most_note) (few : field 1 0 b ≤ 8) (copies : field 1 1 b ≤ 4) where
  parts_zero : UnusedZero b → ZeroParts b
  parts_zero z =
      let shards = field_one 0 b in
      let replicas = field_one 1 b in
      record {
        fifth = field_one 5 b ∙ z.fifth;
        mark = λ k h. rw (field_one (17 + 12 * k) b) (z.mark k (omega arith));
        shard = λ k h. at_zeros 2 (18 + 12 * k) b (omega arith) (λ i from to. z.shard k i (omega arith) (omega arith) (omega arith));
        replica = λ k h. at_zeros 3 (113 + 12 * k) b (omega arith) (λ i from to. z.replica k i (omega arith) (omega arith) (omega arith));
        shard_past = λ k past h. at_zeros 12 (8 + 12 * k) b (omega arith) (λ i from to. z.shard_past i (omega arith) (omega arith));
        replica_past = λ k past h. at_zeros 12 (104 + 12 * k) b (omega arith) (λ i from to. z.replica_past i (omega arith) (omega arith));
        past_note = at_zeros (most_note - noted_in b) (216 + noted_in b) b (omega arith) (λ i from to. z.past_note i from (omega arith));
      }

  places_zero : ZeroParts b → UnusedZero b
  places_zero z =
      let shards = field_one 0 b in
      let replicas = field_one 1 b in
      record {
        fifth = sym (field_one 5 b) ∙ z.fifth;
        mark = λ k h. rw (field_one (17 + 12 * k) b) at (z.mark k (omega arith));
        shard = λ k i h from to. zeros_at 2 (18 + 12 * k) b (z.shard k (omega arith)) i from (omega arith);
        replica = λ k i h from to. zeros_at 3 (113 + 12 * k) b (z.replica k (omega arith)) i from (omega arith);
        shard_past = λ i from to.
            zeros_at 12 (8 + 12 * ((i - 8) / 12)) b (z.shard_past ((i - 8) / 12) (omega arith) (omega arith)) i (omega arith) (omega arith);
        replica_past = λ i from to.
            zeros_at 12 (104 + 12 * ((i - 104) / 12)) b (z.replica_past ((i - 104) / 12) (omega arith) (omega arith)) i (omega arith) (omega arith);
        past_note = λ i from to. zeros_at (most_note - noted_in b) (216 + noted_in b) b z.past_note i from (omega arith);
      }

-- twelve bytes as the fields of an iter
twelve : (at : ℕ) (b : List ℕ) → bytes_from 12 at b ≡ bytes_from 4 at b ++ bytes_from 4 (at + 4) b ++ bytes_from 1 (at + 8) b ++ bytes_from 1 (at + 9) b ++ bytes_from 2 (at + 10) b
twelve at b =
    part_parts 10 2 at b
    ∙ ap (λ (l : List ℕ). l ++ bytes_from 2 (at + 10) b)
    (part_parts 9 1 at b
    ∙ ap (λ (l : List ℕ). l ++ bytes_from 1 (at + 9) b) (part_parts 8 1 at b ∙ ap (λ (l : List ℕ). l ++ bytes_from 1 (at + 8) b) (part_parts 4 4 at b)))

mark_is : (n : ℕ) → n ≤ 1 → mark_number (eqb n 1) ≡ n
mark_is zero h = refl
mark_is (suc zero) h = refl
mark_is (suc (suc n)) h = absurd (omega arith)

-- an iter's twelve bytes, by its mark
iter_is : (at : ℕ) (b : List ℕ) (mark : Bool) → Bytes b → at + 12 ≤ length b → mark_number mark ≡ field 1 (at + 9) b → bytes_from 2 (at + 10) b ≡ replicate 2 0
    → iter_bytes mark (iter_in b at) ≡ bytes_from 12 at b
iter_is at b mark small room marked rest =
    ap₂ ◌++◌
    (ap₂ ◌++◌
    (ap₂ ◌++◌
    (ap₂ ◌++◌ (field_bytes 4 at b small (omega arith)) (ap (bytes 4) (twos_signed (field 4 (at + 4) b) (field_small (at + 4) b small)) ∙ field_bytes 4 (at + 4) b small (omega arith)))
    (field_bytes 1 (at + 8) b small (omega arith)))
    (ap (bytes 1) marked ∙ field_bytes 1 (at + 9) b small (omega arith)))
    (sym rest)
    ∙ sym (twelve at b)

gather_range : (f g : ℕ → List ℕ) (from n : ℕ) → ((k : ℕ) → k < from + n → f k ≡ g k) → gather f (range from n) ≡ gather g (range from n)
gather_range f g from zero e = refl
gather_range f g from (suc n) e = ap₂ ◌++◌ (e from (omega arith)) (gather_range f g (from + 1) n (λ k h. e k (omega arith)))

-- a slot, used or past the count
slot_is : (count at k : ℕ) (marks : List Bool) (iters : List Iter) (b : List ℕ)
    → (ltb k count ≡ true → iter_bytes (get_or marks k false) (get_or iters k none) ≡ bytes_from 12 at b)
    → (ltb k count ≡ false → bytes_from 12 at b ≡ replicate 12 0) → slot_bytes count marks iters k ≡ bytes_from 12 at b
slot_is count at k marks iters b used past = split (ltb k count) refl
  where
    split : (t : Bool) → ltb k count ≡ t → cond t (iter_bytes (get_or marks k false) (get_or iters k none)) (replicate 12 0) ≡ bytes_from 12 at b
    split true e = used e
    split false e = sym (past e)

three_zeros : (at : ℕ) (b : List ℕ) → bytes_from 3 at b ≡ replicate 3 0 → (field 1 at b ≡ 0) × (bytes_from 2 (at + 1) b ≡ replicate 2 0)
three_zeros at b e = (
  ap number (sym (take-take 1 3 (drop at b) (omega arith)) ∙ ap (take 1) e),
  ap (take 2) (sym (drop-drop 1 at b)) ∙ sym (drop_take_one (drop at b)) ∙ ap (drop 1) e,
)
  where
    drop_take_one : (l : List ℕ) → drop 1 (take 3 l) ≡ take 2 (drop 1 l)
    drop_take_one [] = refl
    drop_take_one (x ∷ l) = refl

module _ (b : List ℕ) (small : Bytes b) (room : 512 ≤ length b) (noted : noted_in b ≤ most_note) where
  module _ (z : ZeroParts b) where
    first_is : first_bytes (card_in b) (noted_in b) ≡ bytes_from 8 0 b
    unfolding card_in
    first_is =
        ap₂ ◌++◌
        (ap₂ ◌++◌
        (ap₂ ◌++◌
        (ap₂ ◌++◌
        (ap₂ ◌++◌
        (ap₂ ◌++◌ (field_bytes 1 0 b small (omega arith)) (field_bytes 1 1 b small (omega arith)) ∙ sym (part_parts 1 1 0 b))
        (field_bytes 1 2 b small (omega arith)) ∙ sym (part_parts 2 1 0 b))
        (field_bytes 1 3 b small (omega arith)) ∙ sym (part_parts 3 1 0 b))
        (field_bytes 1 4 b small (omega arith)) ∙ sym (part_parts 4 1 0 b))
        (ap (bytes 1) (sym z.fifth) ∙ field_bytes 1 5 b small (omega arith)) ∙ sym (part_parts 5 1 0 b))
        (field_bytes 2 6 b small (omega arith))
        ∙ sym (part_parts 6 2 0 b)

    shard_is : shard_bytes (card_in b) ≡ bytes_from 96 8 b
    unfolding card_in
    shard_is =
        gather_range (slot_bytes (field 1 0 b) (card_in b).marks (card_in b).shard.at) (λ (k : ℕ). bytes_from 12 (8 + 12 * k) b) 0 8
        (λ k h.
        slot_is (field 1 0 b) (8 + 12 * k) k (card_in b).marks (card_in b).shard.at b
        (λ e.
        let below : k < field 1 0 b = ltb-true k (field 1 0 b) e in
        let mark-at : 17 + 12 * k ≡ 8 + 12 * k + 9 = omega arith in
        let rest_at : 18 + 12 * k ≡ 8 + 12 * k + 10 = omega arith in
        let mark : get_or (card_in b).marks k false ≡ mark_in b (8 + 12 * k) =
        eight_at (slot_mark_in b (field 1 0 b)) false k (omega arith) ∙ rw e in
        let iter : get_or (card_in b).shard.at k none ≡ iter_in b (8 + 12 * k) =
        eight_at (slot_in b 8 (field 1 0 b)) none k (omega arith) ∙ rw e in
        ap₂ iter_bytes mark iter
        ∙ iter_is (8 + 12 * k) b (mark_in b (8 + 12 * k)) small (omega arith)
        (mark_is (field 1 (8 + 12 * k + 9) b) (rw mark-at at (z.mark k below)))
        (ap (λ (x : ℕ). bytes_from 2 x b) (sym rest_at) ∙ z.shard k below))
        (λ e. z.shard_past k (ltb-false k (field 1 0 b) e) (omega arith)))
        ∙ rows_parts 12 8 8 0 b

    replica_is : replica_bytes (card_in b) ≡ bytes_from 48 104 b
    unfolding card_in
    replica_is =
        gather_range (slot_bytes (field 1 1 b) [] (card_in b).replica.at) (λ (k : ℕ). bytes_from 12 (104 + 12 * k) b) 0 4
        (λ k h.
        slot_is (field 1 1 b) (104 + 12 * k) k [] (card_in b).replica.at b
        (λ e.
        let below : k < field 1 1 b = ltb-true k (field 1 1 b) e in
        let mark-at : 113 + 12 * k ≡ 104 + 12 * k + 9 = omega arith in
        let rest_at : 113 + 12 * k + 1 ≡ 104 + 12 * k + 10 = omega arith in
        let zeros = three_zeros (113 + 12 * k) b (z.replica k below) in
        let iter : get_or (card_in b).replica.at k none ≡ iter_in b (104 + 12 * k) =
        eight_at (slot_in b 104 (field 1 1 b)) none k (omega arith) ∙ rw e in
        ap (iter_bytes false) iter
        ∙ iter_is (104 + 12 * k) b false small (omega arith)
        (sym zeros.0 ∙ ap (λ (x : ℕ). field 1 x b) mark-at)
        (ap (λ (x : ℕ). bytes_from 2 x b) (sym rest_at) ∙ zeros.1))
        (λ e. z.replica_past k (ltb-false k (field 1 1 b) e) (omega arith)))
        ∙ rows_parts 12 104 4 0 b

    offset_is : offset_bytes (card_in b).offset ≡ bytes_from 32 152 b
    unfolding card_in
    offset_is =
        gather_range (λ (k : ℕ). bytes 4 (twos (offset_in b k))) (λ (k : ℕ). bytes_from 4 (152 + 4 * k) b) 0 8
        (λ k h. ap (bytes 4) (twos_signed (field 4 (152 + 4 * k) b) (field_small (152 + 4 * k) b small)) ∙ field_bytes 4 (152 + 4 * k) b small (omega arith))
        ∙ rows_parts 4 152 8 0 b

    lengths_is : length_bytes (card_in b).lengths ≡ bytes_from 32 184 b
    unfolding card_in
    lengths_is =
        gather_range (λ (k : ℕ). bytes 4 (length_in b k)) (λ (k : ℕ). bytes_from 4 (184 + 4 * k) b) 0 8
        (λ k h. field_bytes 4 (184 + 4 * k) b small (omega arith))
        ∙ rows_parts 4 184 8 0 b

    head_is : head_bytes (card_in b) (noted_in b) ≡ bytes_from 216 0 b
    unfolding head_bytes
    head_is =
        ap₂ ◌++◌
        (ap₂ ◌++◌
        (ap₂ ◌++◌
        (ap₂ ◌++◌ first_is shard_is ∙ sym (part_parts 8 96 0 b))
        replica_is ∙ sym (part_parts 104 48 0 b))
        offset_is ∙ sym (part_parts 152 32 0 b))
        lengths_is
        ∙ sym (part_parts 184 32 0 b)

    -- the block is that of what it holds
    block_then : check_right b ≡ true → take 512 b ≡ block_of (card_in b) (note_in b)
    block_then right =
        let long : length (note_in b) ≡ noted_in b = length-take-le (noted_in b) (drop 216 b) (omega (arith, length-drop 216 b)) in
        let whole-note : noted_in b + (most_note - noted_in b) ≡ 292 = omega arith in
        let noted-part : bytes_from 292 216 b ≡ note_bytes (note_in b) =
        ap (λ (x : ℕ). bytes_from x 216 b) (sym whole-note)
        ∙ part_parts (noted_in b) (most_note - noted_in b) 216 b
        ∙ ap (λ (l : List ℕ). note_in b ++ l) (z.past_note ∙ ap (λ (x : ℕ). replicate (most_note - x) 0) (sym long)) in
        let body : take 508 b ≡ body_of (card_in b) (note_in b) =
        part_parts 216 292 0 b ∙ ap₂ ◌++◌ (sym head_is ∙ ap (head_bytes (card_in b)) (sym long)) noted-part in
        let check : bytes_from 4 508 b ≡ bytes 4 (check_of (take 508 b)) =
        sym (field_bytes 4 508 b small (omega arith)) ∙ ap (bytes 4) (eqb-true (field 4 508 b) (check_of (take 508 b)) right) in
        part_parts 508 4 0 b ∙ ap₂ ◌++◌ body (check ∙ ap (λ (l : List ℕ). bytes 4 (check_of l)) body)

eight_of : (b : List ℕ) → OfEight (card_in b)
unfolding card_in
eight_of b = record { shard = refl; marks = refl; replica = refl; offset = refl; lengths = refl }

-- a slot as it lies in a block
used_lies : (count : ℕ) (marks : List Bool) (iters : List Iter) (k at : ℕ) (b : List ℕ) → Lies (slot_bytes count marks iters k) at b → k < count
    → Lies (iter_bytes (get_or marks k false) (get_or iters k none)) at b
used_lies count marks iters k at b l h = rw (lt-ltb k count h) at l

past_lies : (count : ℕ) (marks : List Bool) (iters : List Iter) (k at : ℕ) (b : List ℕ) → Lies (slot_bytes count marks iters k) at b → count ≤ k → bytes_from 12 at b ≡ replicate 12 0
past_lies count marks iters k at b l h =
    let zeros : Lies (replicate 12 0) at b = rw (le-ltb k count h) at l in
    ap (λ (x : ℕ). bytes_from 12 x b) (sym (add-zero at)) ∙ lies_part (replicate 12 0) at b zeros 12 0 (omega arith)

mark_most : (mark : Bool) → number (bytes 1 (mark_number mark)) ≤ 1
mark_most true = omega arith
mark_most false = omega arith

-- and the other way round: of a block that is that of what it holds every unused byte is zero
then_parts : (b : List ℕ) → 512 ≤ length b → noted_in b ≤ most_note → field 1 0 b ≤ 8 → field 1 1 b ≤ 4
    → take 512 b ≡ block_of (card_in b) (note_in b) → ZeroParts b
unfolding card_in
then_parts b room noted few copies e =
    let eight = eight_of b in
    let long : length (note_in b) ≡ noted_in b = length-take-le (noted_in b) (drop 216 b) (omega (arith, length-drop 216 b)) in
    let short : length (note_in b) ≤ most_note = omega arith in
    let whole : b ≡ block_of (card_in b) (note_in b) ++ drop 512 b = sym (take-append-drop 512 b) ∙ ap (λ (l : List ℕ). l ++ drop 512 b) e in
    let head : Lies (head_bytes (card_in b) (length (note_in b))) 0 b = moved whole (lies_longer _ 0 (block_of (card_in b) (note_in b)) (drop 512 b) (lies_head (card_in b) eight (note_in b) short)) in
    let first = lies_8 (card_in b) eight (length (note_in b)) b head in
    let shard-lies = lies_shard (card_in b) eight (length (note_in b)) b head in
    let replica-lies = lies_replica (card_in b) eight (length (note_in b)) b head in
    let rest = moved whole (lies_longer _ 216 (block_of (card_in b) (note_in b)) (drop 512 b) (lies_noted (card_in b) eight (note_in b) short)) in
    record {
      fifth = ap number (lies_part (first_bytes (card_in b) (length (note_in b))) 0 b first 1 5 (omega arith));
      mark = λ k h.
          let place : 17 + 12 * k ≡ 8 + 12 * k + 9 = omega arith in
          let l = used_lies (field 1 0 b) (card_in b).marks (card_in b).shard.at k (8 + 12 * k) b (shard-lies k (omega arith)) h in
          rw (ap (λ (x : ℕ). field 1 x b) place ∙ ap number (lies_part _ (8 + 12 * k) b l 1 9 (omega arith))) (mark_most (get_or (card_in b).marks k false));
      shard = λ k h.
          let place : 18 + 12 * k ≡ 8 + 12 * k + 10 = omega arith in
          let l = used_lies (field 1 0 b) (card_in b).marks (card_in b).shard.at k (8 + 12 * k) b (shard-lies k (omega arith)) h in
          ap (λ (x : ℕ). bytes_from 2 x b) place ∙ lies_part _ (8 + 12 * k) b l 2 10 (omega arith);
      replica = λ k h.
          let place : 113 + 12 * k ≡ 104 + 12 * k + 9 = omega arith in
          let l = used_lies (field 1 1 b) [] (card_in b).replica.at k (104 + 12 * k) b (replica-lies k (omega arith)) h in
          ap (λ (x : ℕ). bytes_from 3 x b) place ∙ lies_part _ (104 + 12 * k) b l 3 9 (omega arith);
      shard_past = λ k past h. past_lies (field 1 0 b) (card_in b).marks (card_in b).shard.at k (8 + 12 * k) b (shard-lies k h) past;
      replica_past = λ k past h. past_lies (field 1 1 b) [] (card_in b).replica.at k (104 + 12 * k) b (replica-lies k h) past;
      past_note =
          let zeros = lies_next (note_in b) (replicate (most_note - length (note_in b)) 0) 216 b (noted_in b) long rest in
          ap (λ (x : ℕ). bytes_from (most_note - noted_in b) x b) (sym (add-zero (216 + noted_in b)))
          ∙ lies_part (replicate (most_note - length (note_in b)) 0) (216 + noted_in b) b zeros (most_note - noted_in b) 0 (omega (arith, length-replicate {A = ℕ} (most_note - length (note_in b)) 0))
          ∙ ap (λ (x : ℕ). take (most_note - noted_in b) (replicate (most_note - x) 0)) long
          ∙ take_all (most_note - noted_in b) (replicate (most_note - noted_in b) 0) (omega (arith, length-replicate {A = ℕ} (most_note - noted_in b) 0));
    }
  where
    moved : {row : List ℕ} {at : ℕ} {c : List ℕ} → b ≡ c → Lies row at c → Lies row at b
    moved same l = record { before = l.before; after = l.after; starts = l.starts; there = same ∙ l.there }

-- both in document 02's words
module _ (b : List ℕ) (room : 512 ≤ length b) (noted : noted_in b ≤ most_note) (few : field 1 0 b ≤ 8) (copies : field 1 1 b ≤ 4) where
  pub unused_then : Bytes b → check_right b ≡ true → UnusedZero b → take 512 b ≡ block_of (card_in b) (note_in b)
  unused_then small right z = block_then b small room noted (parts_zero b room noted few copies z) right

  pub then_unused : take 512 b ≡ block_of (card_in b) (note_in b) → UnusedZero b
  then_unused e = places_zero b room noted few copies (then_parts b room noted few copies e)
