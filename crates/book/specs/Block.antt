-- A block of the layout book, document 02, request 9, with the mark of request 11: the 512 bytes of a card with a note.
use Rattle.std.specs.Prelude.{ℕ, ◌+◌, ◌*◌, ◌-◌, ◌%◌, Bool, false, cond, List, [], ◌∷◌, ◌++◌, ltb, ℤ, length, get_or, take, replicate}
use Rattle.card.specs.Lists.{slots}
use Rattle.card.specs.Card.{none, mark_number}
use Rattle.card.specs.declared.Iter.{Iter}
use Rattle.card.specs.declared.Card.{Card}
use Rattle.book.specs.Bytes.{bytes, twos, gather}

-- an iter: extent 4, stride 4 in two's complement, axis 1, the mark 1, then 2 zeros
abbrev pub iter_bytes : Bool → Iter → List ℕ
iter_bytes mark iter =
    bytes 4 iter.extent ++ bytes 4 (twos iter.stride) ++ bytes 1 iter.axis ++ bytes 1 (mark_number mark) ++ bytes 2 0

-- a slot: past the count it is zero
abbrev pub slot_bytes : ℕ → List Bool → List Iter → ℕ → List ℕ
slot_bytes count marks iters k = cond (ltb k count) (iter_bytes (get_or marks k false) (get_or iters k none)) (replicate 12 0)

-- bytes 0 to 7: the counts, M, B, S, a zero, and the note's length in two
abbrev pub first_bytes : Card → ℕ → List ℕ
first_bytes card noted =
    bytes 1 card.shard.count
    ++ bytes 1 card.replica.count
    ++ bytes 1 card.swizzle.m
    ++ bytes 1 card.swizzle.b
    ++ bytes 1 card.swizzle.s
    ++ bytes 1 0
    ++ bytes 2 noted

-- from 8 eight shard iters, from 104 four replica iters alike, which bear no mark
abbrev pub shard_bytes : Card → List ℕ
shard_bytes card = gather (slot_bytes card.shard.count card.marks card.shard.at) slots

abbrev pub replica_bytes : Card → List ℕ
replica_bytes card = gather (slot_bytes card.replica.count [] card.replica.at) (take 4 slots)

-- from 152 the eight offsets, 4 bytes like a stride; from 184 the eight lengths
abbrev pub offset_bytes : List ℤ → List ℕ
offset_bytes offset = gather (λ (z : ℤ). bytes 4 (twos z)) offset

abbrev pub length_bytes : List ℕ → List ℕ
length_bytes lengths = gather (λ (n : ℕ). bytes 4 n) lengths

-- from 216 the note, of at most so many bytes; after it zeros
abbrev pub most_note : ℕ
most_note = 292

abbrev pub note_bytes : List ℕ → List ℕ
note_bytes note = note ++ replicate (most_note - length note) 0

-- bytes 0 to 215
unfoldable pub head_bytes : Card → ℕ → List ℕ
head_bytes card noted =
    first_bytes card noted ++ shard_bytes card ++ replica_bytes card ++ offset_bytes card.offset ++ length_bytes card.lengths

-- the check of bytes 0 to 507: the sum of (i + 1) times byte i, modulo 65,521
abbrev pub weighed : ℕ → List ℕ → ℕ
weighed i [] = 0
weighed i (b ∷ bs) = (i + 1) * b + weighed (i + 1) bs

abbrev pub modulus : ℕ
modulus = 65521

abbrev pub check_of : List ℕ → ℕ
check_of body = weighed 0 body % modulus

-- the block of a card with a note: bytes 508-511 hold the check of those before
abbrev pub body_of : Card → List ℕ → List ℕ
body_of card note = head_bytes card (length note) ++ note_bytes note

abbrev pub block_of : Card → List ℕ → List ℕ
block_of card note = body_of card note ++ bytes 4 (check_of (body_of card note))

-- the bytes of a block
abbrev pub block_length : ℕ
block_length = 512
