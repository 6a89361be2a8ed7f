-- The first 216 bytes of a block as 54 words of four bytes. Nothing here has to be believed: it is what the functions inside promise each other.
use Rattle.std.specs.Prelude.{ℕ, ◌+◌, ◌*◌, ◌-◌, ◌/◌, ◌%◌, ◌^◌, Bool, true, false, cond, List, ltb, eqb, pos, get_or, replicate}
use Rattle.card.specs.Card.{none, mark_number}
use Rattle.card.specs.declared.Iter.{Iter}
use Rattle.card.specs.declared.Iters.{Iters}
use Rattle.card.specs.declared.Card.{Card}
use Rattle.book.specs.Bytes.{twos}

-- the three words of an iter, and of a slot
abbrev pub iter_word : Iter → Bool → ℕ → ℕ
iter_word iter mark j =
    cond (eqb j 0) iter.extent (cond (eqb j 1) (twos iter.stride) (iter.axis % 256 + 256 * mark_number mark))

abbrev pub slot_word : ℕ → List Bool → List Iter → ℕ → ℕ
slot_word count marks iters i = cond (ltb (i / 3) count) (iter_word (get_or iters (i / 3) none) (get_or marks (i / 3) false) (i % 3)) 0

abbrev pub first_word : Card → ℕ → ℕ → ℕ
first_word card noted i =
    cond (eqb i 0)
    (card.shard.count % 256 + 256 * (card.replica.count % 256 + 256 * (card.swizzle.m % 256 + 256 * (card.swizzle.b % 256))))
    (card.swizzle.s % 256 + 256 * (256 * noted))

abbrev pub word_of : Card → ℕ → ℕ → ℕ
word_of card noted i =
    cond (ltb i 2) (first_word card noted i)
    (cond (ltb i 26) (slot_word card.shard.count card.marks card.shard.at (i - 2))
    (cond (ltb i 38) (slot_word card.replica.count (replicate 8 false) card.replica.at (i - 26))
    (cond (ltb i 46) (twos (get_or card.offset (i - 38) (pos 0)))
    (get_or card.lengths (i - 46) 0))))

-- byte j of words
abbrev pub byte_of : (ℕ → ℕ) → ℕ → ℕ
byte_of words j = words (j / 4) / 2 ^ (8 * (j % 4)) % 256
