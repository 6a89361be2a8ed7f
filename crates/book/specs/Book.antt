-- Reading and writing a block: what a block holds, and the order of the refusals.
use Rattle.std.specs.Prelude.{ℕ, ◌+◌, ◌*◌, Bool, false, cond, not, ◌&&◌, List, [], ◌++◌, map, ◌≡◌, leb, ltb, eqb, ℤ, length, take, drop, Result, ⊤, Err, Ok}
use Rattle.answers.specs.declared.Refusal.{Refusal}
use Rattle.answers.specs.Refusals.{answer, refusal_numbers, numbers_of, just_zero, no_refusal}
use Rattle.answers.specs.declared.Numbers.{Numbers}
use Rattle.answers.specs.declared.Refusal.TheVariants.{Counts, TooShort, WrongCheck, Unused}
use Rattle.card.specs.Lists.{same, slots}
use Rattle.card.specs.Card.{none, no_card}
use Rattle.card.specs.Admission.{counts_fit, admission}
use Rattle.card.specs.declared.Iter.{Iter}
use Rattle.card.specs.declared.Iters.{Iters}
use Rattle.card.specs.declared.Card.{Card}
use Rattle.book.specs.Bytes.{field, bytes_from, signed32}
use Rattle.book.specs.Block.{most_note, check_of, block_of, block_length}
use Rattle.book.specs.declared.Page.{Page}

-- the iter from this byte on
abbrev pub iter_in : List ℕ → ℕ → Iter
iter_in block at = record { extent = field 4 at block; stride = signed32 (field 4 (at + 4) block); axis = field 1 (at + 8) block }

-- and its mark, in the byte after its axis
abbrev pub mark_in : List ℕ → ℕ → Bool
mark_in block at = eqb (field 1 (at + 9) block) 1

-- slot k of the iters from this byte on: past the count it is read as zeros
abbrev pub slot_in : List ℕ → ℕ → ℕ → ℕ → Iter
slot_in block from count k = cond (ltb k count) (iter_in block (from + 12 * k)) none

abbrev pub iters_in : List ℕ → ℕ → ℕ → Iters
iters_in block from count = record { at = map (slot_in block from count) slots; count = count }

-- the mark of shard slot k
abbrev pub slot_mark_in : List ℕ → ℕ → ℕ → Bool
slot_mark_in block count k = cond (ltb k count) (mark_in block (8 + 12 * k)) false

abbrev pub offset_in : List ℕ → ℕ → ℤ
offset_in block k = signed32 (field 4 (152 + 4 * k) block)

abbrev pub length_in : List ℕ → ℕ → ℕ
length_in block k = field 4 (184 + 4 * k) block

-- the card that a block holds
unfoldable pub card_in : List ℕ → Card
card_in block = record {
  shard = iters_in block 8 (field 1 0 block);
  marks = map (slot_mark_in block (field 1 0 block)) slots;
  replica = iters_in block 104 (field 1 1 block);
  offset = map (offset_in block) slots;
  lengths = map (length_in block) slots;
  swizzle = record { m = field 1 2 block; b = field 1 3 block; s = field 1 4 block };
}

-- the length of its note, and the note, the block's own bytes
abbrev pub noted_in : List ℕ → ℕ
noted_in block = field 2 6 block

abbrev pub note_from : ℕ
note_from = 216

abbrev pub note_in : List ℕ → List ℕ
note_in block = bytes_from (noted_in block) note_from block

-- a block's own check
abbrev pub check_right : List ℕ → Bool
check_right block = eqb (field 4 508 block) (check_of (take 508 block))

-- the note is not too long, and every byte is that of the block of what it holds: no unused byte differs from zero
abbrev pub all_used : List ℕ → Bool
all_used block = leb (noted_in block) most_note && same (take block_length block) (block_of (card_in block) (note_in block))

-- reading: 11, 19, 1, 20
unfoldable pub read_answer : List ℕ → Result ⊤ Refusal
read_answer block =
    cond (ltb (length block) block_length) (Err (TooShort block_length))
    (cond (not (check_right block)) (Err WrongCheck)
    (cond (not (counts_fit (card_in block))) (Err Counts)
    (cond (not (all_used block)) (Err Unused)
    no_refusal)))

-- a refused read gives a card of zeros and an empty note
abbrev pub card_read : Result ⊤ Refusal → List ℕ → Card
card_read (Ok _) block = card_in block
card_read (Err refusal) block = no_card

abbrev pub page_of : List ℕ → Page
page_of block = record { answer = read_answer block; card = card_read (read_answer block) block }

abbrev pub note_read : Result ⊤ Refusal → List ℕ → List ℕ
note_read (Ok _) block = note_in block
note_read (Err refusal) block = []

-- and where in memory the note begins, a place being a memory block and a byte of it: 216 bytes into the block, and where refused at its start
abbrev pub bytes_before : Result ⊤ Refusal → ℕ
bytes_before (Ok _) = note_from
bytes_before (Err refusal) = 0

abbrev pub NoteBegins : Result ⊤ Refusal → ℕ × ℕ → ℕ × ℕ → Type 0
NoteBegins answer block note = (note.0 ≡ block.0) × (note.1 ≡ block.1 + bytes_before answer)

-- writing: checks 1 to 6, then 20, then 11
abbrev pub write_checked : Result ⊤ Refusal → ℕ → ℕ → Result ⊤ Refusal
write_checked (Err refusal) noted room = Err refusal
write_checked (Ok _) noted room = cond (ltb most_note noted) (Err Unused) (cond (ltb room block_length) (Err (TooShort block_length)) no_refusal)

abbrev pub write_answer : Card → ℕ → ℕ → Result ⊤ Refusal
write_answer card noted room = write_checked (admission card) noted room

-- the lent bytes: the block, and those past it stay; refused, all stay
abbrev pub lent_after : Result ⊤ Refusal → Card → List ℕ → List ℕ → List ℕ
lent_after (Ok _) card note memory = block_of card note ++ drop block_length memory
lent_after (Err refusal) card note memory = memory

-- at number 0 the details are zero
abbrev pub answer_numbers : Result ⊤ Refusal → Numbers
answer_numbers = numbers_of just_zero
