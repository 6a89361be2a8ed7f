-- The test sheet: each load is a question and its answer. Document 01, or the source document named beside it, states the answer; where neither
-- does, as for a written descriptor's number, a placement of 004's formula and the stretches, it follows from their rules by hand.
use Rattle.std.specs.Prelude.{ℕ, Bool, true, false, List, [], ◌∷◌, ◌++◌, pos, neg_ℤ, replicate}
use Rattle.answers.specs.Refusals.{answer}
use Rattle.descriptor.specs.Descriptor.{descriptor_of}
use Rattle.descriptor.specs.declared.Fields.{Fields}
use Rattle.mma_kinds.specs.Layouts.{mma_card}
use Rattle.sheet.specs.Questions.{Question, swizzle, mode, bank, fragment, mma, descriptor, mask, place, verdict, owner, stretch, carry, plan, Reply, reply}
use Rattle.sheet.specs.Cards.{tuple, tile, tile_x, unswizzled, only_on_m, at_m, backwards, last_row_first, copies_back, ◌by◌on◌, ◌back◌on◌, m, TLane, in_tensor_memory, wide_tile, doubled, element_copied, both_sides, scale_factors, with_marks, reused_factors, four_each, sixty_five, figure189, saying_counts, in_a_row, full_card, two_from, two_turned, two_twice}
use Rattle.sheet.specs.Cards.{swizzle as swizzleBy}

pub record Load : Type 0 where
  pub question : Question
  pub stated : Reply

infix 20 ◌is◌
abbrev pub ◌is◌ : Question → Reply → Load
q is r = record { question = q; stated = r }

-- the start counts and first spans, from sub-mask 0 on, the non-zero mask, skip span, use span and shift
abbrev pub fields : List ℕ → List Bool → Bool → ℕ → ℕ → ℕ → Fields
fields counts spans non_zero skip used shift =
    record {
      start_counts = counts;
      first_spans = spans;
      non_zero = non_zero;
      skip_span = skip;
      use_span = used;
      shift = shift;
    }

-- no start count, and first span 0 as given
abbrev pub plain_fields : Bool → Bool → ℕ → ℕ → ℕ → Fields
plain_fields span non_zero = fields (0 ∷ 0 ∷ 0 ∷ 0 ∷ []) (span ∷ false ∷ false ∷ false ∷ []) non_zero

-- two and four lent bytes
abbrev pub two : List ℕ
two = 165 ∷ 165 ∷ []

abbrev pub four_entries : List ℕ
four_entries = 165 ∷ 165 ∷ 165 ∷ 165 ∷ []

-- tile X's element (i, j) of its (8, 16) tile, in two lent entries
abbrev pub element_x : ℕ → ℕ → Question
element_x i j = place tile_x (tuple (8 ∷ 16 ∷ [])) (tuple (i ∷ j ∷ [])) (1000000 ∷ 1000001 ∷ [])

-- element (i, j) of source document 004's (8, 64) tile under the 128B swizzle
abbrev pub element128 : ℕ → ℕ → Question
element128 i j =
    place (only_on_m (8 by 64 on m ∷ 64 by 1 on m ∷ []) 512 (swizzleBy 3 3 3)) (tuple (8 ∷ 64 ∷ [])) (tuple (i ∷ j ∷ [])) (1000000 ∷ [])

-- a table of so many entries
abbrev pub table : ℕ → List ℕ
table n = replicate n 1000000

unfoldable pub loads : List Load
loads =
    -- swizzles
    (swizzle 3 3 3 64 is reply (answer 0 72 0 0) [])
    ∷ (swizzle 3 3 3 72 is reply (answer 0 64 0 0) [])
    ∷ (swizzle 3 3 3 511 is reply (answer 0 455 0 0) [])
    ∷ (swizzle 3 3 2 64 is reply (answer 6 0 0 0) [])
    -- Swizzle<3,4,3> of source document 001 (B, M, S over bytes) misread as M, B, S
    ∷ (swizzle 3 4 3 64 is reply (answer 6 0 0 0) [])
    -- source document 004: float16 with the 128B swizzle
    ∷ (mode 16 3 is reply (answer 0 3 3 3) [])
    -- banks: the first and the last address of each width, and the one after it
    ∷ (bank 4 0 is reply (answer 0 0 0 0) [])
    ∷ (bank 4 4294967295 is reply (answer 0 16777215 31 0) [])
    ∷ (bank 4 4294967296 is reply (answer 10 0 0 0) [])
    ∷ (bank 8 0 is reply (answer 0 0 0 0) [])
    ∷ (bank 8 4294967295 is reply (answer 0 33554431 31 0) [])
    ∷ (bank 8 4294967296 is reply (answer 10 0 0 0) [])
    ∷ (bank 16 0 is reply (answer 0 0 0 0) [])
    ∷ (bank 16 4294967295 is reply (answer 0 67108863 31 0) [])
    ∷ (bank 16 4294967296 is reply (answer 10 0 0 0) [])
    ∷ (bank 32 0 is reply (answer 0 0 0 0) [])
    ∷ (bank 32 4294967295 is reply (answer 0 134217727 31 0) [])
    ∷ (bank 32 4294967296 is reply (answer 10 0 0 0) [])
    ∷ (bank 64 0 is reply (answer 0 0 0 0) [])
    ∷ (bank 64 4294967295 is reply (answer 0 268435455 30 0) [])
    ∷ (bank 64 4294967296 is reply (answer 10 0 0 0) [])
    ∷ (bank 128 0 is reply (answer 0 0 0 0) [])
    ∷ (bank 128 4294967295 is reply (answer 0 536870911 28 0) [])
    ∷ (bank 128 4294967296 is reply (answer 10 0 0 0) [])
    -- bits that there are not, judged first
    ∷ (bank 12 0 is reply (answer 6 0 0 0) [])
    ∷ (bank 256 4294967296 is reply (answer 6 0 0 0) [])
    ∷ (bank 0 18446744073709551615 is reply (answer 6 0 0 0) [])
    -- source document 004, float16 with the 128B swizzle: column 0 down the rows is address 72 i, and banks 0, 4, 8, 12, 16, 20, 24, 28
    ∷ (bank 16 0 is reply (answer 0 0 0 0) [])
    ∷ (bank 16 72 is reply (answer 0 1 4 0) [])
    ∷ (bank 16 144 is reply (answer 0 2 8 0) [])
    ∷ (bank 16 216 is reply (answer 0 3 12 0) [])
    ∷ (bank 16 288 is reply (answer 0 4 16 0) [])
    ∷ (bank 16 360 is reply (answer 0 5 20 0) [])
    ∷ (bank 16 432 is reply (answer 0 6 24 0) [])
    ∷ (bank 16 504 is reply (answer 0 7 28 0) [])
    -- without the swizzle it is address 64 i: one bank, 0, in every row
    ∷ (bank 16 0 is reply (answer 0 0 0 0) [])
    ∷ (bank 16 64 is reply (answer 0 1 0 0) [])
    ∷ (bank 16 128 is reply (answer 0 2 0 0) [])
    ∷ (bank 16 192 is reply (answer 0 3 0 0) [])
    ∷ (bank 16 256 is reply (answer 0 4 0 0) [])
    ∷ (bank 16 320 is reply (answer 0 5 0 0) [])
    ∷ (bank 16 384 is reply (answer 0 6 0 0) [])
    ∷ (bank 16 448 is reply (answer 0 7 0 0) [])
    -- and in rows of 32 and of 64 bytes, where row 1 is elsewhere, row 4 and row 2, both at byte 128, are in the bank of row 0
    ∷ (bank 8 32 is reply (answer 0 0 8 0) [])
    ∷ (bank 8 64 is reply (answer 0 0 16 0) [])
    ∷ (bank 8 128 is reply (answer 0 1 0 0) [])
    -- fragments
    ∷ (fragment 5 5 6 is reply (answer 0 1 3 4) [])
    ∷ (fragment 5 18 3 is reply (answer 0 0 6 3) [])
    -- one of each other kind, by source document 002's formulas: lane 22 has q 2, h 4 and computation 1
    ∷ (fragment 0 22 3 is reply (answer 0 1 6 3) [])
    ∷ (fragment 1 22 3 is reply (answer 0 1 7 2) [])
    ∷ (fragment 2 22 3 is reply (answer 0 1 2 7) [])
    ∷ (fragment 3 22 3 is reply (answer 0 1 3 6) [])
    ∷ (fragment 4 22 5 is reply (answer 0 1 6 5) [])
    ∷ (fragment 6 22 0 is reply (answer 0 0 5 2) [])
    ∷ (fragment 7 22 0 is reply (answer 0 0 2 5) [])
    ∷ (fragment 8 21 1 is reply (answer 0 0 5 3) [])
    -- the further kinds: A of m16n8k16 .f16, ldmatrix .x4.trans, the last register of wgmma m64n256 D; kind 8 is document 01's, and there is no N of 264
    ∷ (mma 12 0 22 5 is reply (answer 0 0 5 13) [])
    ∷ (mma 45 0 22 5 is reply (answer 0 2 5 5) [])
    ∷ (mma 1256 3 31 127 is reply (answer 0 0 63 255) [])
    ∷ (mma 8 0 0 0 is reply (answer 14 0 0 0) [])
    ∷ (mma 1264 0 0 0 is reply (answer 14 0 0 0) [])
    -- and B of m16n8k4 .tf32 as a layout, judged: every cell is occupied
    ∷ (verdict (mma_card 15) (table 40) is reply (answer 0 32 32 32) [])
    -- masks, with source document 003's four examples: its example 4, and with sub-masks as long as printed
    ∷ (mask 32 32 0x0203028301020100 four_entries is reply (answer 0 14 3 0) (0x87 ∷ 0xc3 ∷ 0x1c ∷ 0x38 ∷ []))
    ∷ (mask 32 64 0x0203028301020100 (replicate 8 165)
    is reply (answer 0 28 3 0) (0x87 ∷ 0xc3 ∷ 0xc3 ∷ 0xe1 ∷ 0x1c ∷ 0x0e ∷ 0x38 ∷ 0x1c ∷ []))
    -- example 1: the non-zero mask is 0
    ∷ (mask 128 16 (descriptor_of (plain_fields false false 4 3 0)) two is reply (answer 0 0 0 0) (0 ∷ 0 ∷ []))
    -- example 2, and with the shift at its limit and past it
    ∷ (mask 128 16 (descriptor_of (plain_fields false true 2 3 0)) two is reply (answer 0 6 0 0) (0x70 ∷ 0x38 ∷ []))
    ∷ (mask 128 16 (descriptor_of (plain_fields false true 2 3 32)) two is reply (answer 0 6 0 0) (0x70 ∷ 0x38 ∷ []))
    ∷ (mask 128 16 (descriptor_of (plain_fields false true 2 3 33)) two is reply (answer 16 32 0 0) two)
    -- a shift's limit is 16 for M = 32 and 32 otherwise, in a mask
    ∷ (mask 64 16 (descriptor_of (plain_fields false true 2 3 32)) two is reply (answer 0 6 0 0) (0x70 ∷ 0x70 ∷ []))
    ∷ (mask 64 16 (descriptor_of (plain_fields false true 2 3 33)) two is reply (answer 16 32 0 0) two)
    ∷ (mask 32 8 (descriptor_of (plain_fields false true 2 3 16)) two is reply (answer 0 0 0 0) (0 ∷ 165 ∷ []))
    ∷ (mask 32 8 (descriptor_of (plain_fields false true 2 3 17)) two is reply (answer 16 16 0 0) two)
    -- and in a written descriptor, where a wrong M comes first
    ∷ (descriptor 128 (plain_fields false true 2 3 32) is reply (answer 0 2306690182922895360 0 0) [])
    ∷ (descriptor 128 (plain_fields false true 2 3 33) is reply (answer 16 32 0 0) [])
    ∷ (descriptor 64 (plain_fields false true 2 3 32) is reply (answer 0 2306690182922895360 0 0) [])
    ∷ (descriptor 64 (plain_fields false true 2 3 33) is reply (answer 16 32 0 0) [])
    ∷ (descriptor 32 (plain_fields false true 2 3 16) is reply (answer 0 1153768678316048384 0 0) [])
    ∷ (descriptor 32 (plain_fields false true 2 3 17) is reply (answer 16 16 0 0) [])
    ∷ (descriptor 16 (plain_fields false true 2 3 16) is reply (answer 13 0 0 0) [])
    ∷ (descriptor 96 (plain_fields false true 2 3 33) is reply (answer 13 0 0 0) [])
    -- example 3
    ∷ (mask 64 32 (descriptor_of (plain_fields true true 2 3 0)) four_entries is reply (answer 0 14 3 0) (0x87 ∷ 0xc3 ∷ 0x70 ∷ 0x38 ∷ []))
    ∷ (mask 64 40 (descriptor_of (plain_fields true true 2 3 0)) (replicate 5 165)
    is reply (answer 0 17 3 0) (0x87 ∷ 0xc3 ∷ 0x01 ∷ 0x87 ∷ 0xc3 ∷ []))
    -- placement: element 127 of tile X, then the table of source document 004
    ∷ (element_x 7 15 is reply (answer 0 2 0 0) (447 ∷ 703 ∷ []))
    ∷ (element_x 0 0 is reply (answer 0 2 0 0) (320 ∷ 576 ∷ []))
    ∷ (element_x 0 1 is reply (answer 0 2 0 0) (321 ∷ 577 ∷ []))
    ∷ (element_x 0 2 is reply (answer 0 2 0 0) (322 ∷ 578 ∷ []))
    ∷ (element_x 1 0 is reply (answer 0 2 0 0) (328 ∷ 584 ∷ []))
    ∷ (element_x 0 8 is reply (answer 0 2 0 0) (384 ∷ 640 ∷ []))
    -- source document 004's worked swizzle: 64 i + 8 (j / 8 xor i) + j mod 8, so column 0 is 72 i
    ∷ (element128 1 0 is reply (answer 0 1 0 0) (72 ∷ []))
    ∷ (element128 7 0 is reply (answer 0 1 0 0) (504 ∷ []))
    ∷ (element128 3 21 is reply (answer 0 1 0 0) (205 ∷ []))
    -- source document 004's accumulator of 224 columns: its last element
    ∷ (place wide_tile (tuple (2 ∷ 128 ∷ 112 ∷ [])) (tuple (1 ∷ 127 ∷ 111 ∷ [])) (1000000 ∷ []) is reply (answer 0 1 0 0) (28671 ∷ []))
    -- the last of 65,536
    ∷ (place (only_on_m (65536 by 1 on m ∷ []) 65536 unswizzled) (tuple (65536 ∷ [])) (tuple (65535 ∷ [])) (1000000 ∷ []) is reply (answer 0 1 0 0) (65535 ∷ []))
    -- verdicts: tile X, with warpid 10, with replica stride 1
    ∷ (verdict tile_x (table 704) is reply (answer 0 128 256 704) [])
    ∷ (verdict (tile 10 4) (table 704) is reply (answer 7 8 1 0) [])
    ∷ (verdict (tile 11 1) (table 704) is reply (answer 8 0 8 384) [])
    ∷ (verdict tile_x (table 703) is reply (answer 11 704 0 0) [])
    -- idle copies (document 02): a replica of stride 0; before 12 and 11, before 9 and 11, before 7; after 6
    ∷ (verdict (doubled 2 unswizzled) (table 2) is reply (answer 17 0 1 0) [])
    ∷ (owner (doubled 2 unswizzled) (replicate 8 9) (table 1) is reply (answer 17 0 1 0) [])
    ∷ (place (doubled 2 unswizzled) (tuple (3 ∷ [])) (tuple (5 ∷ [])) (table 1) is reply (answer 17 0 1 0) (table 1))
    ∷ (verdict (doubled 1 unswizzled) (table 1) is reply (answer 17 0 1 0) [])
    ∷ (verdict (doubled 2 (swizzleBy 3 3 2)) (table 2) is reply (answer 6 0 0 0) [])
    -- the smallest second first: 1 and 2, although 0 and 4 give the same sums too
    ∷ (verdict (element_copied (2 by 0 on m ∷ 2 by 1 on m ∷ 2 by 1 on m ∷ []) 0) (table 3) is reply (answer 17 1 2 0) [])
    -- one copy forwards and one backwards meet where they began; tile X, above, has no such pair, nor have equal strides on different axes
    ∷ (verdict (element_copied (2 by 1 on m ∷ 2 back 1 on m ∷ []) 1) (table 3) is reply (answer 17 0 3 0) [])
    ∷ (verdict both_sides (table 4) is reply (answer 0 1 4 4) [])
    -- the scale factors: TLane 37 and TCol 2 is cell 150, and belongs to element 22, which has four copies
    ∷ (stretch scale_factors.lengths 7 (0 ∷ 0 ∷ 0 ∷ 0 ∷ 0 ∷ 37 ∷ 2 ∷ 0 ∷ []) (table 512) is reply (answer 0 150 1 0) (1000000 ∷ []))
    ∷ (place scale_factors (tuple (32 ∷ 4 ∷ [])) (tuple (5 ∷ 2 ∷ [])) (table 4) is reply (answer 0 4 0 0) (22 ∷ 150 ∷ 278 ∷ 406 ∷ []))
    ∷ (owner scale_factors (0 ∷ 0 ∷ 0 ∷ 0 ∷ 0 ∷ 37 ∷ 2 ∷ 0 ∷ []) (table 512) is reply (answer 0 23 0 0) [])
    -- the 65-element swizzle
    ∷ (verdict (sixty_five 72) (table 72) is reply (answer 7 64 7 0) [])
    ∷ (verdict (sixty_five 73) (table 73) is reply (answer 0 65 65 73) [])
    -- m is judged after the swizzle: element 64 does not pass at length 65, and an m of 72, which goes to 64, does
    ∷ (verdict (sixty_five 65) (table 65) is reply (answer 7 64 7 0) [])
    ∷ (verdict (at_m (pos 72) 65 (swizzleBy 3 3 3)) (table 65) is reply (answer 0 1 1 65) [])
    -- backwards: the last element first, so that cell 0 belongs to element 3, and one step too far
    ∷ (verdict (backwards 3) (table 4) is reply (answer 0 4 4 4) [])
    ∷ (owner (backwards 3) (replicate 8 0) (table 4) is reply (answer 0 4 0 0) [])
    ∷ (place (backwards 3) (tuple (4 ∷ [])) (tuple (3 ∷ [])) (table 1) is reply (answer 0 1 0 0) (0 ∷ []))
    ∷ (verdict (backwards 2) (table 4) is reply (answer 7 3 7 0) [])
    -- a sum below zero until the offset is added
    ∷ (verdict last_row_first (table 6) is reply (answer 0 6 6 6) [])
    ∷ (owner last_row_first (replicate 8 0) (table 6) is reply (answer 0 4 0 0) [])
    -- copies backwards, and one step too far: the second copy of the first element
    ∷ (verdict (copies_back 2) (table 4) is reply (answer 0 2 4 4) [])
    ∷ (place (copies_back 2) (tuple (2 ∷ [])) (tuple (1 ∷ [])) (table 2) is reply (answer 0 2 0 0) (3 ∷ 1 ∷ []))
    ∷ (verdict (copies_back 1) (table 4) is reply (answer 7 0 7 0) [])
    -- a swizzled card with an m of -1
    ∷ (verdict (at_m (neg_ℤ (pos 1)) 65 (swizzleBy 3 3 3)) (table 65) is reply (answer 7 0 7 0) [])
    -- both ends of the limits of a stride, and of an offset, which within them only leaves the space
    ∷ (verdict (only_on_m (1 back 65536 on m ∷ []) 1 unswizzled) (table 1) is reply (answer 0 1 1 1) [])
    ∷ (verdict (only_on_m (1 back 65537 on m ∷ []) 1 unswizzled) (table 1) is reply (answer 2 0 0 0) [])
    ∷ (verdict (only_on_m (1 by 65535 on m ∷ []) 1 unswizzled) (table 1) is reply (answer 0 1 1 1) [])
    ∷ (verdict (only_on_m (1 by 65536 on m ∷ []) 1 unswizzled) (table 1) is reply (answer 2 0 0 0) [])
    ∷ (verdict (at_m (neg_ℤ (pos 65536)) 65 unswizzled) (table 65) is reply (answer 7 0 7 0) [])
    ∷ (verdict (at_m (neg_ℤ (pos 65537)) 65 unswizzled) (table 65) is reply (answer 2 0 0 0) [])
    ∷ (verdict (at_m (pos 65535) 65 unswizzled) (table 65) is reply (answer 7 0 7 0) [])
    ∷ (verdict (at_m (pos 65536) 65 unswizzled) (table 65) is reply (answer 2 0 0 0) [])
    -- reuse marks (document 02): scale factors used twice are refused without the mark and approved with it; the owner is the smallest of its class;
    -- a follower is placed with its leader
    ∷ (verdict reused_factors (table 512) is reply (answer 8 0 128 0) [])
    ∷ (verdict (with_marks (true ∷ []) reused_factors) (table 512) is reply (answer 0 256 512 512) [])
    ∷ (owner (with_marks (true ∷ []) reused_factors) (0 ∷ 0 ∷ 0 ∷ 0 ∷ 0 ∷ 37 ∷ 2 ∷ 0 ∷ []) (table 512) is reply (answer 0 23 0 0) [])
    ∷ (place (with_marks (true ∷ []) reused_factors) (tuple (2 ∷ 32 ∷ 4 ∷ [])) (tuple (1 ∷ 5 ∷ 2 ∷ [])) (table 4)
    is reply (answer 0 4 0 0) (22 ∷ 150 ∷ 278 ∷ 406 ∷ []))
    -- two marks; one of them missing; two classes that meet, x and y the smallest of theirs
    ∷ (verdict (with_marks (true ∷ false ∷ true ∷ []) (four_each 3 6)) (table 6) is reply (answer 0 12 6 6) [])
    ∷ (verdict (with_marks (false ∷ false ∷ true ∷ []) (four_each 3 6)) (table 6) is reply (answer 8 0 6 0) [])
    ∷ (verdict (with_marks (true ∷ false ∷ true ∷ []) (four_each 2 5)) (table 5) is reply (answer 8 0 4 2) [])
    -- a marked stride of 1; a mark past the count
    ∷ (verdict (with_marks (true ∷ []) (only_on_m (4 by 1 on m ∷ []) 4 unswizzled)) (table 4) is reply (answer 2 0 0 0) [])
    ∷ (verdict (with_marks (false ∷ true ∷ []) (only_on_m (4 by 1 on m ∷ []) 4 unswizzled)) (table 4) is reply (answer 0 4 4 4) [])
    -- Figure 189's layout
    ∷ (verdict figure189 (table 256) is reply (answer 8 8 16 8) [])
    -- the accumulator of 224 columns: 28,672 cells, more than are lent
    ∷ (verdict wide_tile (table 704) is reply (answer 11 28672 0 0) [])
    -- limits of document 02, at each and past it: an extent, a length, the cells, the elements; a product of 2^32
    ∷ (verdict (only_on_m (65536 by 0 on m ∷ []) 1 unswizzled) [] is reply (answer 11 1 0 0) [])
    ∷ (verdict (only_on_m (65537 by 0 on m ∷ []) 1 unswizzled) [] is reply (answer 2 0 0 0) [])
    ∷ (verdict (only_on_m (1 by 0 on m ∷ []) 65536 unswizzled) [] is reply (answer 11 65536 0 0) [])
    ∷ (verdict (only_on_m (1 by 0 on m ∷ []) 65537 unswizzled) [] is reply (answer 4 0 0 0) [])
    ∷ (verdict (in_tensor_memory (1 by 0 on TLane ∷ []) [] 256 256) [] is reply (answer 11 65536 0 0) [])
    ∷ (verdict (in_tensor_memory (1 by 0 on TLane ∷ []) [] 256 257) [] is reply (answer 4 0 0 0) [])
    ∷ (verdict (in_tensor_memory (1 by 0 on TLane ∷ []) [] 65536 65536) [] is reply (answer 4 0 0 0) [])
    ∷ (verdict (only_on_m (32768 by 0 on m ∷ 2 by 0 on m ∷ []) 1 unswizzled) [] is reply (answer 11 1 0 0) [])
    ∷ (verdict (only_on_m (32769 by 0 on m ∷ 2 by 0 on m ∷ []) 1 unswizzled) [] is reply (answer 5 0 0 0) [])
    ∷ (verdict (only_on_m (65536 by 0 on m ∷ 65536 by 0 on m ∷ []) 1 unswizzled) [] is reply (answer 5 0 0 0) [])
    -- the copies, the iters and the swizzle's numbers at their limits and past them
    ∷ (verdict (in_a_row 64) (table 64) is reply (answer 0 1 64 64) [])
    ∷ (verdict (in_a_row 65) (table 65) is reply (answer 5 0 0 0) [])
    ∷ (verdict full_card (table 1) is reply (answer 0 1 1 1) [])
    ∷ (verdict (saying_counts 9 4 full_card) (table 1) is reply (answer 1 0 0 0) [])
    ∷ (verdict (saying_counts 8 5 full_card) (table 1) is reply (answer 1 0 0 0) [])
    ∷ (verdict (at_m (pos 0) 1 (swizzleBy 8 4 8)) (table 1) is reply (answer 0 1 1 1) [])
    ∷ (verdict (at_m (pos 0) 1 (swizzleBy 9 4 8)) (table 1) is reply (answer 6 0 0 0) [])
    ∷ (verdict (at_m (pos 0) 1 (swizzleBy 8 5 8)) (table 1) is reply (answer 6 0 0 0) [])
    ∷ (verdict (at_m (pos 0) 1 (swizzleBy 8 4 9)) (table 1) is reply (answer 6 0 0 0) [])
    -- the stretch of tile X's table under warpid 6; a table one entry too short; warpid 11, judged before the table; 28,672 and 65,536 cells
    -- that are not lent, too many cells
    ∷ (stretch tile_x.lengths 1 (0 ∷ 6 ∷ 99 ∷ 0 ∷ 0 ∷ 0 ∷ 0 ∷ 0 ∷ []) (table 704) is reply (answer 0 384 64 0) (replicate 64 1000000))
    ∷ (stretch tile_x.lengths 1 (0 ∷ 6 ∷ 99 ∷ 0 ∷ 0 ∷ 0 ∷ 0 ∷ 0 ∷ []) (table 703) is reply (answer 11 704 0 0) [])
    ∷ (stretch tile_x.lengths 1 (0 ∷ 11 ∷ 99 ∷ 0 ∷ 0 ∷ 0 ∷ 0 ∷ 0 ∷ []) [] is reply (answer 12 1 0 0) [])
    ∷ (stretch wide_tile.lengths 0 (replicate 8 0) [] is reply (answer 11 28672 0 0) [])
    ∷ (stretch (replicate 7 1 ++ 65536 ∷ []) 0 (replicate 8 0) [] is reply (answer 11 65536 0 0) [])
    ∷ (stretch (replicate 7 1 ++ 65537 ∷ []) 0 (replicate 8 0) [] is reply (answer 4 0 0 0) [])
    -- the rows of document 01's refusal table that no load above meets: no iter, an axis above 7
    ∷ (verdict (only_on_m [] 1 unswizzled) [] is reply (answer 1 0 0 0) [])
    ∷ (verdict (only_on_m (1 by 0 on 8 ∷ []) 1 unswizzled) [] is reply (answer 3 0 0 0) [])
    -- a shape of other than the elements, a coordinate that equals its dimension
    ∷ (place tile_x (tuple (8 ∷ 15 ∷ [])) (tuple (0 ∷ 0 ∷ [])) [] is reply (answer 9 0 0 0) [])
    ∷ (place tile_x (tuple (8 ∷ 16 ∷ [])) (tuple (8 ∷ 0 ∷ [])) [] is reply (answer 10 0 0 0) [])
    -- a mask of M 96, an unknown kind, a reserved bit
    ∷ (mask 96 32 0 [] is reply (answer 13 0 0 0) [])
    ∷ (fragment 9 0 0 is reply (answer 14 0 0 0) [])
    ∷ (mask 128 8 0x1000000000 [] is reply (answer 15 0 0 0) [])
    -- a carrier's plan (document 02): two elements to the end of six cells; the seventh entry stays
    ∷ (carry (two_from 0) (two_from 4) (0 ∷ 4 ∷ 1 ∷ 5 ∷ []) (table 7) (table 6)
    is reply (answer 0 0 0 0) ((1 ∷ 2 ∷ 0 ∷ 0 ∷ 1 ∷ 2 ∷ 1000000 ∷ []) ++ 0 ∷ 0 ∷ 0 ∷ 0 ∷ 1 ∷ 2 ∷ []))
    -- without its second copy cell 5 is the first wrong one, and the tables stand
    ∷ (carry (two_from 0) (two_from 4) (0 ∷ 4 ∷ []) (table 6) (table 6)
    is reply (answer 21 0 5 0) ((1 ∷ 2 ∷ 0 ∷ 0 ∷ 1 ∷ 0 ∷ []) ++ 0 ∷ 0 ∷ 0 ∷ 0 ∷ 1 ∷ 2 ∷ []))
    -- two elements change places by a third cell; in the wrong order the second is lost
    ∷ (carry (two_from 0) two_turned (0 ∷ 2 ∷ 1 ∷ 0 ∷ 2 ∷ 1 ∷ []) (table 6) (table 6)
    is reply (answer 0 0 0 0) ((2 ∷ 1 ∷ 1 ∷ 0 ∷ 0 ∷ 0 ∷ []) ++ 2 ∷ 1 ∷ 0 ∷ 0 ∷ 0 ∷ 0 ∷ []))
    ∷ (carry (two_from 0) two_turned (0 ∷ 1 ∷ 1 ∷ 0 ∷ []) (table 6) (table 6)
    is reply (answer 21 0 0 0) ((1 ∷ 1 ∷ 0 ∷ 0 ∷ 0 ∷ 0 ∷ []) ++ 2 ∷ 1 ∷ 0 ∷ 0 ∷ 0 ∷ 0 ∷ []))
    -- an odd number left over is the second copy; cell 6 of six; a copy outside before the odd number
    ∷ (carry (two_from 0) (two_from 4) (0 ∷ 4 ∷ 1 ∷ []) (table 6) (table 7) is reply (answer 21 2 0 0) (replicate 12 0 ++ 1000000 ∷ []))
    ∷ (carry (two_from 0) (two_from 4) (0 ∷ 4 ∷ 1 ∷ 6 ∷ []) (table 6) (table 6) is reply (answer 21 2 0 0) (replicate 12 0))
    ∷ (carry (two_from 0) (two_from 4) (6 ∷ 4 ∷ 1 ∷ []) (table 6) (table 6) is reply (answer 21 1 0 0) (replicate 12 0))
    -- two spaces, and a second table that is too short: nothing is touched
    ∷ (carry (two_from 0) tile_x [] (table 6) (table 6) is reply (answer 4 0 0 0) (table 12))
    ∷ (carry (two_from 0) (two_from 4) [] (table 6) (table 5) is reply (answer 11 6 0 0) (table 11))
    -- the first card refused, then the second, then a reuse mark, then other elements: each empties both tables
    ∷ (carry (two_from 5) (two_from 6) [] (table 6) (table 6) is reply (answer 7 1 7 0) (replicate 12 0))
    ∷ (carry (two_from 0) (two_from 6) [] (table 6) (table 6) is reply (answer 7 0 7 0) (replicate 12 0))
    ∷ (carry (two_from 0) (with_marks (true ∷ []) (at_m (pos 4) 6 unswizzled)) [] (table 6) (table 6) is reply (answer 2 0 0 0) (replicate 12 0))
    ∷ (carry (two_from 0) (at_m (pos 4) 6 unswizzled) [] (table 6) (table 6) is reply (answer 9 0 0 0) (replicate 12 0))
    -- the plain plan: from the smaller of an element's two cells; the fifth number stays
    ∷ (plan two_twice (two_from 4) (table 5) (table 6) (table 6)
    is reply (answer 0 4 0 0) ((0 ∷ 4 ∷ 1 ∷ 5 ∷ 1000000 ∷ []) ++ (1 ∷ 2 ∷ 1 ∷ 2 ∷ 0 ∷ 0 ∷ []) ++ 0 ∷ 0 ∷ 0 ∷ 0 ∷ 1 ∷ 2 ∷ []))
    -- a shared cell, judged before the memory, and memory that is too short: the plan is untouched
    ∷ (plan (two_from 0) (two_from 1) [] (table 6) (table 6) is reply (answer 23 1 0 0) (replicate 12 0))
    ∷ (plan (two_from 0) (two_from 4) (table 3) (table 6) (table 6) is reply (answer 11 4 0 0) (table 3 ++ replicate 12 0))
    ∷ []
