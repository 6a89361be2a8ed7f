-- The loads of the notation: texts that are not correct, each with the length of its longest beginning; correct texts and what they say; cards and how
-- they are written. Document 02 has the first of the correct ones; the others follow from its sentences by hand.
use Rattle.std.specs.Prelude.{ℕ, Bool, true, false, List, [], ◌∷◌, ℤ, pos, neg_ℤ, length, replicate, set}
use Prim.Native.String.{String}
use Rattle.card.specs.Lists.{padded}
use Rattle.card.specs.Card.{none}
use Rattle.card.specs.declared.Iter.{Iter}
use Rattle.card.specs.declared.Iters.{Iters}
use Rattle.card.specs.declared.Card.{Card}
use Rattle.notation.specs.Meaning.{no_offset}
use Rattle.notation.specs.declared.Layout.{Layout}

pub record Wrong : Type 0 where
  pub text : String
  pub a : ℕ

infix 20 ◌ends◌
abbrev pub ◌ends◌ : String → ℕ → Wrong
t ends a = record { text = t; a = a }

unfoldable pub wrong_texts : List Wrong
wrong_texts =
    -- TLane twice: the T could still be TCol's; after TCol no T can follow; axes that fall; an offset after one on m, which a missing axis means too
    ("S[(1):(1)]+5@TLane+6@TLane" ends 22)
    ∷ ("S[(1):(1)]+5@TCol+6@TLane" ends 20)
    ∷ ("S[(1):(1)]+5@warpid+6@pid" ends 22)
    ∷ ("S[(1):(1)]+5@m+6@m" ends 14)
    ∷ ("S[(1):(1)]+5+6@m" ends 12)
    -- a single replica iter in parentheses, none, a fifth; a replica that does not follow the shard, or a second one
    ∷ ("S[(1):(1)]+R[(2):(1)]" ends 15)
    ∷ ("S[(1):(1)]+R[]" ends 13)
    ∷ ("S[(1):(1)]+R[(1,1,1,1,1):(1,1,1,1,1)]" ends 21)
    ∷ ("S[(1):(1)]+5@pid+R[2:1]" ends 17)
    ∷ ("S[(1):(1)]+R[2:1]+R[2:1]" ends 18)
    -- no shard iter, a ninth; lists that are not equally long
    ∷ ("S[():()]" ends 3)
    ∷ ("S[(1,1,1,1,1,1,1,1,1):(1,1,1,1,1,1,1,1,1)]" ends 18)
    ∷ ("S[(1,2):(1)]" ends 10)
    ∷ ("S[(1):(1,1)]" ends 8)
    -- -0, a minus before an extent, a sixth digit, leading zeros
    ∷ ("S[(1):(-0)]" ends 8)
    ∷ ("S[(1):(1)]+-0@pid" ends 12)
    ∷ ("S[(-1):(1)]" ends 3)
    ∷ ("S[(100000):(1)]" ends 8)
    ∷ ("S[(1):(100000)]" ends 12)
    ∷ ("S[(01):(1)]" ends 4)
    ∷ ("S[(1):(00)]" ends 8)
    -- a star on a replica iter, on an offset, on an axis that is not named; an axis that there is not
    ∷ ("S[(1):(1)]+R[2:0@m*]" ends 18)
    ∷ ("S[(1):(1)]+0@m*" ends 14)
    ∷ ("S[(1):(0*)]" ends 8)
    ∷ ("S[(1):(1@q)]" ends 9)
    -- texts that end too early, a space, a byte too many, no shard
    ∷ ("" ends 0)
    ∷ ("S[(1):(1)" ends 9)
    ∷ ("S[(1):(1)]+" ends 11)
    ∷ ("S[(1): (1)]" ends 6)
    ∷ ("S[(1):(1)] " ends 10)
    ∷ ("R[2:1]" ends 0)
    ∷ []

-- what a text says: shard, marks, replica, offset; slots past a count are zeros
abbrev listed : List Iter → Iters
listed l = record { at = padded none l; count = length l }

abbrev layout : List Iter → List Bool → List Iter → List ℤ → Layout
layout shard marks replica offset = record { shard = listed shard; marks = padded false marks; replica = listed replica; offset = offset }

infix 70 ◌by◌on◌
abbrev ◌by◌on◌ : ℕ → ℤ → ℕ → Iter
extent by stride on axis = record { extent = extent; stride = stride; axis = axis }

abbrev tile_x : Layout
tile_x = layout (8 by pos 4 on 2 ∷ 2 by pos 1 on 1 ∷ 4 by pos 1 on 2 ∷ 2 by pos 1 on 7 ∷ []) [] (2 by pos 4 on 1 ∷ []) (set no_offset 1 (pos 5))

abbrev backwards : Layout
backwards = layout (4 by neg_ℤ (pos 1) on 7 ∷ []) [] [] (set no_offset 7 (pos 3))

abbrev below : Layout
below = layout (1 by pos 65535 on 0 ∷ []) [] (2 by neg_ℤ (pos 65536) on 5 ∷ 3 by pos 0 on 6 ∷ []) (set (set no_offset 0 (neg_ℤ (pos 5))) 7 (neg_ℤ (pos 7)))

abbrev reused : Layout
reused = layout (4 by pos 0 on 5 ∷ 2 by pos 1 on 7 ∷ 8 by pos 0 on 7 ∷ []) (true ∷ false ∷ true ∷ []) [] no_offset

-- an extent and a stride that only the verdict refuses
abbrev unjudged : Layout
unjudged = layout (0 by pos 99999 on 7 ∷ []) [] [] no_offset

pub record Right : Type 0 where
  pub text : String
  pub layout : Layout

infix 20 ◌says◌
abbrev pub ◌says◌ : String → Layout → Right
t says l = record { text = t; layout = l }

-- document 02's text; every axis named; minus signs, and a zero offset; stars
unfoldable pub right : List Right
right =
    ("S[(8,2,4,2):(4@laneid,1@warpid,1@laneid,1)]+R[2:4@warpid]+5@warpid" says tile_x)
    ∷ ("S[(8,2,4,2):(4@laneid,1@warpid,1@laneid,1@m)]+R[2:4@warpid]+5@warpid" says tile_x)
    ∷ ("S[(4):(-1)]+3" says backwards)
    ∷ ("S[(1):(65535@pid)]+R[(2,3):(-65536@TLane,0@TCol)]+-5@pid+0@P+-7" says below)
    ∷ ("S[(4,2,8):(0@TLane*,1,0@m*)]" says reused)
    ∷ ("S[(0):(99999)]+0@pid" says unjudged)
    ∷ []

-- a layout as a card: writing looks at neither lengths nor swizzle
abbrev pub layout_card : Layout → Card
layout_card l = record {
  shard = l.shard;
  marks = l.marks;
  replica = l.replica;
  offset = l.offset;
  lengths = replicate 8 0;
  swizzle = record { m = 9; b = 9; s = 9 };
}

-- every axis is named, zero offsets and an empty replica are left out
unfoldable pub right_texts : List Right
right_texts =
    ("S[(8,2,4,2):(4@laneid,1@warpid,1@laneid,1@m)]+R[2:4@warpid]+5@warpid" says tile_x)
    ∷ ("S[(4):(-1@m)]+3@m" says backwards)
    ∷ ("S[(1):(65535@pid)]+R[(2,3):(-65536@TLane,0@TCol)]+-5@pid+-7@m" says below)
    ∷ ("S[(4,2,8):(0@TLane*,1@m,0@m*)]" says reused)
    ∷ []
