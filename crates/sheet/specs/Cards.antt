-- The cards of the test sheet: each list of iters is eight long, with zeros past its count, as a card has it.
use Rattle.std.specs.Prelude.{ℕ, Bool, false, List, [], ◌∷◌, map, ℤ, pos, neg_ℤ, length, replicate}
use Rattle.swizzle.specs.declared.Swizzle.{Swizzle}
use Rattle.card.specs.Lists.{padded}
use Rattle.card.specs.declared.Iter.{Iter}
use Rattle.card.specs.declared.Iters.{Iters}
use Rattle.card.specs.declared.Card.{Card}
use Rattle.placement_judged.specs.declared.Tuple.{Tuple}

-- the axes, by number
abbrev pub warpid : ℕ
warpid = 1

abbrev pub laneid : ℕ
laneid = 2

abbrev pub TLane : ℕ
TLane = 5

abbrev pub TCol : ℕ
TCol = 6

abbrev pub m : ℕ
m = 7

-- an extent by a stride on an axis, forwards or backwards
infix 70 ◌by◌on◌ ◌back◌on◌
abbrev pub ◌by◌on◌ : ℕ → ℕ → ℕ → Iter
extent by stride on axis = record { extent = extent; stride = pos stride; axis = axis }

abbrev pub ◌back◌on◌ : ℕ → ℕ → ℕ → Iter
extent back stride on axis = record { extent = extent; stride = neg_ℤ (pos stride); axis = axis }

abbrev pub iters : List Iter → Iters
iters xs = record { at = padded (0 by 0 on 0) xs; count = length xs }

abbrev pub tuple : List ℕ → Tuple
tuple xs = record { at = padded 0 xs; count = length xs }

abbrev pub swizzle : ℕ → ℕ → ℕ → Swizzle
swizzle M B S = record { m = M; b = B; s = S }

-- no swizzle is B = 0, S = 3
abbrev pub unswizzled : Swizzle
unswizzled = swizzle 0 0 3

abbrev pub zero_offsets : List ℤ
zero_offsets = replicate 8 (pos 0)

-- no iter is marked
abbrev pub unmarked_iters : List Bool
unmarked_iters = replicate 8 false

-- tile X with a length of warpid and a replica stride: its own are 11 and 4
abbrev pub tile : ℕ → ℕ → Card
tile warps stride =
    record {
      shard = iters (8 by 4 on laneid ∷ 2 by 1 on warpid ∷ 4 by 1 on laneid ∷ 2 by 1 on m ∷ []);
      marks = unmarked_iters;
      replica = iters (2 by stride on warpid ∷ []);
      offset = map pos (0 ∷ 5 ∷ 0 ∷ 0 ∷ 0 ∷ 0 ∷ 0 ∷ 0 ∷ []);
      lengths = 1 ∷ warps ∷ 32 ∷ 1 ∷ 1 ∷ 1 ∷ 1 ∷ 2 ∷ [];
      swizzle = unswizzled;
    }

abbrev pub tile_x : Card
tile_x = tile 11 4

-- iters and replica iters from an offset on m
abbrev pub from_m : List Iter → List Iter → ℤ → ℕ → Swizzle → Card
from_m shard replica offset long w =
    record {
      shard = iters shard;
      marks = unmarked_iters;
      replica = iters replica;
      offset = pos 0 ∷ pos 0 ∷ pos 0 ∷ pos 0 ∷ pos 0 ∷ pos 0 ∷ pos 0 ∷ offset ∷ [];
      lengths = 1 ∷ 1 ∷ 1 ∷ 1 ∷ 1 ∷ 1 ∷ 1 ∷ long ∷ [];
      swizzle = w;
    }

-- iters on m alone, in a length of m, with a swizzle
abbrev pub only_on_m : List Iter → ℕ → Swizzle → Card
only_on_m shard = from_m shard [] (pos 0)

-- one element at an offset on m
abbrev pub at_m : ℤ → ℕ → Swizzle → Card
at_m = from_m (1 by 0 on m ∷ []) []

-- four elements, the last first
abbrev pub backwards : ℕ → Card
backwards offset = from_m (4 back 1 on m ∷ []) [] (pos offset) 4 unswizzled

-- two rows of three, the last row first: the second row's sum is below zero until the offset is added
abbrev pub last_row_first : Card
last_row_first = from_m (2 back 3 on m ∷ 3 by 1 on m ∷ []) [] (pos 3) 6 unswizzled

-- two elements, the second copy of each two cells before the first
abbrev pub copies_back : ℕ → Card
copies_back offset = from_m (2 by 1 on m ∷ []) (2 back 2 on m ∷ []) (pos offset) 4 unswizzled

-- iters in tensor memory, with its lanes and columns
abbrev pub in_tensor_memory : List Iter → List Iter → ℕ → ℕ → Card
in_tensor_memory shard replica lanes columns =
    record {
      shard = iters shard;
      marks = unmarked_iters;
      replica = iters replica;
      offset = zero_offsets;
      lengths = 1 ∷ 1 ∷ 1 ∷ 1 ∷ 1 ∷ lanes ∷ columns ∷ 1 ∷ [];
      swizzle = unswizzled;
    }

-- 004's accumulator of 224 columns
abbrev pub wide_tile : Card
wide_tile = in_tensor_memory (2 by 112 on TCol ∷ 128 by 1 on TLane ∷ 112 by 1 on TCol ∷ []) [] 128 224

-- two elements with a replica of stride 0: the two copies of each would lie in one cell
abbrev pub doubled : ℕ → Swizzle → Card
doubled = from_m (2 by 1 on m ∷ []) (2 by 0 on m ∷ []) (pos 0)

-- one element with these copies, from an offset on m
abbrev pub element_copied : List Iter → ℕ → Card
element_copied replica offset = from_m (1 by 0 on m ∷ []) replica (pos offset) 3 unswizzled

-- one element in tensor memory with copies to both sides, by the same stride
abbrev pub both_sides : Card
both_sides = in_tensor_memory (1 by 0 on TLane ∷ []) (2 by 1 on TLane ∷ 2 by 1 on TCol ∷ []) 2 2

-- 004's scale factors: 32 rows, routed to the four warps of a warpgroup
abbrev pub scale_factors : Card
scale_factors = in_tensor_memory (32 by 1 on TLane ∷ 4 by 1 on TCol ∷ []) (4 by 32 on TLane ∷ []) 128 4

-- a card with reuse marks on its first iters
abbrev pub with_marks : List Bool → Card → Card
with_marks marks card =
    record {
      shard = card.shard;
      marks = padded false marks;
      replica = card.replica;
      offset = card.offset;
      lengths = card.lengths;
      swizzle = card.swizzle;
    }

-- 004's scale factors used twice: an iter of stride 0 before them
abbrev pub reused_factors : Card
reused_factors = in_tensor_memory (2 by 0 on TCol ∷ 32 by 1 on TLane ∷ 4 by 1 on TCol ∷ []) (4 by 32 on TLane ∷ []) 128 4

-- three cells, each with four elements, and copies further on
abbrev pub four_each : ℕ → ℕ → Card
four_each stride long = from_m (2 by 0 on m ∷ 3 by 1 on m ∷ 2 by 0 on m ∷ []) (2 by stride on m ∷ []) (pos 0) long unswizzled

-- 65 elements in a row, swizzled
abbrev pub sixty_five : ℕ → Card
sixty_five long = only_on_m (65 by 1 on m ∷ []) long (swizzle 3 3 3)

-- Figure 189's layout as printed
abbrev pub figure189 : Card
figure189 = only_on_m (2 by 64 on m ∷ 8 by 8 on m ∷ 4 by 4 on m ∷ 4 by 1 on m ∷ []) 256 (swizzle 2 1 3)

-- a card that says to have so many shard and replica iters, whatever stands in their slots
abbrev pub saying_counts : ℕ → ℕ → Card → Card
saying_counts shards replicas card =
    record {
      shard = record { at = card.shard.at; count = shards };
      marks = card.marks;
      replica = record { at = card.replica.at; count = replicas };
      offset = card.offset;
      lengths = card.lengths;
      swizzle = card.swizzle;
    }

-- one element with so many copies in a row
abbrev pub in_a_row : ℕ → Card
in_a_row copies = from_m (1 by 0 on m ∷ []) (copies by 1 on m ∷ []) (pos 0) copies unswizzled

-- as many iters as a card has room for, all of extent 1
abbrev pub full_card : Card
full_card = from_m (replicate 8 (1 by 0 on m)) (replicate 4 (1 by 0 on m)) (pos 0) 1 unswizzled

-- two elements in a row from an offset on, in six cells; the same two, the last first; and with copies two cells on
abbrev pub two_from : ℕ → Card
two_from offset = from_m (2 by 1 on m ∷ []) [] (pos offset) 6 unswizzled

abbrev pub two_turned : Card
two_turned = from_m (2 back 1 on m ∷ []) [] (pos 1) 6 unswizzled

abbrev pub two_twice : Card
two_twice = from_m (2 by 1 on m ∷ []) (2 by 2 on m ∷ []) (pos 0) 6 unswizzled
