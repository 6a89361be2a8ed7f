-- What a layout card holds: its iters are the first count of each list, and their products are the elements, the copies and the cells.
use Rattle.std.specs.Prelude.{ℕ, ℤ, pos, Bool, false, cond, List, [], map, length, replicate, take}
use Rattle.card.specs.Lists.{product, padded}
use Rattle.card.specs.declared.Iter.{Iter}
use Rattle.card.specs.declared.Iters.{Iters}
use Rattle.card.specs.declared.Card.{Card}

-- iters past the count are ignored
abbrev pub listed : Iters → List Iter
listed iters = take iters.count iters.at

-- the reuse marks of the shard's iters, and marks past the count are ignored too
abbrev pub marks_of : Card → List Bool
marks_of card = take card.shard.count card.marks

-- a mark as a number
abbrev pub mark_number : Bool → ℕ
mark_number mark = cond mark 1 0

abbrev pub extent_of : Iter → ℕ
extent_of iter = iter.extent

abbrev pub stride_of : Iter → ℤ
stride_of iter = iter.stride

abbrev pub axis_of : Iter → ℕ
axis_of iter = iter.axis

-- the product of the extents of a list of iters, 1 when there are none
abbrev pub size : Iters → ℕ
size iters = product (map extent_of (listed iters))

-- the elements: the product of shard extents
abbrev pub elements : Card → ℕ
elements card = size card.shard

-- the copies of an element: the product of replica extents
abbrev pub copies : Card → ℕ
copies card = size card.replica

-- the cells: the product of the lengths
abbrev pub cells : Card → ℕ
cells card = product card.lengths

-- an empty slot
abbrev pub none : Iter
none = record { extent = 0; stride = pos 0; axis = 0 }

-- a list of iters as a card has it
abbrev pub counted : List Iter → Iters
counted iters = record { at = padded none iters; count = length iters }

-- what of a card is kept where it is written: slots and marks past a count are zeros
abbrev pub kept_iters : Iters → Iters
kept_iters iters = record { at = padded none (listed iters); count = iters.count }

abbrev pub kept : Card → Card
kept card = record {
  shard = kept_iters card.shard;
  marks = padded false (marks_of card);
  replica = kept_iters card.replica;
  offset = card.offset;
  lengths = card.lengths;
  swizzle = card.swizzle;
}

-- a card of zeros, which stands where none is given
abbrev pub no_card : Card
no_card = record {
  shard = counted [];
  marks = replicate 8 false;
  replica = counted [];
  offset = replicate 8 (pos 0);
  lengths = replicate 8 0;
  swizzle = record { m = 0; b = 0; s = 0 };
}
