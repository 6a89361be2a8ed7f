-- The admission of a card: document 01's checks 1 to 6, in this order.
use Rattle.std.specs.Prelude.{ℕ, Bool, true, cond, not, ◌&&◌, ◌||◌, List, [], ◌∷◌, map, leb, ℤ, pos, Result, ⊤, Err, Ok}
use Rattle.answers.specs.declared.Refusal.{Refusal}
use Rattle.answers.specs.Refusals.{answer, refusal_numbers, numbers_of, just_zero, no_refusal}
use Rattle.answers.specs.declared.Numbers.{Numbers}
use Rattle.answers.specs.declared.Refusal.TheVariants.{Counts, Limits, Axis, Space, TooMany, Swizzle}
use Rattle.swizzle.specs.Swizzle.{permitted}
use Rattle.card.specs.Lists.{all, within, within_z, product}
use Rattle.card.specs.Limits.{most_shard, most_replica, most_extent, least_stride, most_stride, last_axis, most_length, most_cells, most_elements, most_copies}
use Rattle.card.specs.Card.{listed, marks_of, extent_of, stride_of, axis_of, elements, copies}
use Rattle.card.specs.declared.Iters.{Iters}
use Rattle.card.specs.declared.Card.{Card}

-- check 1: shard and replica iter count within limits
abbrev pub counts_fit : Card → Bool
counts_fit card = within 1 most_shard card.shard.count && leb card.replica.count most_replica

-- check 2: every extent, stride and offset within limits
abbrev pub iters_fit : Iters → Bool
iters_fit iters = all (within 1 most_extent) (map extent_of (listed iters)) && all (within_z least_stride most_stride) (map stride_of (listed iters))

-- for a marked iter the only stride within the limits is 0
abbrev pub marks_fit : List Bool → List ℤ → Bool
marks_fit [] strides = true
marks_fit (mark ∷ marks) [] = true
marks_fit (mark ∷ marks) (stride ∷ strides) = (not mark || within_z (pos 0) (pos 0) stride) && marks_fit marks strides

abbrev pub numbers_fit : Card → Bool
numbers_fit card =
    iters_fit card.shard
    && marks_fit (marks_of card) (map stride_of (listed card.shard))
    && iters_fit card.replica
    && all (within_z least_stride most_stride) card.offset

-- check 3: no axis above 7
abbrev pub iters_on_axes : Iters → Bool
iters_on_axes iters = all (within 0 last_axis) (map axis_of (listed iters))

abbrev pub axes_fit : Card → Bool
axes_fit card = iters_on_axes card.shard && iters_on_axes card.replica

-- check 4: every length within limits, and not too many cells
abbrev pub space_fits : List ℕ → Bool
space_fits lengths = all (within 1 most_length) lengths && leb (product lengths) most_cells

-- check 5: not too many elements or copies
abbrev pub few_enough : Card → Bool
few_enough card = leb (elements card) most_elements && leb (copies card) most_copies

-- check 6: the swizzle numbers are permitted
abbrev pub swizzle_fits : Card → Bool
swizzle_fits card = permitted card.swizzle.m card.swizzle.b card.swizzle.s

-- checks 1 to 3, and what comes where a card passes them: the first check that it fails refuses it
abbrev pub field_checks : Card → Result ⊤ Refusal → Result ⊤ Refusal
field_checks card then =
    cond (not (counts_fit card)) (Err Counts)
    (cond (not (numbers_fit card)) (Err Limits)
    (cond (not (axes_fit card)) (Err Axis)
    then))

-- checks 1 to 6
unfoldable pub admission : Card → Result ⊤ Refusal
admission card =
    field_checks card
    (cond (not (space_fits card.lengths)) (Err Space)
    (cond (not (few_enough card)) (Err TooMany)
    (cond (not (swizzle_fits card)) (Err Swizzle)
    no_refusal)))

-- an admission has no details
abbrev pub admission_numbers : Result ⊤ Refusal → Numbers
admission_numbers = numbers_of just_zero
