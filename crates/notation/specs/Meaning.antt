-- What a text says of a card: its shard with its marks, its replica and its offset.
use Rattle.std.specs.Prelude.{ℕ, Bool, false, cond, List, [], ◌∷◌, map, ℤ, pos, neg_ℤ, length, set, replicate}
use Rattle.card.specs.Lists.{padded}
use Rattle.card.specs.Card.{none}
use Rattle.card.specs.declared.Iter.{Iter}
use Rattle.card.specs.declared.Iters.{Iters}
use Rattle.notation.specs.Text.{axis_meant, is_marked, Lists, Notation}
use Rattle.notation.specs.declared.Step.{Step}
use Rattle.notation.specs.declared.Layout.{Layout}

-- a stride or an offset as a number
abbrev pub value_of : Step → ℤ
value_of s = cond s.negative (neg_ℤ (pos s.size)) (pos s.size)

abbrev pub iters_said : List ℕ → List Step → List Iter
iters_said [] steps = []
iters_said (e ∷ es) [] = record { extent = e; stride = pos 0; axis = 0 } ∷ iters_said es []
iters_said (e ∷ es) (s ∷ ss) = record { extent = e; stride = value_of s; axis = axis_meant s.place } ∷ iters_said es ss

abbrev pub list_of : Lists → Iters
list_of l = record { at = padded none (iters_said l.extents l.steps); count = length l.extents }

abbrev pub mark_of : Step → Bool
mark_of s = is_marked s.place

-- each offset stands at its axis
abbrev pub laid : List ℤ → List Step → List ℤ
laid offset [] = offset
laid offset (s ∷ ss) = laid (set offset (axis_meant s.place) (value_of s)) ss

abbrev pub no_offset : List ℤ
no_offset = replicate 8 (pos 0)

abbrev pub layout_of : Notation → Layout
layout_of n = record {
  shard = list_of n.shard;
  marks = padded false (map mark_of n.shard.steps);
  replica = list_of n.replica;
  offset = laid no_offset n.offsets;
}
