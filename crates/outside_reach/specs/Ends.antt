-- The far ends of a card: the components that move every axis furthest up, or furthest down. Nothing here has to be believed.
use Rattle.std.specs.Prelude.{ℕ, ◌*◌, ◌-◌, ◌/◌, Bool, cond, List, map, ℤ, pos}
use Rattle.std.specs.Int.Signed.{le_z}
use Rattle.card.specs.Card.{listed, extent_of}
use Rattle.card.specs.declared.Iter.{Iter}
use Rattle.card.specs.declared.Iters.{Iters}
use Rattle.card.specs.declared.Card.{Card}
use Rattle.rules.specs.RowMajor.{row_major}
use Rattle.rules.specs.Rules.{sum}

-- the component of an iter that moves its axis furthest up, or down
abbrev pub far_end : Bool → Iter → ℕ
far_end up iter = cond up (cond (le_z (pos 0) iter.stride) (iter.extent - 1) 0) (cond (le_z (pos 0) iter.stride) 0 (iter.extent - 1))

abbrev pub ends : Bool → List Iter → List ℕ
ends up l = map (far_end up) l

-- the index with these components
abbrev pub end_index : Bool → Iters → ℕ
end_index up iters = row_major (map extent_of (listed iters)) (ends up (listed iters))

-- the sum of the copy that lies there
abbrev pub end_sum : Bool → Card → ℕ → ℤ
end_sum up card axis = sum card (end_index up card.shard) (end_index up card.replica) axis

-- what a coordinate has to lie below: the length of its axis, of m the whole blocks of it
abbrev pub whole_blocks : ℕ → ℕ → ℕ
whole_blocks length block = length / block * block
