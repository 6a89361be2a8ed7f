-- A card as 57 numbers, in the order of docs/PROTOCOL.md, strides and offsets in two's complement, and one number for its marks; and an answer as
-- four numbers.
use Rattle.std.specs.Prelude.{ℕ, ◌+◌, ◌*◌, ◌-◌, ◌^◌, Bool, cond, List, [], ◌∷◌, ◌++◌, map, ltb, ℤ, pos, negsuc, get_or, replicate}
use Rattle.answers.specs.declared.Numbers.{Numbers}
use Rattle.descriptor.specs.Descriptor.{yes}
use Rattle.card.specs.declared.Iter.{Iter}
use Rattle.card.specs.declared.Iters.{Iters}
use Rattle.card.specs.declared.Card.{Card}

-- the number that 64 bits are in two's complement
abbrev pub signed64 : ℕ → ℤ
signed64 n = cond (ltb n (2 ^ 63)) (pos n) (negsuc (2 ^ 64 - (n + 1)))

-- an iter: extent, stride, axis
abbrev pub iter_from : List ℕ → ℕ → Iter
iter_from numbers from = record { extent = get_or numbers from 0; stride = signed64 (get_or numbers (from + 1) 0); axis = get_or numbers (from + 2) 0 }

abbrev pub iters_from : List ℕ → ℕ → List ℕ → List Iter
iters_from numbers from slots = map (λ k. iter_from numbers (from + 1 + 3 * k)) slots

abbrev pub eight : List ℕ
eight = 0 ∷ 1 ∷ 2 ∷ 3 ∷ 4 ∷ 5 ∷ 6 ∷ 7 ∷ []

-- the shard count and eight iters; the replica count and four iters, the other four slots empty
abbrev pub shard_from : List ℕ → Iters
shard_from numbers = record { at = iters_from numbers 0 eight; count = get_or numbers 0 0 }

abbrev pub replica_from : List ℕ → Iters
replica_from numbers = record {
  at = iters_from numbers 25 (0 ∷ 1 ∷ 2 ∷ 3 ∷ []) ++ replicate 4 (record { extent = 0; stride = pos 0; axis = 0 });
  count = get_or numbers 25 0;
}

-- the eight offsets and the eight lengths, pid to m; M, B, S
abbrev pub offset_from : List ℕ → List ℤ
offset_from numbers = map (λ k. signed64 (get_or numbers (38 + k) 0)) eight

abbrev pub lengths_from : List ℕ → List ℕ
lengths_from numbers = map (λ k. get_or numbers (46 + k) 0) eight

-- bit k marks shard iter k
abbrev pub marks_from : ℕ → List Bool
marks_from marks = map (λ k. yes k marks) eight

abbrev pub card_from : List ℕ → ℕ → Card
card_from numbers marks = record {
  shard = shard_from numbers;
  marks = marks_from marks;
  replica = replica_from numbers;
  offset = offset_from numbers;
  lengths = lengths_from numbers;
  swizzle = record { m = get_or numbers 54 0; b = get_or numbers 55 0; s = get_or numbers 56 0 };
}

-- an answer's number and its three details
abbrev pub four : Numbers → List ℕ
four n = n.number ∷ n.a ∷ n.b ∷ n.c ∷ []
