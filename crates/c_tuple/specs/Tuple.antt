-- A shape, or coordinates, as nine numbers.
use Rattle.std.specs.Prelude.{ℕ, ◌+◌, List, map, get_or}
use Rattle.c_card.specs.Card.{eight}
use Rattle.placement_judged.specs.declared.Tuple.{Tuple}

-- a shape, or coordinates: a count, and then eight numbers
abbrev pub tuple_from : List ℕ → Tuple
tuple_from numbers = record { at = map (λ k. get_or numbers (1 + k) 0) eight; count = get_or numbers 0 0 }
