-- The table of kind 5, as its function promises it.
use Rattle.std.specs.Prelude.{ℕ, ◌+◌, ◌*◌}
use Rattle.fragment.specs.declared.Place.{Place}

-- kind 5 is also kept as a table of 256 numbers: entry 8·lane+i holds 64·computation+8·row+column
abbrev pub packed : Place → ℕ
packed p = 64 * p.computation + 8 * p.row + p.column
