-- What a register is dealt and what a place is collected from, entry by entry: what stands where the value comes from, or nothing. The move is made
-- into empty registers, so that the entry is the rule's own.
use mathlib.Core.Path.{◌≡◌, ap, ◌∙◌}
use mathlib.Core.List.{List}
use Prim.Native.Nat.{ℕ, ◌*◌, ◌/◌, ◌%◌, ◌≤◌, ◌<◌}
use native.Mathlib.Omega.{arith}
use borrow.Author.Tests.{lt-ltb, le-ltb}
use Rattle.c_bits.specs.declared.Bits.{Bits}
use Rattle.c_bits.specs.declared.Bits.TheVariants.{Empty}
use Rattle.values.specs.Rows.{entry}
use Rattle.values.specs.Values.{dealt_entry, dealt, collected_entry, collected}
use Rattle.values.proofs.Rows.{entry_each}
use Rattle.dealing_moves.specs.Moves.{source_of, holder_of, from_rows}
use Rattle.dealing_moves.proofs.Sources.{dealt_from, collected_from}
use Rattle.c_bits.specs.Bits.{empties}
use Rattle.c_bits.proofs.Empties.{empties_at, empties_shape}

-- what stands in rows of eight where a number says
module _ (rows : List (List Bits)) (size s : ℕ) where
  pub from_there : s < 8 * size → from_rows Empty size rows Empty s ≡ entry Empty rows (s / 8) (s % 8)
  from_there k = rw (lt-ltb (s / 8) size (omega arith))

  pub from_nothing : 8 * size ≤ s → from_rows Empty size rows Empty s ≡ Empty
  from_nothing k = rw (le-ltb (s / 8) size (omega arith))

pub dealt_from_tile : (kind c : ℕ) (tile : List (List Bits)) (n p : ℕ) → n < 256 → p ≡ source_of kind c (n / 8) (n % 8)
    → entry Empty (dealt Empty kind c tile (empties 32)) (n / 8) (n % 8) ≡ from_rows Empty 8 tile Empty p
dealt_from_tile kind c tile n p h e =
    let lane : n / 8 < 32 = omega arith in
    let place : n % 8 < 8 = omega arith in
    entry_each (dealt_entry Empty kind c tile) (empties 32) (n / 8) (n % 8) Empty (rw ((empties_shape 32).of_columns (n / 8) lane) place)
    ∙ ap (dealt_entry Empty kind c tile (n / 8) (n % 8)) (empties_at 32 (n / 8) (n % 8) lane place)
    ∙ dealt_from Empty kind c tile (n / 8) (n % 8) Empty p e

pub collected_from_lanes : (kind c : ℕ) (lanes : List (List Bits)) (j s : ℕ) → j < 64 → s ≡ holder_of kind c (j / 8) (j % 8)
    → entry Empty (collected Empty kind c lanes (empties 8)) (j / 8) (j % 8) ≡ from_rows Empty 32 lanes Empty s
collected_from_lanes kind c lanes j s h e =
    let row : j / 8 < 8 = omega arith in
    let column : j % 8 < 8 = omega arith in
    entry_each (collected_entry Empty kind c lanes) (empties 8) (j / 8) (j % 8) Empty (rw ((empties_shape 8).of_columns (j / 8) row) column)
    ∙ ap (collected_entry Empty kind c lanes (j / 8) (j % 8)) (empties_at 8 (j / 8) (j % 8) row column)
    ∙ collected_from Empty kind c lanes (j / 8) (j % 8) Empty s e
