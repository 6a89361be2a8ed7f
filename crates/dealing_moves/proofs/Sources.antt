-- Dealing and collecting by the number that says where a value comes from: below the tile's or the lanes' end it is the value's own place, else
-- nothing is moved. By cases on whose a register or a place is.
use mathlib.Core.Path.{◌≡◌, refl, sym, ap, ◌∙◌}
use mathlib.Core.Bool.{Bool, true, false, cond}
use mathlib.Core.List.{List}
use Prim.Native.Nat.{ℕ, ◌+◌, ◌*◌, ◌/◌, ◌%◌, ◌<◌}
use native.Mathlib.Omega.{arith}
use borrow.Author.Tests.{lt-ltb}
use lib.Dec.{ltb}
use Rattle.fragment.specs.declared.Place.{Place}
use Rattle.fragment.specs.declared.Slot.{Slot}
use Rattle.fragment.specs.Kinds.{at, place}
use Rattle.fragment.specs.Fragment.{is_place}
use Rattle.fragment.proofs.Inside.{slot_numbers, place_numbers}
use Rattle.fragment.proofs.Back.{back, place_back}
use Rattle.values.specs.Values.{is_own, dealt_entry, collected_entry}
use Rattle.values.proofs.Holder.{own, in_lanes, collected_back}
use Rattle.dealing_moves.specs.Moves.{source_of, holder_of, from_rows}

module _ (kind c lane i : ℕ) where
  -- row and column of a register of the computation lie in a tile
  pub own_in_tile : is_own kind c lane i ≡ true → ((place kind lane i).row < 8) × ((place kind lane i).column < 8)
  own_in_tile e =
      let p : Place = place kind lane i in
      let n = place_numbers kind (at c p.row p.column) (own kind c lane i e).of_matrix in
      (omega (arith, n.of_row, n.sizes_of.most_rows), omega (arith, n.of_column, n.sizes_of.most_columns))

  -- whose a register is, by its source
  pub own_source : is_own kind c lane i ≡ ltb (source_of kind c lane i) 64
  own_source = by (is_own kind c lane i) refl
    where
      by : (b : Bool) → is_own kind c lane i ≡ b → is_own kind c lane i ≡ ltb (source_of kind c lane i) 64
      by true e = let n = own_in_tile e in rw (e, lt-ltb (8 * (place kind lane i).row + (place kind lane i).column) 64 (omega arith))
      by false e = rw e

module _ {A : Type 0} (other : A) (kind c : ℕ) where
  -- what a register is dealt stands in the tile at its source
  pub dealt_from : (tile : List (List A)) (lane i : ℕ) (given : A) (p : ℕ) → p ≡ source_of kind c lane i
      → dealt_entry other kind c tile lane i given ≡ from_rows other 8 tile given p
  dealt_from tile lane i given p source = by (is_own kind c lane i) refl ∙ ap (from_rows other 8 tile given) (sym source)
    where
      by : (b : Bool) → is_own kind c lane i ≡ b → dealt_entry other kind c tile lane i given ≡ from_rows other 8 tile given (source_of kind c lane i)
      by true e =
          let p : Place = place kind lane i in
          let n = own_in_tile kind c lane i e in
          let row : (8 * p.row + p.column) / 8 ≡ p.row = omega arith in
          let column : (8 * p.row + p.column) % 8 ≡ p.column = omega arith in
          rw (e, row, column, lt-ltb p.row 8 n.0)
      by false e = rw e

  -- what a place is collected from stands in the lanes at its holder
  pub collected_from : (lanes : List (List A)) (row column : ℕ) (given : A) (s : ℕ) → s ≡ holder_of kind c row column
      → collected_entry other kind c lanes row column given ≡ from_rows other 32 lanes given s
  collected_from lanes row column given s holder =
      collected_back other kind c lanes row column given ∙ by (is_place kind (at c row column)) refl ∙ ap (from_rows other 32 lanes given) (sym holder)
    where
      by : (b : Bool) → is_place kind (at c row column) ≡ b
          → cond (is_place kind (at c row column)) (in_lanes other lanes (back kind (at c row column))) given ≡ from_rows other 32 lanes given (holder_of kind c row column)
      by true e =
          let s : Slot = back kind (at c row column) in
          let n = slot_numbers kind s.lane s.register (place_back kind (at c row column) e).0 in
          let inside : s.register < 8 = omega (arith, n.of_register, n.sizes_of.most_registers) in
          let lane : (8 * s.lane + s.register) / 8 ≡ s.lane = omega arith in
          let register : (8 * s.lane + s.register) % 8 ≡ s.register = omega arith in
          rw (e, lane, register, lt-ltb s.lane 32 (omega (arith, n.of_lane)))
      by false e = rw e
