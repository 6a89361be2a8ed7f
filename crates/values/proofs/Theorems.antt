-- Dealing and collecting undo each other, once over the kinds and over values of any type: a register and its place lead to each other.
use mathlib.Core.Path.{◌≡◌, refl, sym, ap, ◌∙◌}
use mathlib.Core.Bool.{Bool, true, false, cond, and-eq-true_iff}
use mathlib.Core.List.{List}
use Prim.Native.Nat.{ℕ, ◌<◌}
use native.Mathlib.Omega.{arith}
use borrow.Author.Tests.{eqb-true, eq-eqb}
use lib.Dec.{eqb}
use Rattle.fragment.specs.declared.Place.{Place}
use Rattle.fragment.specs.declared.Slot.{Slot}
use Rattle.fragment.specs.Kinds.{at, place}
use Rattle.fragment.specs.Fragment.{is_slot, is_place}
use Rattle.fragment.proofs.Inside.{slot_numbers, place_numbers}
use Rattle.fragment.proofs.Back.{back}
use Rattle.values.specs.Rows.{entry}
use Rattle.values.specs.Values.{is_own, in_tile, dealt_entry, dealt, collected_entry, collected}
use Rattle.values.proofs.Holder.{own, led_to_own, in_lanes, collected_back}
use Rattle.values.proofs.Rows.{Shape, entry_each, entry_kept, each_shape, rows_equal}

-- a tile and the lanes by their shape
abbrev pub IsTile : {A : Type 0} → List (List A) → Type 0
IsTile = Shape 8 8

abbrev pub AreLanes : {A : Type 0} → List (List A) → Type 0
AreLanes = Shape 32 8

module _ {A : Type 0} (other : A) (kind c : ℕ) where
  -- dealt: a register of the computation has what its place has
  pub dealt_own : (tile lanes : List (List A)) (lane i : ℕ) → AreLanes lanes → is_own kind c lane i ≡ true
      → entry other (dealt other kind c tile lanes) lane i ≡ in_tile other tile (place kind lane i)
  dealt_own tile lanes lane i l e =
      let s = slot_numbers kind lane i (own kind c lane i e).slot in
      let inside : i < 8 = omega (arith, s.of_register, s.sizes_of.most_registers) in
      entry_each (dealt_entry other kind c tile) lanes lane i other (rw (l.of_columns lane s.of_lane) inside)
      ∙ ap (λ (b : Bool). cond b (in_tile other tile (place kind lane i)) (entry other lanes lane i)) e

  -- collected: a place of the matrix has what its register has
  pub collected_place : (lanes tile : List (List A)) (row column : ℕ) → IsTile tile → is_place kind (at c row column) ≡ true
      → entry other (collected other kind c lanes tile) row column ≡ in_lanes other lanes (back kind (at c row column))
  collected_place lanes tile row column t e =
      let n = place_numbers kind (at c row column) e in
      let of_row : row < 8 = omega (arith, n.of_row, n.sizes_of.most_rows) in
      let of_column : column < 8 = omega (arith, n.of_column, n.sizes_of.most_columns) in
      entry_each (collected_entry other kind c lanes) tile row column other (rw (t.of_columns row of_row) of_column)
      ∙ collected_back other kind c lanes row column (entry other tile row column)
      ∙ ap (λ (b : Bool). cond b (in_lanes other lanes (back kind (at c row column))) (entry other tile row column)) e

  -- every other register, and every other place, stays as given
  pub dealt_other : (tile lanes : List (List A)) (lane i : ℕ) → is_own kind c lane i ≡ false
      → entry other (dealt other kind c tile lanes) lane i ≡ entry other lanes lane i
  dealt_other tile lanes lane i e = entry_kept (dealt_entry other kind c tile) lanes lane i other (λ x. rw e)

  pub collected_other : (lanes tile : List (List A)) (row column : ℕ) → is_place kind (at c row column) ≡ false
      → entry other (collected other kind c lanes tile) row column ≡ entry other tile row column
  collected_other lanes tile row column e = entry_kept (collected_entry other kind c lanes) tile row column other (λ x. collected_back other kind c lanes row column x ∙ rw e refl)

-- Document 02's request 1: on the computation's own lanes and on the places of its matrix dealing and collecting undo each other,
-- whatever stood before in what they fill; every other register and place stays as given
pub record UndoEachOther {A : Type 0} (other : A) (kind c : ℕ) : Type 0 where
  pub on_places : (tile lanes into : List (List A)) (row column : ℕ) → AreLanes lanes → IsTile into → is_place kind (at c row column) ≡ true
      → entry other (collected other kind c (dealt other kind c tile lanes) into) row column ≡ entry other tile row column
  pub on_lanes : (lanes tile into : List (List A)) (lane i : ℕ) → IsTile tile → AreLanes into → is_own kind c lane i ≡ true
      → entry other (dealt other kind c (collected other kind c lanes tile) into) lane i ≡ entry other lanes lane i
  pub other_places : (lanes tile : List (List A)) (row column : ℕ) → is_place kind (at c row column) ≡ false
      → entry other (collected other kind c lanes tile) row column ≡ entry other tile row column
  pub other_lanes : (tile lanes : List (List A)) (lane i : ℕ) → is_own kind c lane i ≡ false
      → entry other (dealt other kind c tile lanes) lane i ≡ entry other lanes lane i
  -- as wholes
  pub tile_back : (tile lanes : List (List A)) → IsTile tile → AreLanes lanes
      → collected other kind c (dealt other kind c tile lanes) tile ≡ tile
  pub lanes_back : (lanes tile : List (List A)) → AreLanes lanes → IsTile tile
      → dealt other kind c (collected other kind c lanes tile) lanes ≡ lanes

-- what a test's yes and its no both give
by_test : {P : Type 0} (b : Bool) → (b ≡ true → P) → (b ≡ false → P) → P
by_test true p q = p refl
by_test false p q = q refl

module _ {A : Type 0} (other : A) (kind c : ℕ) where
  on_places_of : (tile lanes into : List (List A)) (row column : ℕ) → AreLanes lanes → IsTile into → is_place kind (at c row column) ≡ true
      → entry other (collected other kind c (dealt other kind c tile lanes) into) row column ≡ entry other tile row column
  on_places_of tile lanes into row column l u e =
      let s : Slot = back kind (at c row column) in
      let o = led_to_own kind c row column e in
      collected_place other kind c (dealt other kind c tile lanes) into row column u e
      ∙ dealt_own other kind c tile lanes s.lane s.register l o.0
      ∙ ap (in_tile other tile) o.1

  -- what was collected from a register stands at its place
  pub in_place : (lanes tile : List (List A)) → IsTile tile → (lane i : ℕ) → is_own kind c lane i ≡ true
      → in_tile other (collected other kind c lanes tile) (place kind lane i) ≡ entry other lanes lane i
  in_place lanes tile t lane i e =
      let o = own kind c lane i e in
      let p : Place = place kind lane i in
      collected_place other kind c lanes tile p.row p.column t o.of_matrix
      ∙ ap (λ (q : Place). in_lanes other lanes (back kind q)) o.on_place
      ∙ ap (in_lanes other lanes) o.leads_back

  on_lanes_of : (lanes tile into : List (List A)) (lane i : ℕ) → IsTile tile → AreLanes into → is_own kind c lane i ≡ true
      → entry other (dealt other kind c (collected other kind c lanes tile) into) lane i ≡ entry other lanes lane i
  on_lanes_of lanes tile into lane i t u e =
      dealt_own other kind c (collected other kind c lanes tile) into lane i u e ∙ in_place lanes tile t lane i e

  pub undo_each_other : UndoEachOther other kind c
  undo_each_other = record {
    on_places = on_places_of;
    on_lanes = on_lanes_of;
    other_places = collected_other other kind c;
    other_lanes = dealt_other other kind c;
    tile_back = λ tile lanes t l.
        rows_equal other (collected other kind c (dealt other kind c tile lanes) tile) tile 8 8
        (each_shape (collected_entry other kind c (dealt other kind c tile lanes)) tile 8 8 t) t
        (λ row column h i.
        by_test (is_place kind (at c row column)) (on_places_of tile lanes tile row column l t)
        (collected_other other kind c (dealt other kind c tile lanes) tile row column));
    lanes_back = λ lanes tile l t.
        rows_equal other (dealt other kind c (collected other kind c lanes tile) lanes) lanes 32 8
        (each_shape (dealt_entry other kind c (collected other kind c lanes tile)) lanes 32 8 l) l
        (λ lane j h i.
        by_test (is_own kind c lane j) (on_lanes_of lanes tile lanes lane j t l)
        (dealt_other other kind c (collected other kind c lanes tile) lanes lane j));
  }
