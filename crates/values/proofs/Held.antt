-- Dealing and collecting by what the two questions of a warp answer: each answer decides what a register or a place gets.
use Rattle.std.specs.Prelude.{Ok, Err}
use mathlib.Core.Path.{◌≡◌, ap, ◌∙◌}
use mathlib.Core.Bool.{false, cond}
use mathlib.Core.List.{List}
use Prim.Native.Nat.{ℕ, ◌<◌}
use native.Mathlib.Omega.{arith}
use lib.Dec.{eqb}
use Rattle.answers.specs.declared.Refusal.{Refusal}
use Rattle.laws.proofs.Rungs.{apart, passed_by}
use Rattle.fragment.specs.declared.Place.{Place}
use Rattle.fragment.specs.declared.Slot.{Slot}
use Rattle.fragment.specs.Kinds.{at}
use Rattle.fragment.specs.Fragment.{is_slot, held_answer, HolderAnswer}
use Rattle.fragment.proofs.Inside.{slot_numbers, place_numbers}
use Rattle.fragment.proofs.Back.{by}
use Rattle.fragment.proofs.Theorems.{answered, stays_inside, leads_back}
use Rattle.values.specs.Values.{is_own, in_tile, dealt_entry, collected_entry}
use Rattle.values.proofs.Holder.{in_lanes, collected_back}

-- a register that holds a place: it is the computation's own exactly when the place is
pub own_held : (kind c lane i : ℕ) (p : Place) → held_answer kind lane i ≡ Ok p → is_own kind c lane i ≡ eqb p.computation c
own_held kind c lane i p e =
    let a = answered kind (by lane i) p e in rw a.0 (ap (λ (q : Place). eqb q.computation c) a.1)

-- and its row and column lie in a tile
pub place_in_tile : (kind lane i : ℕ) (p : Place) → held_answer kind lane i ≡ Ok p → (p.row < 8) × (p.column < 8)
place_in_tile kind lane i p e =
    let n = place_numbers kind p (stays_inside kind (by lane i) p e) in
    (omega (arith, n.of_row, n.sizes_of.most_rows), omega (arith, n.of_column, n.sizes_of.most_columns))

-- no such register: it is nobody's
pub own_not_held : (kind c lane i : ℕ) (r : Refusal) → held_answer kind lane i ≡ Err r → is_own kind c lane i ≡ false
own_not_held kind c lane i r e = rw (passed_by (is_slot kind lane i) e (λ q. apart (cc))).0

-- the register that holds a place of the matrix is one of the lanes'
pub slot_in_lanes : (kind : ℕ) (p : Place) (s : Slot) → HolderAnswer kind p (Ok s) → (s.lane < 32) × (s.register < 8)
slot_in_lanes kind p s e =
    let n = slot_numbers kind s.lane s.register (answered kind s p e).0 in
    (n.of_lane, omega (arith, n.of_register, n.sizes_of.most_registers))

module _ {A : Type 0} (other : A) (kind c : ℕ) where
  pub dealt_held : (tile : List (List A)) (lane i : ℕ) (given : A) (p : Place) → held_answer kind lane i ≡ Ok p
      → dealt_entry other kind c tile lane i given ≡ cond (eqb p.computation c) (in_tile other tile p) given
  dealt_held tile lane i given p e =
      rw (own_held kind c lane i p e) (ap (λ (q : Place). cond (eqb p.computation c) (in_tile other tile q) given) (answered kind (by lane i) p e).1)

  pub collected_held : (lanes : List (List A)) (row column : ℕ) (given : A) (s : Slot) → HolderAnswer kind (at c row column) (Ok s)
      → collected_entry other kind c lanes row column given ≡ in_lanes other lanes s
  collected_held lanes row column given s e =
      collected_back other kind c lanes row column given
      ∙ rw (stays_inside kind s (at c row column) e) (ap (in_lanes other lanes) (leads_back kind s (at c row column) e))
