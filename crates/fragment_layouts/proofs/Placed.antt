-- A fragment is a layout: what a register holds is placed in that lane and register, by one computed test over all registers of all kinds.
use Rattle.std.specs.Prelude.{Result, ⊤, Ok, Err}
use mathlib.Core.Path.{◌≡◌, refl, sym, ap, ◌∙◌}
use mathlib.Core.Bool.{Bool, true, false, ◌&&◌, and-eq-true_iff}
use mathlib.Core.List.{List, ◌∷◌}
use Prim.Native.Nat.{ℕ, ◌≤◌, ◌<◌}
use borrow.Author.Tests.{eqb-true, le-leb}
use lib.Dec.{eqb}
use lib.ListN.{length, drop}
use Rattle.answers.specs.Refusals.{no_refusal}
use Rattle.answers.specs.declared.Refusal.{Refusal}
use Rattle.laws.proofs.Below.{below, below_at}
use Rattle.laws.proofs.Rungs.{apart}
use Rattle.swizzle.specs.Swizzle.{swizzled}
use Rattle.fragment.specs.Kinds.{rows, columns, computations, computation, registers, place}
use Rattle.fragment.specs.Fragment.{is_slot}
use Rattle.fragment.proofs.Inside.{slot_numbers}
use Rattle.card.specs.Card.{elements}
use Rattle.card.specs.Admission.{admission}
use Rattle.rules.specs.RowMajor.{position}
use Rattle.rules.specs.Rules.{coordinates, spot}
use Rattle.rules.specs.Copies.{copy_cells, outside_axis}
use Rattle.rules.specs.declared.Spot.{Spot}
use Rattle.rules.specs.declared.Spot.TheVariants.{Inside, Outside}
use Rattle.idle.specs.Run.{pair_of}
use Rattle.idle.specs.Admission.{full_admission}
use Rattle.placement_judged.specs.Placement.{shape_admitted, coordinates_fit, placement_answer, placement_memory, Placing}
use Rattle.fragment_layouts.specs.Layouts.{kind_shard, kind_card, shape_of, coordinates_of, element_of, slot_cell}

abbrev is_admitted : Result ⊤ Refusal → Bool
is_admitted (Ok _) = true
is_admitted (Err refusal) = false

admitted_is : (a : Result ⊤ Refusal) → is_admitted a ≡ true → a ≡ no_refusal
admitted_is (Ok _) e = refl
admitted_is (Err refusal) e = absurd (apart (cc))

abbrev in_cell : Spot → ℕ → Bool
in_cell (Inside cell) n = eqb cell.0 n
in_cell (Outside axis) n = false

inside_is : (s : Spot) (n : ℕ) → in_cell s n ≡ true → s ≡ Inside (record { 0 = n })
inside_is (Inside cell) n e = ap (λ (k : ℕ). Inside (record { 0 = k })) (eqb-true cell.0 n e)
inside_is (Outside axis) n e = absurd (apart (cc))

-- the test of a kind: its card is admitted, and its shape is one of the card's elements
abbrev kind_fits : ℕ → Bool
kind_fits kind = is_admitted (full_admission (kind_card kind)) && shape_admitted (shape_of kind) (elements (kind_card kind))

-- the test of a register: what it holds has coordinates in the shape, and lies in the register's cell
abbrev slot_fits : ℕ → ℕ → ℕ → Bool
slot_fits kind lane i =
    coordinates_fit (shape_of kind) (coordinates_of (place kind lane i))
    && in_cell (spot (kind_card kind) (element_of kind (place kind lane i)) 0) (slot_cell kind lane i)

kinds_fit : below kind_fits 9 ≡ true
unfolding rows columns computations registers kind_shard admission pair_of full_admission
kinds_fit = refl

slots_fit : below (λ kind. below (λ lane. below (slot_fits kind lane) (registers kind)) 32) 9 ≡ true
unfolding rows columns computations computation registers place kind_shard swizzled position coordinates spot
slots_fit = refl

pub record KindFits (kind : ℕ) : Type 0 where
  pub admitted : full_admission (kind_card kind) ≡ no_refusal
  pub shaped : shape_admitted (shape_of kind) (elements (kind_card kind)) ≡ true

pub kind_facts : (kind : ℕ) → kind < 9 → KindFits kind
kind_facts kind h =
    let both = (and-eq-true_iff (is_admitted (full_admission (kind_card kind))) _).0 (below_at kind_fits 9 kinds_fit kind h) in
    record { admitted = admitted_is (full_admission (kind_card kind)) both.0; shaped = both.1 }

pub record SlotFits (kind lane i : ℕ) : Type 0 where
  pub known : kind < 9
  pub fits : coordinates_fit (shape_of kind) (coordinates_of (place kind lane i)) ≡ true
  pub there : spot (kind_card kind) (element_of kind (place kind lane i)) 0 ≡ Inside (record { 0 = slot_cell kind lane i })

pub slot_facts : (kind lane i : ℕ) → is_slot kind lane i ≡ true → SlotFits kind lane i
slot_facts kind lane i e =
    let n = slot_numbers kind lane i e in
    let of-kind = below_at (λ k. below (λ l. below (slot_fits k l) (registers k)) 32) 9 slots_fit kind n.known in
    let of_lane = below_at (λ l. below (slot_fits kind l) (registers kind)) 32 of-kind lane n.of_lane in
    let both = (and-eq-true_iff (coordinates_fit (shape_of kind) (coordinates_of (place kind lane i))) _).0
    (below_at (slot_fits kind lane) (registers kind) of_lane i n.of_register) in
    record { known = n.known; fits = both.0; there = inside_is (spot (kind_card kind) (element_of kind (place kind lane i)) 0) (slot_cell kind lane i) both.1 }

-- placing what a register holds, its computation, row and column in the kind's shape, gives one copy, in that lane and register
pub fragment_is_layout : (kind lane i : ℕ) → is_slot kind lane i ≡ true → (before after : List ℕ) (p : Result ℕ Refusal) → 1 ≤ length before
    → Placing (kind_card kind) (shape_of kind) (coordinates_of (place kind lane i)) before after p
    → (p ≡ Ok 1) × (after ≡ slot_cell kind lane i ∷ drop 1 before)
unfolding placement_answer placement_memory copy_cells outside_axis
fragment_is_layout kind lane i e before after p room placing =
    let s = slot_facts kind lane i e in
    let k = kind_facts kind s.known in (
      placing.answer_is ∙ rw (k.admitted, k.shaped, s.fits, le-leb 1 (length before) room, s.there),
      placing.memory_is ∙ rw (k.admitted, k.shaped, s.fits, le-leb 1 (length before) room, s.there),
    )
