-- Each kind is one-to-one onto its computations: formulas lead back from a place to its register, and two tests that the checker
-- computes, one over all registers of all kinds and one over all places, say that forth and back undo each other.
use mathlib.Core.Path.{◌≡◌, refl, ap, ap₂, ◌∙◌}
use mathlib.Core.Bool.{Bool, true, ◌&&◌, and-eq-true_iff}
use mathlib.Core.List.{[], ◌∷◌}
use Prim.Native.Nat.{ℕ, ◌+◌, ◌*◌, ◌/◌, ◌%◌}
use borrow.Author.Tests.{eqb-true}
use lib.Dec.{eqb}
use lib.ListN.{get_or}
use Rattle.laws.proofs.Below.{below, below_at}
use Rattle.laws.proofs.Tests.{three_of}
use Rattle.fragment.specs.declared.Place.{Place}
use Rattle.fragment.specs.declared.Slot.{Slot}
use Rattle.fragment.specs.Kinds.{◌&◌, rows, columns, computations, computation, registers, at, place}
use Rattle.fragment.specs.Fragment.{is_slot, is_place}
use Rattle.fragment.proofs.Inside.{slot_numbers, place_numbers}

abbrev pub by : ℕ → ℕ → Slot
by lane i = record { lane = lane; register = i }

-- the register that holds a place: lane q of a group of four, 16 lanes further up if h is 4
unfoldable pub back : ℕ → Place → Slot
back kind p =
    let c : ℕ = p.computation in
    let r : ℕ = p.row in
    let k : ℕ = p.column in
    let in_group : ℕ → ℕ → ℕ → ℕ → Slot = λ group h q i. by (4 * (group + h) + q) i in
    get_or
    (in_group c (r & 4) (r % 4) k
    ∷ in_group c (r & 4) k (r % 4)
    ∷ in_group c (k & 4) r (k % 4)
    ∷ in_group c (k & 4) (k % 4) r
    ∷ in_group c (r & 4) (r % 4) k
    ∷ in_group c (r & 4) ((r & 1) + (k & 2)) ((k & 4) + (r & 2) + (k & 1))
    ∷ in_group r 0 k 0
    ∷ in_group k 0 r 0
    ∷ in_group r 0 (k / 2) (k % 2)
    ∷ [])
    kind
    (by 0 0)

same_slot : Slot → Slot → Bool
same_slot s t = eqb s.lane t.lane && eqb s.register t.register

same_place : Place → Place → Bool
same_place p r = eqb p.computation r.computation && eqb p.row r.row && eqb p.column r.column

-- a register holds a place of its kind, from which the formulas lead back to it
abbrev forth_back : ℕ → ℕ → ℕ → Bool
forth_back kind lane i = is_place kind (place kind lane i) && same_slot (back kind (place kind lane i)) (by lane i)

-- from a place the formulas lead to a register, which holds it
abbrev back_forth : ℕ → Place → Bool
back_forth kind p = let s : Slot = back kind p in is_slot kind s.lane s.register && same_place (place kind s.lane s.register) p

at_all_slots : below (λ kind. below (λ lane. below (forth_back kind lane) (registers kind)) 32) 9 ≡ true
unfolding rows columns computations computation registers place back same_slot
at_all_slots = refl

at_all_places : below (λ kind. below (λ c. below (λ r. below (λ k. back_forth kind (at c r k)) (columns kind)) (rows kind)) (computations kind)) 9 ≡ true
unfolding rows columns computations computation registers place back same_place
at_all_places = refl

slots_equal : (s t : Slot) → same_slot s t ≡ true → s ≡ t
unfolding same_slot
slots_equal s t e =
    let both = (and-eq-true_iff (eqb s.lane t.lane) (eqb s.register t.register)).0 e in
    ap₂ by (eqb-true s.lane t.lane both.0) (eqb-true s.register t.register both.1)

places_equal : (p r : Place) → same_place p r ≡ true → p ≡ r
unfolding same_place
places_equal p r e =
    let all = three_of (eqb p.computation r.computation) (eqb p.row r.row) (eqb p.column r.column) e in
    ap₂ (λ (c row : ℕ). at c row p.column) (eqb-true p.computation r.computation all.0) (eqb-true p.row r.row all.1)
    ∙ ap (at r.computation r.row) (eqb-true p.column r.column all.2)

-- what a register holds is a place of its kind, and leads back to the register
pub slot_back : (kind lane i : ℕ) → is_slot kind lane i ≡ true
    → (is_place kind (place kind lane i) ≡ true) × (back kind (place kind lane i) ≡ by lane i)
slot_back kind lane i e =
    let n = slot_numbers kind lane i e in
    let at-kind = below_at (λ m. below (λ l. below (forth_back m l) (registers m)) 32) 9 at_all_slots kind n.known in
    let at-lane = below_at (λ l. below (forth_back kind l) (registers kind)) 32 at-kind lane n.of_lane in
    let passed = below_at (forth_back kind lane) (registers kind) at-lane i n.of_register in
    let p : Place = place kind lane i in
    let both = (and-eq-true_iff (is_place kind p) (same_slot (back kind p) (by lane i))).0 passed in
    (both.0, slots_equal (back kind p) (by lane i) both.1)

-- a place of a kind leads to a register, which holds that place
pub place_back : (kind : ℕ) (p : Place) → is_place kind p ≡ true
    → (is_slot kind (back kind p).lane (back kind p).register ≡ true) × (place kind (back kind p).lane (back kind p).register ≡ p)
place_back kind p e =
    let n = place_numbers kind p e in
    let of_rows : ℕ → ℕ → ℕ → Bool = λ m c r. below (λ k. back_forth m (at c r k)) (columns m) in
    let of-computations : ℕ → ℕ → Bool = λ m c. below (of_rows m c) (rows m) in
    let at-kind = below_at (λ m. below (of-computations m) (computations m)) 9 at_all_places kind n.known in
    let at-computation = below_at (of-computations kind) (computations kind) at-kind p.computation n.of_computation in
    let at_row = below_at (of_rows kind p.computation) (rows kind) at-computation p.row n.of_row in
    let passed = below_at (λ k. back_forth kind (at p.computation p.row k)) (columns kind) at_row p.column n.of_column in
    let s : Slot = back kind p in
    let held : Place = place kind s.lane s.register in
    let both = (and-eq-true_iff (is_slot kind s.lane s.register) (same_place held p)).0 passed in
    (both.0, places_equal held p both.1)
