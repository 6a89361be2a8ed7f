-- The register that a place is collected from is the one that the place leads back to: the only one that holds it, and none for a place outside the matrix.
use mathlib.Core.Path.{◌≡◌, refl, sym, ap, ap₂, ◌∙◌}
use mathlib.Core.Bool.{Bool, true, false, cond, ◌&&◌, and-eq-true_iff, true≢false}
use mathlib.Core.List.{List}
use Prim.Native.Nat.{ℕ, ◌+◌, ◌*◌, ◌/◌, ◌%◌, ◌<◌}
use native.Mathlib.Omega.{arith}
use borrow.Author.Tests.{eqb-true, eq-eqb, lt-ltb}
use lib.Dec.{eqb, ltb}
use Rattle.fragment.specs.declared.Place.{Place}
use Rattle.fragment.specs.declared.Slot.{Slot}
use Rattle.fragment.specs.Kinds.{at, place}
use Rattle.fragment.specs.Fragment.{is_slot, is_place}
use Rattle.fragment.proofs.Inside.{slot_numbers}
use Rattle.fragment.proofs.Back.{by, back, slot_back, place_back}
use Rattle.values.specs.Rows.{entry}
use Rattle.values.specs.Values.{is_own, first, holder_at, collected_entry}
use Rattle.values.proofs.First.{is_first, none_passes}

-- a register of the computation: its place is one of the computation's matrix, and leads back to it
pub record Own (kind c lane i : ℕ) : Type 0 where
  pub slot : is_slot kind lane i ≡ true
  pub on_place : at c (place kind lane i).row (place kind lane i).column ≡ place kind lane i
  pub of_matrix : is_place kind (at c (place kind lane i).row (place kind lane i).column) ≡ true
  pub leads_back : back kind (place kind lane i) ≡ by lane i

pub own : (kind c lane i : ℕ) → is_own kind c lane i ≡ true → Own kind c lane i
own kind c lane i e =
    let p : Place = place kind lane i in
    let both = (and-eq-true_iff (is_slot kind lane i) (eqb p.computation c)).0 e in
    let there = slot_back kind lane i both.0 in
    let same : at c p.row p.column ≡ p = ap (λ (n : ℕ). at n p.row p.column) (sym (eqb-true p.computation c both.1)) in
    record {
      slot = both.0;
      on_place = same;
      of_matrix = ap (is_place kind) same ∙ there.0;
      leads_back = there.1;
    }

-- a place of the matrix leads to a register of the computation, which holds it
pub led_to_own : (kind c row column : ℕ) → is_place kind (at c row column) ≡ true
    → let s = back kind (at c row column) in (is_own kind c s.lane s.register ≡ true) × (place kind s.lane s.register ≡ at c row column)
led_to_own kind c row column e =
    let p : Place = at c row column in
    let s : Slot = back kind p in
    let there = place_back kind p e in (
      (and-eq-true_iff (is_slot kind s.lane s.register) (eqb (place kind s.lane s.register).computation c)).1
          (there.0, eq-eqb (place kind s.lane s.register).computation c (ap (λ (q : Place). q.computation) there.1)),
      there.1,
    )

module _ (kind c row column : ℕ) where
  abbrev p : Place
  p = at c row column

  abbrev s : Slot
  s = back kind p

  abbrev holds : ℕ → Bool
  holds n = is_own kind c (n / 8) (n % 8) && eqb (place kind (n / 8) (n % 8)).row row && eqb (place kind (n / 8) (n % 8)).column column

  -- a register that holds the place is the one that it leads back to, and the place is of the matrix
  found : (n : ℕ) → holds n ≡ true → (is_place kind p ≡ true) × (back kind p ≡ by (n / 8) (n % 8))
  found n e =
      let held = place kind (n / 8) (n % 8) in
      let all = (and-eq-true_iff (is_own kind c (n / 8) (n % 8) && eqb held.row row) (eqb held.column column)).0 e in
      let both = (and-eq-true_iff (is_own kind c (n / 8) (n % 8)) (eqb held.row row)).0 all.0 in
      let o = own kind c (n / 8) (n % 8) both.0 in
      let same : at c held.row held.column ≡ p = ap₂ (λ (r k : ℕ). at c r k) (eqb-true held.row row both.1) (eqb-true held.column column all.1) in
      (ap (is_place kind) (sym same) ∙ o.of_matrix, ap (back kind) (sym same ∙ o.on_place) ∙ o.leads_back)

  -- none but one does not hold it
  unless : (n : ℕ) → (holds n ≡ true → ⊥) → holds n ≡ false
  unless n = pick (holds n)
    where
      pick : (b : Bool) → (b ≡ true → ⊥) → b ≡ false
      pick true never = absurd (never refl)
      pick false never = refl

  pub holder_back : holder_at kind c row column ≡ cond (is_place kind p) (8 * s.lane + s.register) 256
  unfolding holder_at
  holder_back = split (is_place kind p) refl
    where
      split : (b : Bool) → is_place kind p ≡ b → first holds 256 ≡ cond b (8 * s.lane + s.register) 256
      split true e =
          let n = slot_numbers kind s.lane s.register (place_back kind p e).0 in
          let few : s.register < 8 = omega (arith, n.of_register, n.sizes_of.most_registers) in
          let lane : (8 * s.lane + s.register) / 8 ≡ s.lane = omega arith in
          let register : (8 * s.lane + s.register) % 8 ≡ s.register = omega arith in
          let o = led_to_own kind c row column e in
          let held = place kind s.lane s.register in
          let passes : (is_own kind c s.lane s.register && eqb held.row row && eqb held.column column) ≡ true =
          rw (o.0, eq-eqb held.row row (ap (λ (q : Place). q.row) o.1), eq-eqb held.column column (ap (λ (q : Place). q.column) o.1)) in
          is_first holds 256 (8 * s.lane + s.register) (omega (arith, n.of_lane))
          (λ k below.
          unless k
          (λ h.
          let same = (found k h).1 in
          let same-lane : s.lane ≡ k / 8 = ap (λ (t : Slot). t.lane) same in
          let same-register : s.register ≡ k % 8 = ap (λ (t : Slot). t.register) same in
          omega arith))
          (rw (lane, register) passes)
      split false e = none_passes holds 256 (λ k below. unless k (λ h. true≢false (sym (found k h).0 ∙ e)))

-- what stands in a register of the lanes
abbrev pub in_lanes : {A : Type 0} → A → List (List A) → Slot → A
in_lanes other lanes s = entry other lanes s.lane s.register

-- what a place is collected from
module _ {A : Type 0} (other : A) (kind c : ℕ) (lanes : List (List A)) (row column : ℕ) (given : A) where
  abbrev slot : Slot
  slot = back kind (at c row column)

  abbrev by_number : ℕ → A
  by_number n = cond (ltb n 256) (entry other lanes (n / 8) (n % 8)) given

  pub collected_back : collected_entry other kind c lanes row column given ≡ cond (is_place kind (at c row column)) (in_lanes other lanes slot) given
  collected_back = ap by_number (holder_back kind c row column) ∙ split (is_place kind (at c row column)) refl
    where
      split : (b : Bool) → is_place kind (at c row column) ≡ b → by_number (cond b (8 * slot.lane + slot.register) 256) ≡ cond b (in_lanes other lanes slot) given
      split true e =
          let n = slot_numbers kind slot.lane slot.register (place_back kind (at c row column) e).0 in
          let few : slot.register < 8 = omega (arith, n.of_register, n.sizes_of.most_registers) in
          let lane : (8 * slot.lane + slot.register) / 8 ≡ slot.lane = omega arith in
          let register : (8 * slot.lane + slot.register) % 8 ≡ slot.register = omega arith in
          rw (lt-ltb (8 * slot.lane + slot.register) 256 (omega (arith, n.of_lane)), lane, register) refl
      split false e = refl
