-- What the definitions of the kinds mean, in plain for-alls over what the first question answers, from the laws that lead forth and back.
use Rattle.std.specs.Prelude.{Ok, Result, Err}
use mathlib.Core.Path.{◌≡◌, refl, sym, ap, ◌∙◌, subst}
use mathlib.Core.Logic.{◌↔◌}
use mathlib.Core.Bool.{Bool, true, false, cond, true≢false}
use Prim.Native.Nat.{ℕ}
use native.Mathlib.Omega.{arith}
use Rattle.answers.specs.declared.Refusal.{Refusal}
use Rattle.answers.specs.Refusals.{answer}
use Rattle.answers.specs.declared.Numbers.{Numbers}
use Rattle.answers.proofs.OneToOne.{read_back, refused_back, pinned, rung}
use Rattle.laws.proofs.Rungs.{apart, ended_at}
use Rattle.fragment.specs.declared.Place.{Place}
use Rattle.fragment.specs.declared.Slot.{Slot}
use Rattle.fragment.specs.Kinds.{place}
use Rattle.fragment.specs.Fragment.{is_slot, is_place, outside, held_answer, HolderAnswer, held_numbers, holder_numbers}
use Rattle.fragment.proofs.Back.{by, back, slot_back, place_back}

-- the first question answers that a register holds a place
abbrev pub Answers : ℕ → Slot → Place → Type 0
Answers kind s p = held_answer kind s.lane s.register ≡ Ok p

-- then there is such a register, and the place is its own
pub answered : (kind : ℕ) (s : Slot) (p : Place) → Answers kind s p → (is_slot kind s.lane s.register ≡ true) × (place kind s.lane s.register ≡ p)
answered kind s p e =
    let held = ended_at (is_slot kind s.lane s.register) e (λ q. apart (cc)) in
    let same = held.1 in
    (held.0, cc)

-- so the place lies inside the kind and leads back to the register
pub stays_inside : (kind : ℕ) (s : Slot) (p : Place) → Answers kind s p → is_place kind p ≡ true
stays_inside kind s p e =
    let a = answered kind s p e in rw (sym a.1) (slot_back kind s.lane s.register a.0).0

pub leads_back : (kind : ℕ) (s : Slot) (p : Place) → Answers kind s p → back kind p ≡ s
leads_back kind s p e =
    let a = answered kind s p e in
    sym (ap (back kind) a.1) ∙ (slot_back kind s.lane s.register a.0).1

-- and the register that a place leads to is answered to hold it
pub back_answers : (kind : ℕ) (p : Place) → is_place kind p ≡ true → Answers kind (back kind p) p
back_answers kind p e = let b = place_back kind p e in rw b.0 (ap Ok b.1)

held_once : (kind : ℕ) (s t : Slot) (p : Place) → Answers kind s p → Answers kind t p → s ≡ t
held_once kind s t p e f = sym (leads_back kind s p e) ∙ leads_back kind t p f

not_refused : (kind : ℕ) (s : Slot) (p : Place) → Answers kind s p → is_place kind p ≡ false → ⊥
not_refused kind s p e f = true≢false (sym (stays_inside kind s p e) ∙ f)

-- two outcomes that the promise of the first question allows are equal
pub held_settled : (kind lane i : ℕ) (g h : Result Place Refusal) → g ≡ held_answer kind lane i → h ≡ held_answer kind lane i → g ≡ h
held_settled kind lane i g h e f = e ∙ sym f

-- and so are two that the promise of the second allows
pub holder_settled : (kind : ℕ) (p : Place) (g h : Result Slot Refusal) → HolderAnswer kind p g → HolderAnswer kind p h → g ≡ h
holder_settled kind p (Ok s) (Ok t) e f = ap Ok (held_once kind s t p e f)
holder_settled kind p (Ok s) (Err r) e f = absurd (not_refused kind s p e f.0)
holder_settled kind p (Err r) (Ok s) e f = absurd (not_refused kind s p f e.0)
holder_settled kind p (Err r) (Err t) e f = ap Err (e.1 ∙ sym f.1)

pub record OneToOne (kind : ℕ) : Type 0 where
  -- what comes back from what went out is the same
  pub there_and_back : (s : Slot) (p : Place) (h : Result Slot Refusal) → Answers kind s p → HolderAnswer kind p h → h ≡ Ok s
  pub back_and_there : (s : Slot) (p : Place) (g : Result Place Refusal) → HolderAnswer kind p (Ok s) → g ≡ held_answer kind s.lane s.register → g ≡ Ok p
  -- an answer stays inside one of the kind's computations, A 8 by 4, B 4 by 8, C 8 by 8
  pub inside : (s : Slot) (p : Place) → Answers kind s p → is_place kind p ≡ true
  -- every place of every computation is held
  pub held : (p : Place) → is_place kind p ≡ true → (s : Slot) × Answers kind s p
  -- and held once
  pub once : (s t : Slot) (p : Place) → Answers kind s p → Answers kind t p → s ≡ t

-- each kind is one-to-one onto its computations
pub each_kind_one_to_one : (kind : ℕ) → OneToOne kind
each_kind_one_to_one kind =
    record {
      there_and_back = λ s p h e f. holder_settled kind p h (Ok s) f e;
      back_and_there = λ s p g e f. f ∙ e;
      inside = stays_inside kind;
      held = λ p e. (back kind p, back_answers kind p e);
      once = held_once kind;
    }

-- pinning the numbers pins the answer
holds : Numbers → Result Place Refusal
holds n = Ok (record { computation = n.a; row = n.b; column = n.c })

held_back : (g : Result Place Refusal) → read_back holds Err (held_numbers g) ≡ g
unfolding holds
held_back (Ok p) = refl
held_back (Err r) = refused_back holds Err r

pub held_one_to_one : (g h : Result Place Refusal) → held_numbers g ≡ held_numbers h → g ≡ h
held_one_to_one = pinned holds Err held_numbers held_back

held_by : Numbers → Result Slot Refusal
held_by n = Ok (by n.a n.b)

holder_back : (g : Result Slot Refusal) → read_back held_by Err (holder_numbers g) ≡ g
unfolding held_by
holder_back (Ok s) = refl
holder_back (Err r) = refused_back held_by Err r

pub holder_one_to_one : (g h : Result Slot Refusal) → holder_numbers g ≡ holder_numbers h → g ≡ h
holder_one_to_one = pinned held_by Err holder_numbers holder_back

-- in document 01's numbers: 0 and computation, row, column, or 14
pub held_in_numbers : (kind lane i : ℕ) (r : Result Place Refusal) → r ≡ held_answer kind lane i
    → held_numbers r
    ≡ cond (is_slot kind lane i) (let p = place kind lane i in answer 0 p.computation p.row p.column) (answer 14 0 0 0)
held_in_numbers kind lane i r e = ap held_numbers e ∙ rung held_numbers (is_slot kind lane i) refl refl

pub record HolderInNumbers (kind : ℕ) (p : Place) (n : Numbers) : Type 0 where
  -- 0 and the lane and register of which the first question answers this place
  pub held : (lane i : ℕ)
      → (n ≡ answer 0 lane i 0) ↔ (held_numbers (held_answer kind lane i) ≡ answer 0 p.computation p.row p.column)
  -- or 14
  pub refused : (n ≡ answer 14 0 0 0) ↔ (is_place kind p ≡ false)

pub holder_in_numbers : (kind : ℕ) (p : Place) (r : Result Slot Refusal) → HolderAnswer kind p r → HolderInNumbers kind p (holder_numbers r)
holder_in_numbers kind p r h = record {
  held = λ lane i. (
    λ e. ap held_numbers (subst (HolderAnswer kind p) (holder_one_to_one r (Ok (by lane i)) e) h),
    λ e. ap holder_numbers (holder_settled kind p r (Ok (by lane i)) h (held_one_to_one (held_answer kind lane i) (Ok p) e)),
  );
  refused = (
    λ e. (subst (HolderAnswer kind p) (holder_one_to_one r (Err outside) e) h).0,
    λ e. ap holder_numbers (holder_settled kind p r (Err outside) h (e, refl)),
  );
}
