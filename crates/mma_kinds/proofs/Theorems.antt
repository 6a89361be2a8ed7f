-- What the definitions of the kinds mean, in plain for-alls over what the questions answer, from the laws that lead forth and back.
use Rattle.std.specs.Prelude.{Ok, Result, Err}
use mathlib.Core.Path.{◌≡◌, refl, sym, ap, ◌∙◌, subst}
use mathlib.Core.Logic.{◌↔◌}
use mathlib.Core.Bool.{true, false, cond, true≢false}
use Prim.Native.Nat.{ℕ}
use Rattle.answers.specs.declared.Refusal.{Refusal}
use Rattle.answers.specs.Refusals.{answer}
use Rattle.answers.specs.declared.Numbers.{Numbers}
use Rattle.answers.proofs.OneToOne.{read_back, refused_back, pinned, rung}
use Rattle.laws.proofs.Rungs.{apart, ended_at}
use Rattle.fragment.specs.Fragment.{outside}
use Rattle.card.specs.Card.{no_card}
use Rattle.card.specs.Admission.{admission_numbers}
use Rattle.card.specs.declared.Card.{Card}
use Rattle.mma_kinds.specs.declared.MmaPlace.{MmaPlace}
use Rattle.mma_kinds.specs.declared.MmaSlot.{MmaSlot}
use Rattle.mma_kinds.specs.declared.MmaLayout.{MmaLayout}
use Rattle.mma_kinds.specs.Kinds.{mma_at}
use Rattle.mma_kinds.specs.Layouts.{mma_card}
use Rattle.mma_kinds.specs.Mma.{is_mma_slot, is_mma_place, is_kind, mma_place, mma_answer, MmaHolderAnswer, layout_answer, mma_numbers, mma_holder_numbers}
use Rattle.mma_kinds.proofs.Back.{back, slot_back, place_back}

-- the first question answers that a register holds a place
abbrev pub Answers : ℕ → MmaSlot → MmaPlace → Type 0
Answers kind s p = mma_answer kind s.warp s.lane s.register ≡ Ok p

-- then there is such a register, and the place is its own
answered : (kind : ℕ) (s : MmaSlot) (p : MmaPlace) → Answers kind s p
    → (is_mma_slot kind s.warp s.lane s.register ≡ true) × (mma_place kind s.warp s.lane s.register ≡ p)
answered kind s p e =
    let held = ended_at (is_mma_slot kind s.warp s.lane s.register) e (λ q. apart (cc)) in
    let same = held.1 in
    (held.0, cc)

-- so the place lies inside the kind and leads back to the register
stays_inside : (kind : ℕ) (s : MmaSlot) (p : MmaPlace) → Answers kind s p → is_mma_place kind p ≡ true
stays_inside kind s p e =
    let a = answered kind s p e in subst (λ (q : MmaPlace). is_mma_place kind q ≡ true) a.1 (slot_back kind s.warp s.lane s.register a.0).0

leads_back : (kind : ℕ) (s : MmaSlot) (p : MmaPlace) → Answers kind s p → back kind p ≡ s
leads_back kind s p e =
    let a = answered kind s p e in
    sym (ap (back kind) a.1) ∙ (slot_back kind s.warp s.lane s.register a.0).1

-- and the register that a place leads to is answered to hold it
pub back_answers : (kind : ℕ) (p : MmaPlace) → is_mma_place kind p ≡ true → Answers kind (back kind p) p
back_answers kind p e = let b = place_back kind p e in rw b.0 (ap Ok b.1)

held_once : (kind : ℕ) (s t : MmaSlot) (p : MmaPlace) → Answers kind s p → Answers kind t p → s ≡ t
held_once kind s t p e f = sym (leads_back kind s p e) ∙ leads_back kind t p f

not_refused : (kind : ℕ) (s : MmaSlot) (p : MmaPlace) → Answers kind s p → is_mma_place kind p ≡ false → ⊥
not_refused kind s p e f = true≢false (sym (stays_inside kind s p e) ∙ f)

-- two outcomes that the promise of the first question allows are equal
pub mma_settled : (kind warp lane i : ℕ) (g h : Result MmaPlace Refusal) → g ≡ mma_answer kind warp lane i → h ≡ mma_answer kind warp lane i → g ≡ h
mma_settled kind warp lane i g h e f = e ∙ sym f

-- and so are two that the promise of the second allows
pub mma_holder_settled : (kind : ℕ) (p : MmaPlace) (g h : Result MmaSlot Refusal) → MmaHolderAnswer kind p g → MmaHolderAnswer kind p h → g ≡ h
mma_holder_settled kind p (Ok s) (Ok t) e f = ap Ok (held_once kind s t p e f)
mma_holder_settled kind p (Ok s) (Err r) e f = absurd (not_refused kind s p e f.0)
mma_holder_settled kind p (Err r) (Ok s) e f = absurd (not_refused kind s p f e.0)
mma_holder_settled kind p (Err r) (Err t) e f = ap Err (e.1 ∙ sym f.1)

-- and two that the promise of the third allows
pub mma_layout_settled : (kind : ℕ) (g h : MmaLayout) → g ≡ layout_answer kind → h ≡ layout_answer kind → g ≡ h
mma_layout_settled kind g h e f = e ∙ sym f

pub record MmaOneToOne (kind : ℕ) : Type 0 where
  -- what comes back from what went out is the same
  pub there_and_back : (s : MmaSlot) (p : MmaPlace) (h : Result MmaSlot Refusal) → Answers kind s p → MmaHolderAnswer kind p h → h ≡ Ok s
  pub back_and_there : (s : MmaSlot) (p : MmaPlace) (g : Result MmaPlace Refusal) → MmaHolderAnswer kind p (Ok s) → g ≡ mma_answer kind s.warp s.lane s.register → g ≡ Ok p
  -- an answer stays inside one of the kind's matrices
  pub inside : (s : MmaSlot) (p : MmaPlace) → Answers kind s p → is_mma_place kind p ≡ true
  -- every place of every matrix is held
  pub held : (p : MmaPlace) → is_mma_place kind p ≡ true → (s : MmaSlot) × Answers kind s p
  -- and held once
  pub once : (s t : MmaSlot) (p : MmaPlace) → Answers kind s p → Answers kind t p → s ≡ t

-- each kind is one-to-one onto its matrices
pub each_mma_kind_one_to_one : (kind : ℕ) → MmaOneToOne kind
each_mma_kind_one_to_one kind =
    record {
      there_and_back = λ s p h e f. mma_holder_settled kind p h (Ok s) f e;
      back_and_there = λ s p g e f. f ∙ e;
      inside = stays_inside kind;
      held = λ p e. (back kind p, back_answers kind p e);
      once = held_once kind;
    }

-- pinning the numbers pins the answer
holds : Numbers → Result MmaPlace Refusal
holds n = Ok (mma_at n.a n.b n.c)

held_back : (g : Result MmaPlace Refusal) → read_back holds Err (mma_numbers g) ≡ g
unfolding holds
held_back (Ok p) = refl
held_back (Err r) = refused_back holds Err r

pub mma_one_to_one : (g h : Result MmaPlace Refusal) → mma_numbers g ≡ mma_numbers h → g ≡ h
mma_one_to_one = pinned holds Err mma_numbers held_back

held_by : Numbers → Result MmaSlot Refusal
held_by n = Ok (record { warp = n.a; lane = n.b; register = n.c })

holder_back : (g : Result MmaSlot Refusal) → read_back held_by Err (mma_holder_numbers g) ≡ g
unfolding held_by
holder_back (Ok s) = refl
holder_back (Err r) = refused_back held_by Err r

pub mma_holder_one_to_one : (g h : Result MmaSlot Refusal) → mma_holder_numbers g ≡ mma_holder_numbers h → g ≡ h
mma_holder_one_to_one = pinned held_by Err mma_holder_numbers holder_back

-- in document 01's numbers: 0 and matrix, row, column, or 14
pub mma_in_numbers : (kind warp lane i : ℕ) (r : Result MmaPlace Refusal) → r ≡ mma_answer kind warp lane i
    → mma_numbers r
    ≡ cond (is_mma_slot kind warp lane i) (let p = mma_place kind warp lane i in answer 0 p.matrix p.row p.column) (answer 14 0 0 0)
mma_in_numbers kind warp lane i r e = ap mma_numbers e ∙ rung mma_numbers (is_mma_slot kind warp lane i) refl refl

pub record MmaHolderInNumbers (kind : ℕ) (p : MmaPlace) (n : Numbers) : Type 0 where
  -- 0 and the warp, lane and register of which the first question answers this place
  pub held : (warp lane i : ℕ)
      → (n ≡ answer 0 warp lane i) ↔ (mma_numbers (mma_answer kind warp lane i) ≡ answer 0 p.matrix p.row p.column)
  -- or 14
  pub refused : (n ≡ answer 14 0 0 0) ↔ (is_mma_place kind p ≡ false)

pub mma_holder_in_numbers : (kind : ℕ) (p : MmaPlace) (r : Result MmaSlot Refusal) → MmaHolderAnswer kind p r → MmaHolderInNumbers kind p (mma_holder_numbers r)
mma_holder_in_numbers kind p r h = record {
  held = λ warp lane i.
      let s : MmaSlot = record { warp = warp; lane = lane; register = i } in (
        λ e. ap mma_numbers (subst (MmaHolderAnswer kind p) (mma_holder_one_to_one r (Ok s) e) h),
        λ e. ap mma_holder_numbers (mma_holder_settled kind p r (Ok s) h (mma_one_to_one (mma_answer kind warp lane i) (Ok p) e)),
      );
  refused = (
    λ e. (subst (MmaHolderAnswer kind p) (mma_holder_one_to_one r (Err outside) e) h).0,
    λ e. ap mma_holder_numbers (mma_holder_settled kind p r (Err outside) h (e, refl)),
  );
}

-- 0 with no details and the kind's card, or 14 and a card of zeros
pub mma_layout_in_numbers : (kind : ℕ) (r : MmaLayout) → r ≡ layout_answer kind
    → (admission_numbers r.answer ≡ cond (is_kind kind) (answer 0 0 0 0) (answer 14 0 0 0)) × (r.card ≡ cond (is_kind kind) (mma_card kind) no_card)
mma_layout_in_numbers kind r e = (
  ap (λ (l : MmaLayout). admission_numbers l.answer) e ∙ rung (λ (l : MmaLayout). admission_numbers l.answer) (is_kind kind) refl refl,
  ap (λ (l : MmaLayout). l.card) e ∙ rung (λ (l : MmaLayout). l.card) (is_kind kind) refl refl,
)
