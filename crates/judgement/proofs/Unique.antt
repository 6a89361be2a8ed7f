-- What a card comes to is unique: each case repeats the condition under which it is given, so two different cases contradict each other.
use Rattle.std.specs.Prelude.{Err, Ok}
use mathlib.Core.Path.{◌≡◌, refl, sym, ap, ap₂, subst}
use mathlib.Core.List.{List}
use Prim.Native.Nat.{ℕ}
use native.Mathlib.Omega.{arith}
use Rattle.answers.specs.Refusals.{no_refusal}
use Rattle.laws.proofs.Rungs.{apart}
use Rattle.answers.specs.declared.Refusal.{Refusal}
use Rattle.card.specs.Card.{elements, cells}
use Rattle.card.specs.declared.Card.{Card}
use Rattle.idle.specs.Admission.{full_admission}
use Rattle.claims.specs.Outcome.{Outcome, Owned, Clash, ClaimsComeTo as Comes}
use Rattle.claims.proofs.Theorems.{outcome_unique}
use Rattle.judgement.specs.Judgement.{placed, LiesInside, AllInside, FirstOutside, Judgement, NotAdmitted, NoRoom, OutsideAt, Clashing, Passed, ComesTo}
use Rattle.judgement.specs.Verdict.{OwnerJudgement, NoCell, ByVerdict, OwnerComesTo}
use Rattle.judgement.specs.Run.{claimed}

module _ (card : Card) where
  -- a card is not both refused and admitted
  pub not_both : {r : Refusal} → full_admission card ≡ Err r → full_admission card ≡ no_refusal → ⊥
  not_both e f = apart (cc)

  -- where every copy lies inside, none lies outside
  pub inside_not_outside : {flat axis : ℕ} → AllInside card → FirstOutside card flat axis → ⊥
  inside_not_outside {flat} inside o = subst LiesInside o.outside (inside flat o.combination o.element o.copy)

  -- there is one first element outside, and one smallest axis for it
  module _ {flat axis flat' axis' : ℕ} (o : FirstOutside card flat axis) (o' : FirstOutside card flat' axis') where
    same_flat : flat ≡ flat'
    same_flat =
        omega
        (arith, o.smallest_flat flat' o'.combination axis' o'.element o'.copy o'.outside, o'.smallest_flat flat o.combination axis o.element o.copy o.outside)

    same_axis : axis ≡ axis'
    same_axis =
        omega (
          arith,
          o.smallest_axis o'.combination axis' o'.copy (rw same_flat o'.outside),
          o'.smallest_axis o.combination axis o.copy (rw (sym same_flat) o.outside),
        )

    outside_unique : OutsideAt flat axis ≡ OutsideAt flat' axis'
    outside_unique = ap₂ OutsideAt same_flat same_axis

  -- what the claims come to is unique
  claims_unique : (a b : Outcome) → Comes (placed card) (elements card) (cells card) a → Comes (placed card) (elements card) (cells card) b
      → claimed a ≡ claimed b
  claims_unique a b h k = ap claimed (outcome_unique (placed card) (elements card) (cells card) a b h k)

  -- the judgement is unique: two that a card comes to are equal
  pub judgement_unique : (room : ℕ) (j k : Judgement) → ComesTo card room j → ComesTo card room k → j ≡ k
  judgement_unique room (NotAdmitted r) (NotAdmitted s) h k = cc
  judgement_unique room (NotAdmitted r) NoRoom h k = absurd (not_both h k.0)
  judgement_unique room (NotAdmitted r) (OutsideAt g b) h k = absurd (not_both h k.0.admitted)
  judgement_unique room (NotAdmitted r) (Clashing u v d) h k = absurd (not_both h k.0.admitted)
  judgement_unique room (NotAdmitted r) (Passed t n) h k = absurd (not_both h k.0.admitted)
  judgement_unique room NoRoom (NotAdmitted s) h k = absurd (not_both k h.0)
  judgement_unique room NoRoom NoRoom h k = refl
  judgement_unique room NoRoom (OutsideAt g b) h k = absurd (omega arith)
  judgement_unique room NoRoom (Clashing u v d) h k = absurd (omega arith)
  judgement_unique room NoRoom (Passed t n) h k = absurd (omega arith)
  judgement_unique room (OutsideAt f a) (NotAdmitted s) h k = absurd (not_both k h.0.admitted)
  judgement_unique room (OutsideAt f a) NoRoom h k = absurd (omega arith)
  judgement_unique room (OutsideAt f a) (OutsideAt g b) h k = outside_unique h.1 k.1
  judgement_unique room (OutsideAt f a) (Clashing u v d) h k = absurd (inside_not_outside k.1 h.1)
  judgement_unique room (OutsideAt f a) (Passed t n) h k = absurd (inside_not_outside k.1 h.1)
  judgement_unique room (Clashing x y c) (NotAdmitted s) h k = absurd (not_both k h.0.admitted)
  judgement_unique room (Clashing x y c) NoRoom h k = absurd (omega arith)
  judgement_unique room (Clashing x y c) (OutsideAt g b) h k = absurd (inside_not_outside h.1 k.1)
  judgement_unique room (Clashing x y c) (Clashing u v d) h k = claims_unique (Clash x y c) (Clash u v d) h.2 k.2
  judgement_unique room (Clashing x y c) (Passed t n) h k = claims_unique (Clash x y c) (Owned t n) h.2 k.2
  judgement_unique room (Passed s m) (NotAdmitted r) h k = absurd (not_both k h.0.admitted)
  judgement_unique room (Passed s m) NoRoom h k = absurd (omega arith)
  judgement_unique room (Passed s m) (OutsideAt g b) h k = absurd (inside_not_outside h.1 k.1)
  judgement_unique room (Passed s m) (Clashing u v d) h k = claims_unique (Owned s m) (Clash u v d) h.2 k.2
  judgement_unique room (Passed s m) (Passed t n) h k = claims_unique (Owned s m) (Owned t n) h.2 k.2

  -- and so is what asking for the owner of a cell comes to
  pub owner_judgement_unique : (coordinates : List ℕ) (room : ℕ) (j k : OwnerJudgement) → OwnerComesTo card coordinates room j
      → OwnerComesTo card coordinates room k → j ≡ k
  owner_judgement_unique coordinates room (NoCell a) (NoCell b) h k = cc
  owner_judgement_unique coordinates room (NoCell a) (ByVerdict j) h k = absurd (subst LiesInside h.1 (k.0 h.0))
  owner_judgement_unique coordinates room (ByVerdict j) (NoCell b) h k = absurd (subst LiesInside k.1 (h.0 k.0))
  owner_judgement_unique coordinates room (ByVerdict i) (ByVerdict j) h k = ap ByVerdict (judgement_unique room i j h.1 k.1)
