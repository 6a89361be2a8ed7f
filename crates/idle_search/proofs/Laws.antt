-- What the loops of the search have done so far: keys in their places; that a walk leaves the sums of its
-- combination, and that equal sums have equal keys, since a key is a function of the sums.
use mathlib.Core.Path.{◌≡◌, refl, sym, ap, ◌∙◌}
use mathlib.Core.Bool.{Bool, true, false, cond}
use mathlib.Core.List.{List, [], ◌∷◌, map}
use Prim.Native.Nat.{ℕ, zero, suc, ◌+◌, ◌-◌, ◌≤◌, ◌<◌}
use native.Mathlib.Nat.{zero-div, zero-mod}
use native.Mathlib.Decide.{ℕ_discrete, dec_lt}
use native.Mathlib.Omega.{arith}
use borrow.Author.Tests.{ltb-true}
use lib.Dec.{eqb, ltb}
use lib.IntN.{ℤ, pos, negsuc, nat_abs, ◌+ℤ◌, +ℤ_idr, zero-*ℤ}
use lib.ListN.{length, get_or, set, drop, replicate, get_or-replicate, length-set}
use lib.Seq.{ext_get_or, drop-length, get_or-set_same, get_or-set_other}
use Rattle.card.specs.Lists.{product}
use Rattle.card.specs.Card.{listed, extent_of}
use Rattle.card.specs.declared.Iter.{Iter}
use Rattle.card.specs.declared.Iters.{Iters}
use Rattle.card.specs.Packed.{iters_of}
use Rattle.rules.specs.Rules.{part}
use Rattle.rules.specs.Walked.{walked}
use Rattle.rules.proofs.Along.{along}
use Rattle.rules.proofs.Base.{walked_at, walked_eight}
use Rattle.copies_sums.specs.Walks.{roomy, Walkable, Sums}
use Rattle.copies_sums.proofs.Turn.{along_room}
use Rattle.idle.specs.Idle.{SameSums}
use Rattle.idle.specs.Clauses.{Says, NoneBelow}
use Rattle.idle.proofs.Apart.{cancel}
use Rattle.idle_search.specs.Clauses.{far, natural, Natural, key_from, key_of, Keyed, Passes}

-- what holds exactly when another does is said by the same answer
pub says_alike : {p q : Type 0} {r : Bool} → (p → q) → (q → p) → Says p r → Says q r
says_alike to from s = record { yes_holds = λ t. to (s.yes_holds t); no_fails = λ f h. s.no_fails f (from h) }

near : (n axis : ℕ) → nat_abs (get_or (replicate n (pos roomy)) axis (pos 0)) ≤ roomy
near zero axis = omega arith
near (suc n) zero = omega arith
near (suc n) (suc axis) = near n axis

pub far_sums : Sums far
far_sums = record { eight = refl; small = near 8 }

-- what is no further from zero than a number does not bring it below
from_far : (n : ℕ) (z : ℤ) → nat_abs z ≤ n → natural (pos n +ℤ z)
from_far n (pos b) h = tt
from_far n (negsuc b) h = split (ltb n (suc b)) refl
  where
    split : (t : Bool) → ltb n (suc b) ≡ t → natural (cond t (negsuc (suc b - suc n)) (pos (n - suc b)))
    split true e = absurd (omega (arith, ltb-true n (suc b) e))
    split false e = tt

nothing_added : (l : List Iter) (axis : ℕ) → along l 0 axis ≡ pos 0
nothing_added [] axis = refl
nothing_added (iter ∷ l) axis =
    rw (zero-div (product (map extent_of l)), zero-mod iter.extent, zero-*ℤ iter.stride, nothing_added l axis) (split (eqb iter.axis axis))
  where
    split : (b : Bool) → cond b (pos 0) (pos 0) +ℤ pos 0 ≡ pos 0
    split true = refl
    split false = refl

-- a walk leaves the iters' sums, counted from far: walks of two combinations leave the same exactly when these give the same sums
module _ (iters : Iters) where
  left_by : (a axis : ℕ) → axis < 8 → get_or (walked iters a far) axis (pos 0) ≡ pos roomy +ℤ part iters a axis
  left_by a axis h = walked_at iters a far axis h ∙ ap (λ (z : ℤ). z +ℤ part iters a axis) (get_or-replicate 8 axis (pos roomy) (pos 0) h)

  same_left : (a b : ℕ) → SameSums iters a b → walked iters a far ≡ walked iters b far
  same_left a b same =
      ext_get_or (pos 0) (walked iters a far) (walked iters b far) (walked_eight iters a far ∙ sym (walked_eight iters b far))
      (λ i h.
      let below : i < 8 = omega (arith, walked_eight iters a far) in
      left_by a i below ∙ ap (λ (z : ℤ). pos roomy +ℤ z) (same i below) ∙ sym (left_by b i below))

  -- the first combination adds nothing
  first_left : walked iters 0 far ≡ far
  first_left =
      ext_get_or (pos 0) (walked iters 0 far) far (walked_eight iters 0 far)
      (λ i h.
      let below : i < 8 = omega (arith, walked_eight iters 0 far) in
      walked_at iters 0 far i below ∙ ap (λ (z : ℤ). get_or far i (pos 0) +ℤ z) (nothing_added (listed iters) i) ∙ +ℤ_idr (get_or far i (pos 0)))

  pub walks_same : (a b : ℕ) {one other : List ℤ} {r : Bool} → one ≡ walked iters a far → other ≡ walked iters b far → Says (one ≡ other) r → Says (SameSums iters a b) r
  walks_same a b at_a at_b =
      says_alike
      (λ same axis h.
      cancel (pos roomy) (part iters a axis) (part iters b axis)
      (sym (left_by a axis h) ∙ ap (λ (l : List ℤ). get_or l axis (pos 0)) (sym at_a ∙ same ∙ at_b) ∙ left_by b axis h))
      (λ same. at_a ∙ same_left a b same ∙ sym at_b)

-- no sum of a combination comes below zero
pub far_natural : Natural far
far_natural = record { eight = refl; each = λ axis h. rw (get_or-replicate 8 axis (pos roomy) (pos 0) h) tt }

pub naturals : (numbers : List ℕ) (strides : List ℤ) → Walkable numbers strides 1 → (b : ℕ) → Natural (walked (iters_of numbers strides 1) b far)
naturals numbers strides w b =
    let iters = iters_of numbers strides 1 in
    record {
      eight = walked_eight iters b far;
      each = λ axis h. rw (left_by iters b axis h) (from_far roomy (part iters b axis) (omega (arith, along_room numbers strides 1 w 0 b axis)));
    }

-- after eight sums none is left to be mixed in
module _ (sums : List ℤ) (eight : length sums ≡ 8) where
  pub key_all : (key : ℕ) → key_from key (drop 8 sums) ≡ key
  key_all key = ap (key_from key) (ap (λ (n : ℕ). drop n sums) (sym eight) ∙ drop-length sums)

-- combinations that were passed
module _ (keys : List ℕ) (b from : ℕ) where
  pub passes_none : from ≤ b → Passes keys b from from
  passes_none h = record { from_there = omega arith; at_most = h; other_keys = λ x after before. absurd (omega arith) }

  -- b itself has its key
  pub not_yet : (a : ℕ) → (get_or keys a 0 ≡ get_or keys b 0 → ⊥) → Passes keys b from a → a < b
  not_yet a differ so_far =
      elim (ℕ_discrete a b) [
        | yes same ↦ absurd (differ (ap (λ (x : ℕ). get_or keys x 0) same))
        | no before ↦ omega (arith, so_far.at_most)
      ]

  pub passes_more : (a : ℕ) → (get_or keys a 0 ≡ get_or keys b 0 → ⊥) → Passes keys b from a → Passes keys b from (a + 1)
  passes_more a differ so_far = record {
    from_there = omega (arith, so_far.from_there);
    at_most = omega (arith, not_yet a differ so_far);
    other_keys = λ x after before.
        elim (ℕ_discrete x a) [
          | yes same ↦ λ e. differ (ap (λ (y : ℕ). get_or keys y 0) (sym same) ∙ e)
          | no other ↦ so_far.other_keys x after (omega arith)
        ];
  }

-- keys in their places
module _ (replica : Iters) where
  pub keyed_first : (keys : List ℕ) → length keys ≡ 64 → Keyed replica 1 (set keys 0 (key_of far))
  keyed_first keys h = record {
    places = length-set keys 0 _ ∙ h;
    key_at = λ x below.
        let first : x ≡ 0 = omega arith in
        rw (first, first_left replica) (get_or-set_same keys 0 (key_of far) 0 (omega (arith, h)));
  }

  pub keyed_more : (b : ℕ) (keys : List ℕ) → b < 64 → Keyed replica b keys → Keyed replica (b + 1) (set keys b (key_of (walked replica b far)))
  keyed_more b keys h so_far = record {
    places = length-set keys b _ ∙ so_far.places;
    key_at = λ x below.
        elim (ℕ_discrete x b) [
          | yes same ↦ rw same (get_or-set_same keys b (key_of (walked replica b far)) 0 (omega (arith, so_far.places)))
          | no other ↦ get_or-set_other keys b x (key_of (walked replica b far)) 0 other ∙ so_far.key_at x (omega arith)
        ];
  }

  -- combinations with other keys have other sums
  pub none_passed : (b from a : ℕ) (keys : List ℕ) → Keyed replica (b + 1) keys → Passes keys b from a → NoneBelow replica b from → NoneBelow replica b a
  none_passed b from a keys keyed passed so_far x h same =
      elim (dec_lt x from) [
        | yes before ↦ so_far x before same
        | no after ↦
            passed.other_keys x (omega arith) h
            (keyed.key_at x (omega (arith, passed.at_most)) ∙ ap key_of (same_left replica x b same) ∙ sym (keyed.key_at b (omega arith)))
      ]
