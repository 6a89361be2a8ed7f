-- `outside_axis::first_within` numbers the components of the definition from the first: each turn takes one iter more, and what is spare after it.
use Rattle.std.proofs.Common.{arith, ◌≡◌, ◌∙◌, [], ◌∷◌, ◌+◌, ◌*◌, ◌-◌, ◌^◌, ◌≤◌, ◌<◌, ℕ, List, Bool, ap, subst, get_or}
use mathlib.Core.Path.{ap₂}
use mathlib.Core.List.{map}
use lib.IntN.{ℤ}
use lib.Seq.{slice_empty}
use mir.Syntax.{w64}
use mir.Facts.{to_z-of_z}
use Rattle.card.specs.Lists.{slots}
use Rattle.card.specs.Card.{extent_of}
use Rattle.card.specs.Packed.{iter_at, iters_of}
use Rattle.card.specs.declared.Iter.{Iter}
use Rattle.card.specs.Limits.{most_extent}
use Rattle.card.proofs.Lists.{product_positive}
use Rattle.card.proofs.Admitted.{fitting}
use Rattle.copies_sums.proofs.Turn.{Meets, meets, iters_next}
use Rattle.copies.proofs.Numbering.{Numbering, numbering_none, numbering_room, numbering_more}
use Rattle.rules_linear.specs.Reaching.{ahead, steps_back, first_within}
use Rattle.rules_linear.proofs.Reaching.{back_most, back_spare}
use Rattle.outside_axis.specs.Clauses.{Indexed}
use Rattle.outside_axis.proofs.first_within.Invariants.{later}
use Rattle.outside_axis.proofs.first_within.Goals as goal

-- what one step of an iter is found to move, by the stride that the machine reads
weight_found : (axis : ℕ) (upwards : Bool) (iter : Iter) {z : ℤ} {w : ℕ} → z ≡ iter.stride → w ≡ ahead upwards axis (record { extent = 0; stride = z; axis = iter.axis }) → w ≡ ahead upwards axis iter
weight_found axis upwards iter back e = e ∙ ap (λ (z : ℤ). ahead upwards axis (record { extent = 0; stride = z; axis = iter.axis })) back

-- a turn at iter k, of a walk that has numbered those before it and has so much left to spare
module _ (numbers : List ℕ) (strides : List ℤ) (list : ℕ) (axis : ℕ) (upwards : Bool) (spare : ℕ) (i : Indexed numbers strides list) (k left index : ℕ) (h : k < get_or numbers (40 + list) 0) where
  abbrev all : List Iter
  all = later numbers strides list 0

  abbrev rest : List Iter
  rest = later numbers strides list (k + 1)

  abbrev met : Iter
  met = iter_at numbers strides list k

  abbrev weight : ℕ
  weight = ahead upwards axis met

  abbrev back : ℕ
  back = steps_back met.extent weight left

  turn : Meets met
  turn = meets numbers strides list i.walkable k h

  abbrev So_far : Type 0
  So_far =
      Numbering (map extent_of all) (first_within upwards axis spare all) (map extent_of (later numbers strides list k)) (first_within upwards axis left (later numbers strides list k)) k index

  -- a turn numbers the component of its iter
  numbering : So_far → Numbering (map extent_of all) (first_within upwards axis spare all) (met.extent ∷ map extent_of rest) ((met.extent - 1 - back) ∷ first_within upwards axis (left - back * weight) rest) k index
  numbering n =
      subst (λ (m : List Iter). Numbering (map extent_of all) (first_within upwards axis spare all) (map extent_of m) (first_within upwards axis left m) k index)
      (iters_next numbers strides list i.walkable k h) n

  -- what the machine finds is that of the iter
  module _ (w b : ℕ) (weighed : w ≡ weight) (stayed : b ≡ steps_back met.extent w left) where
    back_is : b ≡ back
    back_is = stayed ∙ ap (λ (x : ℕ). steps_back met.extent x left) weighed

    product : b * w ≡ back * weight
    product = ap₂ ◌*◌ back_is weighed

    spared : b * w ≤ left
    spared = omega (arith, product, back_spare met.extent weight left)

    most : b ≤ met.extent - 1
    most = omega (arith, back_is, back_most met.extent weight left)

    room : So_far → index * met.extent + (met.extent - 1 - b) < 2 ^ 32
    room n =
        omega (
          arith,
          back_is,
          turn.some_extent,
          numbering_room met.extent (map extent_of rest) (met.extent - 1 - back) (first_within upwards axis (left - back * weight) rest) k index (numbering n)
              (omega (arith, turn.some_extent)),
          i.small,
        )

pub loop-k-init : goal.loop-k-init
loop-k-init c =
    let a = c.args in
    let all = later a.numbers.now a.strides.now a.list 0 in
    let some = product_positive most_extent (map extent_of all) (fitting (iters_of a.numbers.now a.strides.now a.list) c.requires.walkable.fit).extents in record {
      spared = omega arith;
      numbering = numbering_none (map extent_of all) (first_within a.upwards a.axis a.spare all) some;
    }

pub step_ahead-weight-requires : goal.step_ahead-weight-requires
step_ahead-weight-requires c =
    let a = c.args in
    let l = c.loop-k in
    let t = turn a.numbers.now a.strides.now a.list a.axis a.upwards a.spare c.requires l.k l.left l.index (omega arith) in
    rw (to_z-of_z {w = w64} {z = (iter_at a.numbers.now a.strides.now a.list l.k).stride} (record { sfits = c.step_ahead-arg-in-loop-k-1.given })) t.most_stride_lem

pub steps_back-back-requires : goal.steps_back-back-requires
steps_back-back-requires c =
    let a = c.args in
    let l = c.loop-k in
    (turn a.numbers.now a.strides.now a.list a.axis a.upwards a.spare c.requires l.k l.left l.index (omega arith)).some_extent

pub overflow_mul-index : goal.overflow_mul-index
overflow_mul-index c =
    let a = c.args in
    let l = c.loop-k in
    let iter = iter_at a.numbers.now a.strides.now a.list l.k in
    let weight_is = weight_found a.axis a.upwards iter (to_z-of_z {w = w64} {z = iter.stride} (record { sfits = c.step_ahead-arg-in-loop-k-1.given })) c.step_ahead-weight.ensures in
    let fits = room a.numbers.now a.strides.now a.list a.axis a.upwards a.spare c.requires l.k l.left l.index (omega arith) c.step_ahead-weight.result c.steps_back-back.result weight_is c.steps_back-back.ensures l.invariant.numbering in
    omega (arith, fits)

pub overflow_sub-index : goal.overflow_sub-index
overflow_sub-index c =
    let a = c.args in
    let l = c.loop-k in
    (turn a.numbers.now a.strides.now a.list a.axis a.upwards a.spare c.requires l.k l.left l.index (omega arith)).some_extent

pub overflow_add-index : goal.overflow_add-index
overflow_add-index c =
    let a = c.args in
    let l = c.loop-k in
    let iter = iter_at a.numbers.now a.strides.now a.list l.k in
    let weight_is = weight_found a.axis a.upwards iter (to_z-of_z {w = w64} {z = iter.stride} (record { sfits = c.step_ahead-arg-in-loop-k-1.given })) c.step_ahead-weight.ensures in
    let fits = room a.numbers.now a.strides.now a.list a.axis a.upwards a.spare c.requires l.k l.left l.index (omega arith) c.step_ahead-weight.result c.steps_back-back.result weight_is c.steps_back-back.ensures l.invariant.numbering in
    omega (arith, fits)

pub overflow_mul-left : goal.overflow_mul-left
overflow_mul-left c =
    let a = c.args in
    let l = c.loop-k in
    let iter = iter_at a.numbers.now a.strides.now a.list l.k in
    let weight_is = weight_found a.axis a.upwards iter (to_z-of_z {w = w64} {z = iter.stride} (record { sfits = c.step_ahead-arg-in-loop-k-1.given })) c.step_ahead-weight.ensures in
    let fits = spared a.numbers.now a.strides.now a.list a.axis a.upwards a.spare c.requires l.k l.left l.index (omega arith) c.step_ahead-weight.result c.steps_back-back.result weight_is c.steps_back-back.ensures in
    omega (arith, fits, l.invariant.spared, c.ranges.spare)

pub overflow_sub-left : goal.overflow_sub-left
overflow_sub-left c =
    let a = c.args in
    let l = c.loop-k in
    let iter = iter_at a.numbers.now a.strides.now a.list l.k in
    let weight_is = weight_found a.axis a.upwards iter (to_z-of_z {w = w64} {z = iter.stride} (record { sfits = c.step_ahead-arg-in-loop-k-1.given })) c.step_ahead-weight.ensures in
    spared a.numbers.now a.strides.now a.list a.axis a.upwards a.spare c.requires l.k l.left l.index (omega arith) c.step_ahead-weight.result c.steps_back-back.result weight_is c.steps_back-back.ensures

pub loop-k-preserved : goal.loop-k-preserved
loop-k-preserved c =
    let a = c.args in
    let l = c.loop-k in
    let iter = iter_at a.numbers.now a.strides.now a.list l.k in
    let weight_is = weight_found a.axis a.upwards iter (to_z-of_z {w = w64} {z = iter.stride} (record { sfits = c.step_ahead-arg-in-loop-k-1.given })) c.step_ahead-weight.ensures in
    let weight = ahead a.upwards a.axis iter in
    let back = steps_back iter.extent weight l.left in
    let rest = later a.numbers.now a.strides.now a.list (l.k + 1) in
    let t = turn a.numbers.now a.strides.now a.list a.axis a.upwards a.spare c.requires l.k l.left l.index (omega arith) in
    let same = product a.numbers.now a.strides.now a.list a.axis a.upwards a.spare c.requires l.k l.left l.index (omega arith) c.step_ahead-weight.result c.steps_back-back.result weight_is c.steps_back-back.ensures in
    let stayed = back_is a.numbers.now a.strides.now a.list a.axis a.upwards a.spare c.requires l.k l.left l.index (omega arith) c.step_ahead-weight.result c.steps_back-back.result weight_is c.steps_back-back.ensures in record {
      spared = omega (arith, l.invariant.spared);
      numbering =
          rw (same, stayed)
          (numbering_more iter.extent (map extent_of rest) (iter.extent - 1 - back) (first_within a.upwards a.axis (l.left - back * weight) rest) l.k l.index
          (numbering a.numbers.now a.strides.now a.list a.axis a.upwards a.spare c.requires l.k l.left l.index (omega arith) l.invariant.numbering) (omega (arith, t.some_extent)));
    }

pub returns : goal.returns
returns c =
    let a = c.args in
    let l = c.loop-k in
    let count = get_or a.numbers.now (40 + a.list) 0 in
    let from = later a.numbers.now a.strides.now a.list in
    let end : l.k ≡ count = omega arith in
    let none : from l.k ≡ [] = ap from end ∙ slice_empty count (map (iter_at a.numbers.now a.strides.now a.list) slots) in
    let all = subst (λ (m : List Iter). Numbering (map extent_of (from 0)) (first_within a.upwards a.axis a.spare (from 0)) (map extent_of m) (first_within a.upwards a.axis l.left m) l.k l.index) none l.invariant.numbering in
    omega (arith, all.same_number)
