-- `copies_sums::walk` adds to each axis what the iters add there: each turn passes one iter more, from the last.
use Rattle.std.proofs.Common.{arith, ℕ, ◌+◌, ◌*◌, ◌-◌, ◌≤◌, ◌≡◌, ◌∙◌, subst, get_or}
use native.Mathlib.Nat.{mul-le-mul}
use mathlib.Core.List.{map}
use lib.IntN.{pos, nat_abs}
use lib.Seq.{slice}
use mir.Syntax.{w64}
use mir.Facts.{to_z-of_z}
use Rattle.laws.proofs.Signed.{sum_far}
use Rattle.card.specs.Lists.{slots}
use Rattle.card.specs.Limits.{most_extent}
use Rattle.card.specs.Packed.{farthest, iter_at}
use Rattle.rules.specs.Walked.{walked}
use Rattle.copies_sums.specs.Walks.{roomy}
use Rattle.rules.proofs.Along.{along, Walking, walking_none, walking_more, walked_all}
use Rattle.copies_sums.proofs.Turn.{Meets, meets, iters_next, along_room, component_small}
use Rattle.copies_sums.proofs.walk.Goals as goal

pub loop-k-init : goal.loop-k-init
loop-k-init c =
    let a = c.args in
    walking_none (map (iter_at a.numbers.now a.strides.now a.list) slots) (get_or a.numbers.now (40 + a.list) 0) a.index a.sums.now c.requires.1.eight

pub offset_bounds-sums-axis : goal.offset_bounds-sums-axis
offset_bounds-sums-axis c = let t = meets c.args.numbers.now c.args.strides.now c.args.list c.requires.0 (c.loop-k.k - 1) (omega arith) in omega (arith, t.an_axis)

pub bounds-sums-axis : goal.bounds-sums-axis
bounds-sums-axis c = let t = meets c.args.numbers.now c.args.strides.now c.args.list c.requires.0 (c.loop-k.k - 1) (omega arith) in omega (arith, t.an_axis)

pub nonzero_rem-rest : goal.nonzero_rem-rest
nonzero_rem-rest c = (meets c.args.numbers.now c.args.strides.now c.args.list c.requires.0 (c.loop-k.k - 1) (omega arith)).some_extent

pub step-sum-requires : goal.step-sum-requires
step-sum-requires c =
    let a = c.args in
    let l = c.loop-k in
    let met = iter_at a.numbers.now a.strides.now a.list (l.k - 1) in
    let t : Meets met = meets a.numbers.now a.strides.now a.list c.requires.0 (l.k - 1) (omega arith) in
    let passed = slice l.k (get_or a.numbers.now (40 + a.list) 0) (map (iter_at a.numbers.now a.strides.now a.list) slots) in
    let sum_back = to_z-of_z {w = w64} {z = get_or l.sums met.axis (pos 0)} (record { sfits = c.step-arg-1.given }) in
    let stride_back = to_z-of_z {w = w64} {z = met.stride} (record { sfits = c.step-arg-in-loop-k-1.given }) in
    let near : nat_abs (get_or l.sums met.axis (pos 0)) ≤ 2 * roomy =
    rw (l.invariant.sums_so_far met.axis (omega (arith, t.an_axis)))
    (omega (
      arith,
      sum_far (get_or a.sums.now met.axis (pos 0)) (along passed a.index met.axis),
      along_room a.numbers.now a.strides.now a.list c.requires.0 l.k a.index met.axis,
      c.requires.1.small met.axis,
    )) in
    let small = component_small l.rest met t in
    rw (sum_back, stride_back)
    (record {
      small_component = omega (arith, small);
      room = omega (arith, near, mul-le-mul {n₂ = most_extent} {m₂ = farthest} small t.most_stride_lem);
    })

pub offset_bounds-sums-axis-in-loop-k : goal.offset_bounds-sums-axis-in-loop-k
offset_bounds-sums-axis-in-loop-k c = let t = meets c.args.numbers.now c.args.strides.now c.args.list c.requires.0 (c.loop-k.k - 1) (omega arith) in omega (arith, t.an_axis)

pub bounds-sums-axis-in-loop-k : goal.bounds-sums-axis-in-loop-k
bounds-sums-axis-in-loop-k c = let t = meets c.args.numbers.now c.args.strides.now c.args.list c.requires.0 (c.loop-k.k - 1) (omega arith) in omega (arith, t.an_axis)

pub nonzero_div-rest : goal.nonzero_div-rest
nonzero_div-rest c = (meets c.args.numbers.now c.args.strides.now c.args.list c.requires.0 (c.loop-k.k - 1) (omega arith)).some_extent

pub loop-k-preserved : goal.loop-k-preserved
loop-k-preserved c =
    let a = c.args in
    let l = c.loop-k in
    let j = l.k - 1 in
    let met = iter_at a.numbers.now a.strides.now a.list j in
    let t : Meets met = meets a.numbers.now a.strides.now a.list c.requires.0 j (omega arith) in
    let all = map (iter_at a.numbers.now a.strides.now a.list) slots in
    let count = get_or a.numbers.now (40 + a.list) 0 in
    let back : l.k ≡ j + 1 = omega arith in
    let walking = subst (λ (k : ℕ). Walking all count a.index a.sums.now k l.rest l.sums) back l.invariant in
    let sum_back = to_z-of_z {w = w64} {z = get_or l.sums met.axis (pos 0)} (record { sfits = c.step-arg-1.given }) in
    let stride_back = to_z-of_z {w = w64} {z = met.stride} (record { sfits = c.step-arg-in-loop-k-1.given }) in
    let new = to_z-of_z {w = w64} {z = c.step-sum.result} (record { sfits = c.step-sum.type_inv }) ∙ rw (sum_back, stride_back) at c.step-sum.ensures in
    rw new
    (walking_more all count a.index a.sums.now j l.rest met (iters_next a.numbers.now a.strides.now a.list c.requires.0 j (omega arith)) (omega (arith, t.an_axis)) walking)

pub returns : goal.returns
unfolding walked
returns c =
    let a = c.args in
    let end : c.loop-k.k ≡ 0 = omega arith in
    walked_all (map (iter_at a.numbers.now a.strides.now a.list) slots) (get_or a.numbers.now (40 + a.list) 0) a.index a.sums.now (rw end at c.loop-k.invariant)
