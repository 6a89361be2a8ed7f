-- `outside_ends::spread` walks a list of iters to the index of each far end: each turn passes one iter more, from the last, whose component there is its far end.
use Rattle.std.proofs.Common.{arith, ◌≡◌, ◌∙◌, ◌+◌, ◌*◌, ◌-◌, ◌≤◌, ◌<◌, ℕ, List, Bool, true, false, sym, ap, subst, get_or}
use native.Mathlib.Nat.{mul-le-mul}
use mathlib.Core.List.{map}
use lib.IntN.{ℤ, pos, nat_abs, ◌+ℤ◌, ◌*ℤ◌}
use lib.ListN.{set}
use lib.Seq.{slice}
use mir.Syntax.{w64}
use mir.Facts.{to_z-of_z}
use Rattle.laws.proofs.Signed.{sum_far}
use Rattle.card.specs.Lists.{slots}
use Rattle.card.specs.Limits.{most_extent}
use Rattle.card.specs.Packed.{farthest, iter_at, iters_of}
use Rattle.card.specs.declared.Iter.{Iter}
use Rattle.card.proofs.Admitted.{fitting}
use Rattle.rules.specs.Walked.{walked}
use Rattle.rules.proofs.Along.{along}
use Rattle.copies_sums.specs.Walks.{roomy, Walkable, Sums, Steps}
use Rattle.copies_sums.proofs.Turn.{Meets, meets, iters_next, along_room}
use Rattle.outside_reach.specs.Ends.{far_end}
use Rattle.outside_reach.proofs.Reach.{end_below, Fits, far, Spread, spread_none, spread_more, spread_all}
use Rattle.outside_ends.proofs.spread.Goals as goal

-- what a turn meets in a list whose iters from k on are passed
module _ (numbers : List ℕ) (strides : List ℤ) (list : ℕ) (w : Walkable numbers strides list) (k : ℕ) (some : 0 < k) (most : k ≤ get_or numbers (40 + list) 0) where
  abbrev at : List Iter
  at = map (iter_at numbers strides list) slots

  abbrev count : ℕ
  count = get_or numbers (40 + list) 0

  abbrev met : Iter
  met = iter_at numbers strides list (k - 1)

  turn : Meets met
  turn = meets numbers strides list w (k - 1) (omega arith)

  axis_below : met.axis < 8
  axis_below = omega (arith, turn.an_axis)

  -- the extents are within their limits
  fits : Fits at count
  fits = (fitting (iters_of numbers strides list) w.fit).extents

  -- sums so far are not far from zero
  module _ (up : Bool) (before sums : List ℤ) (small : Sums before) (s : Spread up at count before k sums) where
    sum_so_far : nat_abs (get_or sums met.axis (pos 0)) ≤ 2 * roomy
    sum_so_far =
        rw (s.sums_so_far met.axis (omega (arith, turn.an_axis)))
        (omega (
          arith,
          sum_far (get_or before met.axis (pos 0)) (along (slice k count at) (far up at count) met.axis),
          along_room numbers strides list w k (far up at count) met.axis,
          small.small met.axis,
        ))

    -- so the far end of the iter can be added
    steps : Steps (get_or sums met.axis (pos 0)) (far_end up met) met.stride
    steps =
        let below = end_below up met turn.some_extent in
        let few : far_end up met ≤ most_extent = omega (arith, turn.most_extent_lem) in
        record {
          small_component = omega (arith, few);
          room = omega (arith, sum_so_far, mul-le-mul {n₂ = most_extent} {m₂ = farthest} few turn.most_stride_lem);
        }

    -- and is, by the turn
    more : Spread up at count before (k - 1) (set sums met.axis (get_or sums met.axis (pos 0) +ℤ pos (far_end up met) *ℤ met.stride))
    more =
        let back : k ≡ k - 1 + 1 = omega arith in
        spread_more up at count fits before (k - 1) met (iters_next numbers strides list w (k - 1) (omega arith)) (omega (arith, turn.an_axis))
        (subst (λ (n : ℕ). Spread up at count before n sums) back s)

-- the far end of an iter whose stride is read from the machine
ended : (up : Bool) (iter : Iter) {z : ℤ} {r : ℕ} → z ≡ iter.stride → r ≡ far_end up (record { extent = iter.extent; stride = z; axis = 0 }) → r ≡ far_end up iter
ended up iter back e = e ∙ ap (λ (z : ℤ). far_end up (record { extent = iter.extent; stride = z; axis = 0 })) back

pub loop-k-init : goal.loop-k-init
loop-k-init c =
    let a = c.args in
    let at = map (iter_at a.numbers.now a.strides.now a.list) slots in
    let count = get_or a.numbers.now (40 + a.list) 0 in record {
      down = spread_none false at count a.low.now c.requires.1.eight;
      up = spread_none true at count a.high.now c.requires.2.eight;
    }

pub offset_bounds-low-axis : goal.offset_bounds-low-axis
offset_bounds-low-axis c = let h = axis_below c.args.numbers.now c.args.strides.now c.args.list c.requires.0 c.loop-k.k (omega arith) (omega arith) in omega arith

pub bounds-low-axis : goal.bounds-low-axis
bounds-low-axis c = axis_below c.args.numbers.now c.args.strides.now c.args.list c.requires.0 c.loop-k.k (omega arith) (omega arith)

pub offset_bounds-low-axis-in-loop-k : goal.offset_bounds-low-axis-in-loop-k
offset_bounds-low-axis-in-loop-k c = let h = axis_below c.args.numbers.now c.args.strides.now c.args.list c.requires.0 c.loop-k.k (omega arith) (omega arith) in omega arith

pub bounds-low-axis-in-loop-k : goal.bounds-low-axis-in-loop-k
bounds-low-axis-in-loop-k c = axis_below c.args.numbers.now c.args.strides.now c.args.list c.requires.0 c.loop-k.k (omega arith) (omega arith)

pub offset_bounds-high-axis : goal.offset_bounds-high-axis
offset_bounds-high-axis c = let h = axis_below c.args.numbers.now c.args.strides.now c.args.list c.requires.0 c.loop-k.k (omega arith) (omega arith) in omega arith

pub bounds-high-axis : goal.bounds-high-axis
bounds-high-axis c = axis_below c.args.numbers.now c.args.strides.now c.args.list c.requires.0 c.loop-k.k (omega arith) (omega arith)

pub offset_bounds-high-axis-in-loop-k : goal.offset_bounds-high-axis-in-loop-k
offset_bounds-high-axis-in-loop-k c = let h = axis_below c.args.numbers.now c.args.strides.now c.args.list c.requires.0 c.loop-k.k (omega arith) (omega arith) in omega arith

pub bounds-high-axis-in-loop-k : goal.bounds-high-axis-in-loop-k
bounds-high-axis-in-loop-k c = axis_below c.args.numbers.now c.args.strides.now c.args.list c.requires.0 c.loop-k.k (omega arith) (omega arith)

pub far_end-requires : goal.far_end-requires
far_end-requires c = (turn c.args.numbers.now c.args.strides.now c.args.list c.requires.0 c.loop-k.k (omega arith) (omega arith)).some_extent

pub far_end-requires-in-loop-k : goal.far_end-requires-in-loop-k
far_end-requires-in-loop-k c = (turn c.args.numbers.now c.args.strides.now c.args.list c.requires.0 c.loop-k.k (omega arith) (omega arith)).some_extent

pub step-down-requires : goal.step-down-requires
step-down-requires c =
    let a = c.args in
    let l = c.loop-k in
    let iter = iter_at a.numbers.now a.strides.now a.list (l.k - 1) in
    let low_back = to_z-of_z {w = w64} {z = get_or l.low iter.axis (pos 0)} (record { sfits = c.step-arg-1.given }) in
    let stride_back = to_z-of_z {w = w64} {z = iter.stride} (record { sfits = c.stride-1.given }) in
    rw (low_back, stride_back)
    (subst (λ (n : ℕ). Steps (get_or l.low iter.axis (pos 0)) n iter.stride) (sym (ended false iter stride_back c.far_end.ensures))
    (steps a.numbers.now a.strides.now a.list c.requires.0 l.k (omega arith) (omega arith) false a.low.now l.low c.requires.1 l.invariant.down))

pub step-up-requires : goal.step-up-requires
step-up-requires c =
    let a = c.args in
    let l = c.loop-k in
    let iter = iter_at a.numbers.now a.strides.now a.list (l.k - 1) in
    let high_back = to_z-of_z {w = w64} {z = get_or l.high iter.axis (pos 0)} (record { sfits = c.step-arg-in-loop-k-1.given }) in
    let stride_back = to_z-of_z {w = w64} {z = iter.stride} (record { sfits = c.stride-1.given }) in
    rw (high_back, stride_back)
    (subst (λ (n : ℕ). Steps (get_or l.high iter.axis (pos 0)) n iter.stride) (sym (ended true iter stride_back c.far_end-in-loop-k.ensures))
    (steps a.numbers.now a.strides.now a.list c.requires.0 l.k (omega arith) (omega arith) true a.high.now l.high c.requires.2 l.invariant.up))

pub loop-k-preserved : goal.loop-k-preserved
loop-k-preserved c =
    let a = c.args in
    let l = c.loop-k in
    let iter = iter_at a.numbers.now a.strides.now a.list (l.k - 1) in
    let stride_back = to_z-of_z {w = w64} {z = iter.stride} (record { sfits = c.stride-1.given }) in
    let low_back = to_z-of_z {w = w64} {z = get_or l.low iter.axis (pos 0)} (record { sfits = c.step-arg-1.given }) in
    let high_back = to_z-of_z {w = w64} {z = get_or l.high iter.axis (pos 0)} (record { sfits = c.step-arg-in-loop-k-1.given }) in
    let moved : List ℤ → ℕ → ℤ = λ sums n. get_or sums iter.axis (pos 0) +ℤ pos n *ℤ iter.stride in
    let down = to_z-of_z {w = w64} {z = c.step-down.result} (record { sfits = c.step-down.type_inv }) ∙ rw (low_back, stride_back) at c.step-down.ensures ∙ ap (moved l.low) (ended false iter stride_back c.far_end.ensures) in
    let up = to_z-of_z {w = w64} {z = c.step-up.result} (record { sfits = c.step-up.type_inv }) ∙ rw (high_back, stride_back) at c.step-up.ensures ∙ ap (moved l.high) (ended true iter stride_back c.far_end-in-loop-k.ensures) in record {
      down = rw down (more a.numbers.now a.strides.now a.list c.requires.0 l.k (omega arith) (omega arith) false a.low.now l.low c.requires.1 l.invariant.down);
      up = rw up (more a.numbers.now a.strides.now a.list c.requires.0 l.k (omega arith) (omega arith) true a.high.now l.high c.requires.2 l.invariant.up);
    }

pub returns-clause-moves : goal.returns-clause-moves
unfolding walked
returns-clause-moves c =
    let a = c.args in
    let end : c.loop-k.k ≡ 0 = omega arith in
    spread_all false (map (iter_at a.numbers.now a.strides.now a.list) slots) (get_or a.numbers.now (40 + a.list) 0) a.low.now (rw end at c.loop-k.invariant.down)

pub returns-clause-moves_2 : goal.returns-clause-moves_2
unfolding walked
returns-clause-moves_2 c =
    let a = c.args in
    let end : c.loop-k.k ≡ 0 = omega arith in
    spread_all true (map (iter_at a.numbers.now a.strides.now a.list) slots) (get_or a.numbers.now (40 + a.list) 0) a.high.now (rw end at c.loop-k.invariant.up)
