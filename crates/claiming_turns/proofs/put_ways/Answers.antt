-- `claiming_turns::put_ways` writes what one step of each iter adds: with the loop's index in the place of how many are slower, those so far are written.
use Rattle.std.proofs.Common.{arith, ◌≡◌, ◌≤◌, ◌<◌, ℕ, List}
use lib.IntN.{ℤ}
use mir.Syntax.{w64}
use mir.Facts.{to_z-of_z}
use Rattle.card.specs.Packed.{Admits}
use Rattle.copies.proofs.Cards.{walkable_shard}
use Rattle.claiming_turns.specs.Turns.{shard_iters, RunFrom}
use Rattle.claiming_turns.proofs.Ways.{iters_count, ways_none, ways_more}
use Rattle.claiming_turns.proofs.put_ways.Goals as goal

few : (numbers : List ℕ) (strides : List ℤ) (from : ℕ) → Admits numbers strides → RunFrom (shard_iters numbers strides) from → from ≤ 8
few numbers strides from a r =
    let w = walkable_shard numbers strides a in omega (arith, r.most, iters_count numbers strides w.of.few, w.of.few)

pub loop-k-init : goal.loop-k-init
loop-k-init c = ways_none c.args.numbers.now c.args.strides.now c.args.levels.now c.args.ms.now c.requires.2 c.requires.3

pub way-step-requires : goal.way-step-requires
way-step-requires c =
    let w = walkable_shard c.args.numbers.now c.args.strides.now c.requires.0 in
    (c.requires.0, omega (arith, c.requires.1.most, iters_count c.args.numbers.now c.args.strides.now w.of.few))

pub offset_bounds-levels-k : goal.offset_bounds-levels-k
offset_bounds-levels-k c = omega (arith, few c.args.numbers.now c.args.strides.now c.args.from c.requires.0 c.requires.1)

pub bounds-levels-k : goal.bounds-levels-k
bounds-levels-k c = omega (arith, few c.args.numbers.now c.args.strides.now c.args.from c.requires.0 c.requires.1)

pub offset_bounds-ms-k : goal.offset_bounds-ms-k
offset_bounds-ms-k c = omega (arith, few c.args.numbers.now c.args.strides.now c.args.from c.requires.0 c.requires.1)

pub bounds-ms-k : goal.bounds-ms-k
bounds-ms-k c = omega (arith, few c.args.numbers.now c.args.strides.now c.args.from c.requires.0 c.requires.1)

pub loop-k-preserved : goal.loop-k-preserved
loop-k-preserved c =
    let a = c.args in
    let l = c.loop-k in
    let p = c.way-step.result in
    let below : l.k < 8 = omega (arith, few a.numbers.now a.strides.now a.from c.requires.0 c.requires.1) in
    rw (to_z-of_z {w = w64} {z = p.level} (record { sfits = c.struct_told-in-loop-k-1.given.0.1 }), to_z-of_z {w = w64} {z = p.m} (record { sfits = c.struct_told-in-loop-k-1.given.1.0.1 }))
    (ways_more a.numbers.now a.strides.now l.levels l.ms l.k p below l.invariant c.way-step.ensures)

pub returns : goal.returns
returns c =
    let end : c.loop-k.k ≡ c.args.from = omega arith in
    rw end at c.loop-k.invariant
