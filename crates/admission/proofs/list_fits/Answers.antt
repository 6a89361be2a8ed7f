-- `admission::list_fits` tests the three columns of a list up to its count side by side: a turn tests one more of each and leaves the test of the rest, and the
-- columns are those of the listed iters.
use Rattle.std.proofs.Common.{arith, ◌≡◌, ◌+◌, get_or}
use mathlib.Core.Path.{ap₂}
use mathlib.Core.Bool.{◌&&◌}
use borrow.Author.Tests.{le-leb}
use mir.Syntax.{w64}
use mir.Facts.{to_z-of_z}
use Rattle.card.specs.Lists.{within, within_z}
use Rattle.card.specs.Limits.{most_extent, least_stride, most_stride, last_axis}
use Rattle.card.specs.Card.{extent_of, stride_of, axis_of}
use Rattle.card.specs.Packed.{iter_at}
use Rattle.admission.proofs.list_fits.Invariants.{upto_more, all_tested}
use Rattle.admission.proofs.list_fits.Goals as goal

pub loop-k-preserved : goal.loop-k-preserved
loop-k-preserved c =
    let at = iter_at c.args.numbers.now c.args.strides.now c.args.list in
    let count = get_or c.args.numbers.now (40 + c.args.list) 0 in
    let l = c.loop-k in
    let h = c.loop-k-test.true in
    let few = c.requires.few in
    let back = to_z-of_z {w = w64} {z = (at l.k).stride} (record { sfits = c.stride-1.given }) in record {
      extents = upto_more (within 1 most_extent) (λ j. (at j).extent) count l.k l.extents h few l.invariant.extents;
      steps = rw back (upto_more (within_z least_stride most_stride) (λ j. (at j).stride) count l.k l.steps h few l.invariant.steps);
      axes = rw (le-leb 0 (at l.k).axis (omega arith)) at (upto_more (within 0 last_axis) (λ j. (at j).axis) count l.k l.axes h few l.invariant.axes);
    }

pub returns-clause-limits_value : goal.returns-clause-limits_value
returns-clause-limits_value c =
    let at = iter_at c.args.numbers.now c.args.strides.now c.args.list in
    let count = get_or c.args.numbers.now (40 + c.args.list) 0 in
    let l = c.loop-k in
    let end : l.k ≡ count = omega arith in
    ap₂ ◌&&◌ (all_tested (within 1 most_extent) extent_of at count l.k l.extents end l.invariant.extents)
    (all_tested (within_z least_stride most_stride) stride_of at count l.k l.steps end l.invariant.steps)

pub returns-clause-axes_value : goal.returns-clause-axes_value
returns-clause-axes_value c =
    let at = iter_at c.args.numbers.now c.args.strides.now c.args.list in
    let count = get_or c.args.numbers.now (40 + c.args.list) 0 in
    let l = c.loop-k in
    let end : l.k ≡ count = omega arith in
    all_tested (within 0 last_axis) axis_of at count l.k l.axes end l.invariant.axes
