-- `copies::place_copies` fills the row: a turn puts the cell of one combination more there, and its axis into the smallest.
use Rattle.std.proofs.Common.{arith, ◌≡◌, ◌∙◌, ap, length}
use Prim.Native.Nat.{min}
use lib.Seq.{slice}
use Rattle.rules.specs.Rules.{spot_at}
use Rattle.card.specs.Packed.{iters_of, swizzle_of}
use Rattle.rules.specs.Walked.{position_from}
use Rattle.copies.proofs.Spaces.{roomed}
use Rattle.copies.proofs.Numbers.{Small, position_small, cell_from_lem, axis_from_lem}
use Rattle.rules.proofs.Filling.{filling_more, filling_all}
use Rattle.copies.proofs.place_copies.Goals as goal

pub loop-combination-preserved : goal.loop-combination-preserved
loop-combination-preserved c =
    let a = c.args in
    let l = c.loop-combination in
    let lengths = slice 32 40 a.numbers.now in
    let at = position_from lengths (swizzle_of a.numbers.now) (iters_of a.numbers.now a.strides.now 1) a.base.now in
    let here = at l.combination in
    let n = roomed lengths c.requires.space in
    let small : Small here = position_small lengths _ (omega (arith, n.few)) in
    rw (
      c.min-outside.ensures ∙ ap (min l.outside) (c.axis_from.ensures ∙ axis_from_lem here small c.copy_number-number.ensures),
      c.cell_from.ensures ∙ cell_from_lem here small c.copy_number-number.ensures,
    )
    (filling_more (λ r. spot_at (at r)) a.row.now l.combination (omega arith) l.invariant)

pub returns : goal.returns
returns c =
    let a = c.args in
    let l = c.loop-combination in
    let at = position_from (slice 32 40 a.numbers.now) (swizzle_of a.numbers.now) (iters_of a.numbers.now a.strides.now 1) a.base.now in
    let end : l.combination ≡ length a.row.now = omega arith in
    filling_all (λ r. spot_at (at r)) a.row.now (rw end at l.invariant)
