-- `mask_pattern::piece` are columns of one sub-mask: the pattern from their place on, cut to their number.
use Rattle.std.proofs.Common.{arith, ◌/◌, get_or, refl}
use native.Mathlib.Nat.{div-lt_iff_lt-mul}
use Rattle.mask_pattern.proofs.Runs.{piece_number}
use Rattle.mask_pattern.proofs.piece.Goals as goal

-- column p lies in one of four sub-masks
pub bounds-spans-sub_mask : goal.bounds-spans-sub_mask
bounds-spans-sub_mask c = (div-lt_iff_lt-mul {k = c.args.size} (omega arith)).1 c.requires.0

pub returns : goal.returns
returns c =
    let a = c.args in
    piece_number a.skip a.used a.size a.counts.now a.spans.now a.p a.count c.place-at.result (get_or a.counts.now (a.p / a.size) 0) c.word_from.result c.ones_up_to.result
    (omega arith)
    (omega arith)
    refl
    c.place-at.ensures.1
    c.word_from.ensures
    c.ones_up_to.ensures
