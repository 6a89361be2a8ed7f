-- `copies_runs::put_copies` writes what one combination after the other adds.
use Rattle.std.proofs.Common.{arith, refl, ◌≡◌, ◌∙◌, length}
use mir.Syntax.{w64}
use mir.Facts.{to_z-of_z}
use Rattle.card.specs.Packed.{card_of}
use Rattle.copies_runs.proofs.Cells.{copies_none, copies_more}
use Rattle.copies_runs.proofs.put_copies.Goals as goal

pub loop-combination-init : goal.loop-combination-init
loop-combination-init c =
    let a = c.args in copies_none (card_of a.numbers.now a.strides.now) (length a.levels.now) a.levels.now a.ms.now refl c.requires.1

pub loop-combination-preserved : goal.loop-combination-preserved
loop-combination-preserved c =
    let a = c.args in
    let l = c.loop-combination in
    copies_more (card_of a.numbers.now a.strides.now) (length a.levels.now) l.levels l.ms l.combination _ _ (omega arith) l.invariant
    (to_z-of_z {w = w64} {z = c.added-copy.result.level} (record { sfits = c.struct_told-1.given.0.1 }) ∙ c.added-copy.ensures.level_is)
    (to_z-of_z {w = w64} {z = c.added-copy.result.m} (record { sfits = c.struct_told-1.given.1.0.1 }) ∙ c.added-copy.ensures.m_is)

pub returns : goal.returns
returns c =
    let l = c.loop-combination in
    let end : l.combination ≡ length c.args.levels.now = omega arith in
    rw end at l.invariant
