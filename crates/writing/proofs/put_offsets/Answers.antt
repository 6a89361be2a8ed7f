-- The offset of the axis joins the text so far.
use Rattle.std.proofs.Common.{◌≡◌, List, ℕ, get_or, pos, to_z, of_z, w64, ap, ◌∙◌, rules, arith}
use mir.Facts.{to_z-of_z}
use Rattle.writing_words.specs.Out.{wrote}
use Rattle.writing_words.proofs.Laws.{wrote_none, wrote_more}
use Rattle.writing.proofs.Laws.{offsets_next}
use Rattle.writing.proofs.put_offsets.Goals as goal

pub loop-axis-init : goal.loop-axis-init
loop-axis-init c = (wrote_none c.args.out, omega arith)

pub loop-axis-preserved : goal.loop-axis-preserved
loop-axis-preserved c =
    let k = c.loop-axis.axis in
    let out = c.args.out in
    let zs = c.args.offset in
    let back : to_z w64 (of_z w64 (get_or zs k (pos 0))) ≡ get_or zs k (pos 0) = search (rules, to_z-of_z) in (
      rw (c.put_offset-written.ensures.0, back, c.loop-axis.invariant.0) (wrote_more out _ _ ∙ ap (λ (t : List ℕ). wrote out t) (offsets_next zs k (omega arith))),
      omega arith,
    )
