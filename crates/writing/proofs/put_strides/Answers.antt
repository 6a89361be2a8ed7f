-- The comma and the stride join the text so far.
use Rattle.std.proofs.Common.{◌≡◌, List, ℕ, false, map, take, get_or, length, to_z, of_z, w64, append_assoc, ap, ◌∙◌, rules, arith}
use mir.Facts.{to_z-of_z}
use Rattle.laws.proofs.Lists.{length_of}
use Rattle.card.specs.Card.{none}
use Rattle.notation.specs.Quoted.{quoted_bytes}
use Rattle.notation.specs.Text.{spell_step, joined}
use Rattle.notation.specs.Writing.{step_for, steps_for}
use Rattle.writing_words.specs.Out.{wrote, joint}
use Rattle.writing_words.proofs.Laws.{wrote_none, wrote_more}
use Rattle.writing.proofs.Laws.{strides_next}
use Rattle.writing.proofs.put_strides.Goals as goal

pub loop-k-init : goal.loop-k-init
loop-k-init c = (wrote_none c.args.out, omega arith)

pub loop-k-preserved : goal.loop-k-preserved
loop-k-preserved c =
    let k = c.loop-k.k in
    let out = c.args.out in
    let at = c.args.iters.at in
    let marks = c.args.marks in
    let long : length at ≡ 8 = search (rules, length_of) in
    let back : to_z w64 (of_z w64 (get_or at k none).stride) ≡ (get_or at k none).stride = search (rules, to_z-of_z) in
    let so = joined (quoted_bytes ",") (map spell_step (steps_for (take k marks) (take k at))) in
    let e = spell_step (step_for (get_or at k none).stride (get_or marks k false) (get_or at k none).axis) in (
      rw (c.put_step-written.ensures.0, back, c.put_joint.ensures.0, c.loop-k.invariant.0)
          (ap (λ o. wrote o e) (wrote_more out so (joint k)) ∙ wrote_more out _ e ∙ ap (λ (t : List ℕ). wrote out t) (append_assoc so (joint k) e ∙ strides_next marks at k none (search rules) (omega arith))),
      omega arith,
    )
