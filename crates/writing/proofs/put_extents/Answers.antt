-- The comma and the extent join the text so far.
use Rattle.std.proofs.Common.{◌≡◌, List, ℕ, map, take, get_or, length, append_assoc, ap, ◌∙◌, rules, arith}
use Rattle.laws.proofs.Lists.{length_of}
use Rattle.card.specs.Card.{extent_of, none}
use Rattle.notation.specs.Quoted.{quoted_bytes}
use Rattle.notation.specs.Text.{decimal, joined}
use Rattle.writing_words.specs.Out.{wrote, joint}
use Rattle.writing_words.proofs.Laws.{wrote_none, wrote_more}
use Rattle.writing.proofs.Laws.{extents_next}
use Rattle.writing.proofs.put_extents.Goals as goal

pub loop-k-init : goal.loop-k-init
loop-k-init c = (wrote_none c.args.out, omega arith)

pub loop-k-preserved : goal.loop-k-preserved
loop-k-preserved c =
    let k = c.loop-k.k in
    let out = c.args.out in
    let at = c.args.iters.at in
    let long : length at ≡ 8 = search (rules, length_of) in
    let so = joined (quoted_bytes ",") (map decimal (map extent_of (take k at))) in
    let e = decimal (get_or at k none).extent in (
      rw (c.put_decimal-written.ensures.0, c.put_joint.ensures.0, c.loop-k.invariant.0)
          (ap (λ o. wrote o e) (wrote_more out so (joint k)) ∙ wrote_more out _ e ∙ ap (λ (t : List ℕ). wrote out t) (append_assoc so (joint k) e ∙ extents_next decimal extent_of at k none (omega arith))),
      omega arith,
    )
