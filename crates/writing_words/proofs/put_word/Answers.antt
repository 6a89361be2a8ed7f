-- One byte more of the word is the word up to the next place.
use Rattle.std.proofs.Common.{List, ℕ, ap, ◌∙◌, arith}
use Rattle.writing_words.specs.Out.{wrote, words}
use Rattle.writing_words.proofs.Laws.{wrote_none, wrote_more, word_next, word_none}
use Rattle.writing_words.proofs.put_word.Goals as goal

pub loop-k-init : goal.loop-k-init
loop-k-init c =
    let out = c.args.out in
    (wrote_none out ∙ ap (λ (t : List ℕ). wrote out t) (word_none words c.args.from), omega arith)

pub loop-k-preserved : goal.loop-k-preserved
loop-k-preserved c =
    let k = c.loop-k.k in
    let out = c.args.out in (
      rw (c.put-written.ensures.0, c.loop-k.invariant.0)
          (wrote_more out _ _ ∙ ap (λ (t : List ℕ). wrote out t) (word_next words c.args.from k (omega arith) (omega arith))),
      omega arith,
    )
