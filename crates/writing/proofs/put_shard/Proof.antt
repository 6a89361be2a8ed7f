-- `writing::put_shard` is `S[`, the lists and `]`.
use native.Mathlib.Omega.{arith}
use borrow.Author.Rules.{rules}
use Rattle.writing_words.proofs.Laws.{wrote_3}
use Rattle.writing.proofs.put_shard.Statement.{statement}
use Rattle.writing.proofs.put_shard.Tie as tie

returns : tie.Need-returns
returns c =
    let l = c in
    let o = l in
    (rw (c.put.ensures.0, l.put_lists.ensures.0, o.put_word-opened.ensures.0) (wrote_3 _ _ _ _), omega (arith, c.put.ensures.1, l.put_lists.ensures.1, o.put_word-opened.ensures.1))

pub put_shard_spec : {M : Type 1} → statement M
put_shard_spec =
    tie.close
    (tie.spec (λ c κs. (omega (arith, c.requires.0), omega arith)) (λ c κs. (omega (arith, c.put_word-opened.ensures.1, c.requires.0), c.requires.1))
    (λ c κs. omega (arith, c.put_lists.ensures.1, c.put_word-opened.ensures.1, c.requires.0)) returns)
