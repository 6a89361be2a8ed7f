-- `writing::put_replica` is nothing, or `+R[`, the lists and `]`; a single iter is bare.
use Prim.Native.Nat.{ℕ, ◌≤◌}
use mathlib.Core.Path.{◌≡◌, ap, ◌∙◌}
use mathlib.Core.List.{List, map}
use lib.Dec.{ltb}
use lib.ListN.{length, take, length-map}
use lib.Seq.{length-take-le}
use Rattle.card.specs.Card.{listed, extent_of}
use Rattle.notation.specs.Writing.{no_marks}
use native.Mathlib.Omega.{arith}
use borrow.Author.Rules.{rules}
use Rattle.notation.proofs.Lists.{several}
use Rattle.writing_words.proofs.Laws.{wrote_none, wrote_3}
use Rattle.writing.proofs.Laws.{some_there, steps_cut}
use Rattle.writing.proofs.put_replica.Statement.{statement}
use Rattle.writing.proofs.put_replica.Tie as tie

pub put_replica_spec : {M : Type 1} → statement M
put_replica_spec =
    tie.close
    (tie.spec (λ c. (let none : c.args.replica.count ≡ 0 = omega arith in rw none (wrote_none c.args.out), omega arith)) (λ c κs. (omega (arith, c.requires.0), omega arith)) (λ c κs. let s = c in (omega (arith, c.put_word-opened.ensures.1, s.requires.0), s.requires.1))
    (λ c κs. omega (arith, c.put_lists.ensures.1, c.put_word-opened.ensures.1, c.requires.0)) (λ c.
    let l = c in
    let o = l in
    let i = o in
    let s = i in
    let r = s.args.replica in
    let long : length (map extent_of (listed r)) ≡ r.count = length-map (listed r) extent_of ∙ length-take-le r.count r.at (omega (arith, s.requires.1, s.requires.2)) in
    let some = some_there (map extent_of (listed r)) (omega (arith, long)) in (
      rw (c.put.ensures.0, l.put_lists.ensures.0, o.put_word-opened.ensures.0, some.0, some.1, long, steps_cut r.count no_marks r.at) (wrote_3 _ _ _ _),
      omega (arith, c.put.ensures.1, l.put_lists.ensures.1, o.put_word-opened.ensures.1),
    )))
