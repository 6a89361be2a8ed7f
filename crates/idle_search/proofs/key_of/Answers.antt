-- `idle_search::key_of` mixes the sums from the first on: after eight there is none left.
use Rattle.std.proofs.Common.{arith, sym, ◌≡◌, ◌∙◌}
use Rattle.idle_search.specs.Clauses.{key_of}
use Rattle.idle_search.proofs.Laws.{key_all}
use Rattle.idle_search.proofs.key_of.Goals as goal

pub returns : goal.returns
unfolding key_of
returns c =
    let l = c.loop-sum in
    let end : l.sum-index ≡ 8 = omega arith in
    sym (key_all c.args.sums.now c.requires.eight l.key) ∙ rw end at l.invariant
