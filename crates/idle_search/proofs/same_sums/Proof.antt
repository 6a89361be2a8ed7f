-- `idle_search::same_sums` compares what the walks of two combinations leave.
use mathlib.Core.Path.{ap, ◌∙◌}
use lib.ListN.{length}
use Rattle.card.specs.Packed.{iters_of}
use Rattle.rules.proofs.Base.{walked_eight}
use Rattle.idle_search.specs.Clauses.{far}
use Rattle.idle_search.proofs.Laws.{far_sums, walks_same}
use Rattle.idle_search.proofs.same_sums.Statement.{statement}
use Rattle.idle_search.proofs.same_sums.Tie as tie

walk_requires : tie.Need-walk-requires
walk_requires c κs = (c.requires, far_sums)

walk_requires_2 : tie.Need-walk-requires-2
walk_requires_2 c κs = (c.requires, far_sums)

are_equal_requires : tie.Need-are_equal-requires
are_equal_requires c κs =
    let v = c in
    let w = v in
    let s = w in
    let iters = iters_of s.args.numbers.now s.args.strides.now 1 in
    (ap length w.walk.ensures ∙ walked_eight iters _ far, ap length v.walk-2.ensures ∙ walked_eight iters _ far)

returns : tie.Need-returns
returns c =
    let v = c in
    let w = v in
    let s = w in
    let iters = iters_of s.args.numbers.now s.args.strides.now 1 in
    walks_same iters s.args.a s.args.b w.walk.ensures v.walk-2.ensures c.are_equal.ensures

pub same_sums_spec : {M : Type 1} → statement M
same_sums_spec = tie.close (tie.spec walk_requires walk_requires_2 are_equal_requires returns)
