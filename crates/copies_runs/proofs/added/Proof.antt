-- `copies_runs::added` walks from zeros and weighs what the walk leaves.
use mathlib.Core.Path.{◌∙◌}
use borrow.Author.Rules.{rules}
use lib.IntN.{pos}
use lib.ListN.{get_or}
use lib.Seq.{slice}
use mir.Syntax.{w64}
use mir.Facts.{to_z-of_z}
use Rattle.card.specs.Packed.{iters_of, card_of}
use Rattle.card.proofs.Admitted.{checked}
use Rattle.rules.specs.Rules.{part}
use Rattle.rules_linear.proofs.Cells.{walked_part}
use Rattle.copies_runs.proofs.Cards.{zero_sums, walkable, copy_sums, adds}
use Rattle.copies_runs.proofs.added.Statement.{statement}
use Rattle.copies_runs.proofs.added.Tie as tie

walk_requires : tie.Need-walk-requires
walk_requires c κs =
    let s = c in
    (walkable s.args.numbers.now s.args.strides.now s.requires.0 s.args.list s.requires.1, zero_sums)

weigh_requires : tie.Need-weigh-level-requires
weigh_requires c κs =
    let s = c in
    let a = s.args in
    let admits = s.requires.0 in (
      admits.whole.all_numbers,
      (checked (card_of a.numbers.now a.strides.now) admits.admitted).space,
      rw c.walk.ensures (copy_sums a.numbers.now a.strides.now a.list (walkable a.numbers.now a.strides.now admits a.list s.requires.1) a.index),
    )

returns : tie.Need-returns
returns c =
    let w = c in
    let k = w in
    let a = k.args in
    let iters = iters_of a.numbers.now a.strides.now a.list in
    adds (slice 32 40 a.numbers.now) (part iters a.index) (k.walk.ensures ∙ walked_part iters a.index)
    (to_z-of_z {w = w64} {z = w.weigh-level.result} (record { sfits = w.weigh-level.type_inv }) ∙ w.weigh-level.ensures)
    (to_z-of_z {w = w64} {z = get_or k.walk.new.sums 7 (pos 0)} (record { sfits = c.result-1.given }))

pub added_spec : {M : Type 1} → statement M
added_spec = tie.close (tie.spec walk_requires weigh_requires (λ c. search rules) returns)
