-- `idle_search::put_key` stores the key of what the walk of b leaves.
use borrow.Author.Rules.{rules}
use mathlib.Core.Path.{ap, ◌∙◌, sym, subst}
use Rattle.card.specs.Packed.{iters_of}
use Rattle.idle_search.specs.Clauses.{Natural, key_of}
use Rattle.idle_search.proofs.Laws.{far_sums, naturals, keyed_more}
use Rattle.idle_search.proofs.put_key.Statement.{statement}
use Rattle.idle_search.proofs.put_key.Tie as tie

walk_requires : tie.Need-walk-requires
walk_requires c κs = (c.requires.0, far_sums)

key_of_requires : tie.Need-key_of-key-requires
key_of_requires c κs =
    let w = c in
    let s = w in
    subst Natural (sym w.walk.ensures) (naturals s.args.numbers.now s.args.strides.now s.requires.0 _)

returns : tie.Need-returns
returns c =
    let w = c in
    let s = w in
    rw (c.key_of-key.ensures ∙ ap key_of w.walk.ensures)
    (keyed_more (iters_of s.args.numbers.now s.args.strides.now 1) s.args.b s.args.keys.now s.requires.2 s.requires.1)

pub put_key_spec : {M : Type 1} → statement M
put_key_spec = tie.close (tie.spec walk_requires key_of_requires (λ c. search rules) (λ c. search rules) returns)
