-- `idle_search::put_first_key` stores the key of sums to which nothing is added.
use borrow.Author.Rules.{rules}
use Rattle.idle_search.proofs.Laws.{far_natural, keyed_first}
use Rattle.idle_search.proofs.put_first_key.Statement.{statement}
use Rattle.idle_search.proofs.put_first_key.Tie as tie

key_of_requires : tie.Need-key_of-key-requires
key_of_requires c κs = far_natural

returns : tie.Need-returns
returns c = let s = c in λ replica. rw c.key_of-key.ensures (keyed_first replica s.args.keys.now s.requires)

pub put_first_key_spec : {M : Type 1} → statement M
put_first_key_spec = tie.close (tie.spec key_of_requires (λ c. search rules) returns)
