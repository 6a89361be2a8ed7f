-- `canonical_build::k_shard` has four iters.
use native.Mathlib.Omega.{arith}
use borrow.Author.Rules.{rules}
use Rattle.canonical_build.proofs.k_shard.Statement.{statement}
use Rattle.canonical_build.proofs.k_shard.Tie as tie

pub k_shard_spec : {M : Type 1} → statement M
k_shard_spec = tie.close (tie.spec (λ c κs. search rules) (λ c κs. c.requires.short_wide) (λ c. search rules) (λ c κs. c.requires.short_columns) (λ c κs. search rules) (λ c κs. search rules) (λ c κs. search rules) (λ c κs. search rules) (λ c κs. search rules) (λ c. rw (c.iter.ensures, c.iter-2.ensures, c.iter-3.ensures, c.iter-4.ensures, c.empty.ensures, c.empty-2.ensures, c.empty-3.ensures, c.empty-4.ensures)))
