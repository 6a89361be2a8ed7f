-- `canonical_build::mn_shard` has five iters.
use native.Mathlib.Omega.{arith}
use borrow.Author.Rules.{rules}
use Rattle.canonical_build.proofs.mn_shard.Statement.{statement}
use Rattle.canonical_build.proofs.mn_shard.Tie as tie

pub mn_shard_spec : {M : Type 1} → statement M
mn_shard_spec = tie.close (tie.spec (λ c κs. search rules) (λ c κs. search rules) (λ c κs. search rules) (λ c κs. search rules) (λ c κs. search rules) (λ c κs. search rules) (λ c κs. search rules) (λ c κs. search rules) (λ c. rw (c.iter.ensures, c.iter-2.ensures, c.iter-3.ensures, c.iter-4.ensures, c.iter-5.ensures, c.empty.ensures, c.empty-2.ensures, c.empty-3.ensures)))
