-- `swizzle::is_known` is known bits and a known mode: the bits are judged by their own function.
use borrow.Author.Rules.{rules}
use Rattle.swizzle.proofs.is_known.Statement.{statement}
use Rattle.swizzle.proofs.is_known.Tie as tie

pub is_known_spec : {M : Type 1} → statement M
is_known_spec = tie.close (tie.spec (λ c κs. search rules) (λ c. rw c.is_known_bits.ensures))
