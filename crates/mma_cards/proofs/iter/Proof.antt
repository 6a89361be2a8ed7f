-- `mma_cards::iter` has the stride as a signed number.
use native.Mathlib.Omega.{arith}
use borrow.Author.Rules.{rules}
use mir.Syntax.{w64}
use mir.Facts.{to_z_pos}
use Rattle.mma_cards.proofs.iter.Statement.{statement}
use Rattle.mma_cards.proofs.iter.Tie as tie

pub iter_spec : {M : Type 1} → statement M
iter_spec = tie.close (tie.spec (λ c. search rules) (λ c. rw (to_z_pos w64 {n = c.args.stride} (omega (arith, c.requires)))))
