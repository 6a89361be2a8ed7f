-- `c_card::iter` reads three numbers, the second as a signed one.
use borrow.Author.Rules.{rules}
use mir.Syntax.{w64}
use mir.Facts.{to_z-of_z}
use Rattle.c_card.proofs.iter.Statement.{statement}
use Rattle.c_card.proofs.iter.Tie as tie

returns : tie.Need-returns
returns c = let s = c in rw (to_z-of_z {w = w64} {z = s.signed.result} (record { sfits = s.signed.type_inv }), s.signed.ensures)

pub iter_spec : {M : Type 1} → statement M
iter_spec = tie.close (tie.spec (λ c. search rules) (λ c. search rules) (λ c. search rules) (λ c. search rules) (λ c. search rules) (λ c κs. search rules) (λ c. search rules) (λ c. search rules) (λ c. search rules) returns)
