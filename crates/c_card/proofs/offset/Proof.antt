-- `c_card::offset` reads eight signed numbers.
use mathlib.Core.Path.{◌∙◌}
use borrow.Author.Rules.{rules}
use mir.Syntax.{w64}
use mir.Facts.{to_z-of_z}
use Rattle.c_card.proofs.offset.Statement.{statement}
use Rattle.c_card.proofs.offset.Tie as tie

returns : tie.Need-returns
returns c =
    rw (
      to_z-of_z {w = w64} {z = c.signed.result} (record { sfits = c.signed.type_inv }) ∙ c.signed.ensures,
      to_z-of_z {w = w64} {z = c.signed-2.result} (record { sfits = c.signed-2.type_inv }) ∙ c.signed-2.ensures,
      to_z-of_z {w = w64} {z = c.signed-3.result} (record { sfits = c.signed-3.type_inv }) ∙ c.signed-3.ensures,
      to_z-of_z {w = w64} {z = c.signed-4.result} (record { sfits = c.signed-4.type_inv }) ∙ c.signed-4.ensures,
      to_z-of_z {w = w64} {z = c.signed-5.result} (record { sfits = c.signed-5.type_inv }) ∙ c.signed-5.ensures,
      to_z-of_z {w = w64} {z = c.signed-6.result} (record { sfits = c.signed-6.type_inv }) ∙ c.signed-6.ensures,
      to_z-of_z {w = w64} {z = c.signed-7.result} (record { sfits = c.signed-7.type_inv }) ∙ c.signed-7.ensures,
      to_z-of_z {w = w64} {z = c.signed-8.result} (record { sfits = c.signed-8.type_inv }) ∙ c.signed-8.ensures,
    )

pub offset_spec : {M : Type 1} → statement M
offset_spec = tie.close (tie.spec (λ c. search rules) (λ c κs. search rules) (λ c. search rules) (λ c. search rules) (λ c. search rules) (λ c κs. search rules) (λ c. search rules) (λ c. search rules) (λ c. search rules) (λ c κs. search rules) (λ c. search rules) (λ c. search rules) (λ c. search rules) (λ c κs. search rules) (λ c. search rules) (λ c. search rules) (λ c. search rules) (λ c κs. search rules) (λ c. search rules) (λ c. search rules) (λ c. search rules) (λ c κs. search rules) (λ c. search rules) (λ c. search rules) (λ c. search rules) (λ c κs. search rules) (λ c. search rules) (λ c. search rules) (λ c. search rules) (λ c κs. search rules) returns)
