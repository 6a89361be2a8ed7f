-- `canonical_build::in_elements` divides by bits that are known.
use mathlib.Core.Path.{refl}
use borrow.Author.Rules.{rules}
use Rattle.swizzle.proofs.Widths.{bits_positive}
use Rattle.canonical_build.proofs.Laws.{elements_short}
use Rattle.canonical_build.proofs.in_elements.Statement.{statement}
use Rattle.canonical_build.proofs.in_elements.Tie as tie

pub in_elements_spec : {M : Type 1} → statement M
in_elements_spec = tie.close (tie.spec (λ c. search rules) (λ c. bits_positive c.args.bits c.requires.0) (λ c. (refl, elements_short c.args.bits c.args.bytes c.requires.0 c.requires.1)))
