-- `mask::sub_bits` are the bits of one sub-mask: the tests are those of the definition.
use mathlib.Core.Path.{sym}
use native.Mathlib.Nat.{div-one}
use borrow.Author.Tests.{eq-eqb, ne_eqb}
use Rattle.mask.proofs.sub_bits.Statement.{statement}
use Rattle.mask.proofs.sub_bits.Tie as tie

returns_2 : tie.Need-returns-then-m-eq64
returns_2 c = rw (ne_eqb c.args.m 128 c.if-m-eq128.false, eq-eqb c.args.m 64 c.if-m-eq64.true)

returns_3 : tie.Need-returns-else-m-eq64
returns_3 c = rw (ne_eqb c.args.m 128 c.if-m-eq128.false, ne_eqb c.args.m 64 c.if-m-eq64.false)

pub sub_bits_spec : {M : Type 1} → statement M
sub_bits_spec =
    tie.close
    (tie.spec (λ c. rw (eq-eqb c.args.m 128 c.if-m-eq128.true) (sym (div-one c.args.n))) returns_2 returns_3)
