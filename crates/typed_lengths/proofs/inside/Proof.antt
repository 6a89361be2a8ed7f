-- `typed_lengths::inside` is the definition: a digit, a space after one of the first seven numbers, or nowhere.
use Prim.Native.Nat.{◌<◌}
use mathlib.Core.Path.{sym, ◌∙◌}
use native.Mathlib.Omega.{arith}
use borrow.Author.Rules.{rules}
use borrow.Author.Tests.{ltb-true}
use lib.Dec.{ltb, eqb}
use Rattle.notation.proofs.Lists.{both}
use Rattle.typed_lengths.proofs.inside.Statement.{statement}
use Rattle.typed_lengths.proofs.inside.Tie as tie
use Rattle.typed_lengths.proofs.inside.Lts as lts

longer_requires : tie.Need-longer-requires
longer_requires c κs = sym c.goes_on.ensures ∙ c.if-goes_on.true

returns : tie.Need-returns-then-goes_on
returns c =
    let d = c in
    rw (c.to.ensures, c.longer.ensures, d.digit-d.ensures, rw d.digit-d.ensures at (sym c.goes_on.ensures ∙ c.if-goes_on.true))

few : (c : tie.Then-b-count) → c.args.r.count < 7
few c = let s = c in ltb-true _ 7 (both (eqb s.args.b 32) (ltb s.args.r.count 7) c.if-b-count.true).1

mul_lengths : tie.Need-offset_bounds-lengths-count
mul_lengths c = omega (arith, few c)

array_write_lengths : tie.Need-bounds-lengths-count
array_write_lengths c = omega (arith, few c)

add_to : tie.Need-overflow_add-count
add_to c = omega (arith, few c)

returns_2 : tie.Need-returns-then-b-count
returns_2 c =
    let d = c in
    rw (c.to-then-b-count.ensures, c.if-b-count.true, rw d.digit-d.ensures at (sym c.goes_on.ensures ∙ c.if-goes_on.false))

returns_3 : tie.Need-returns
returns_3 c =
    let d = c in
    rw (c.empty.ensures, c.if-b-count.false, rw d.digit-d.ensures at (sym c.goes_on.ensures ∙ c.if-goes_on.false))

pub inside_spec : {M : Type 1} → statement M
inside_spec =
    tie.close
    (tie.spec (λ c κs. search rules) (λ c κs. search rules) longer_requires (λ c κs. search rules) returns mul_lengths array_write_lengths add_to
    (λ c κs. search rules) returns_2 (λ c κs. search rules) returns_3)
