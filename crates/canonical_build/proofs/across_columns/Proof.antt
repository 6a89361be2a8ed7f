-- `canonical_build::across_columns` takes the stride that the definition picks.
use mathlib.Core.Path.{refl}
use native.Mathlib.Omega.{arith}
use borrow.Author.Rules.{rules}
use borrow.Author.Tests.{eq-eqb, ne_eqb}
use Rattle.swizzle.proofs.Widths.{bits_positive}
use Rattle.canonical_build.proofs.Laws.{T_few}
use Rattle.canonical_build.proofs.across_columns.Statement.{statement}
use Rattle.canonical_build.proofs.across_columns.Tie as tie

in_elements_requires : tie.Need-in_elements-requires
in_elements_requires c κs =
    let s = c in
    (s.requires.its_bits, s.requires.lbo_below (rw (eq-eqb s.args.a.mode 0 c.if-a-eq0.true) refl))

returns : tie.Need-returns-then-a-eq0
returns c = rw (eq-eqb c.args.a.mode 0 c.if-a-eq0.true) c.in_elements.ensures

returns_2 : tie.Need-returns-then-a-eq0-2
returns_2 c =
    let f = c in
    let s = f in
    rw (ne_eqb s.args.a.mode 0 f.if-a-eq0.false, eq-eqb s.args.a.major 0 c.if-a-eq0-2.true)
    (refl, omega (arith, T_few s.args.a.bits s.requires.its_bits))

returns_3 : tie.Need-returns
returns_3 c =
    let f = c in
    let s = f in
    rw (ne_eqb s.args.a.mode 0 f.if-a-eq0.false, ne_eqb s.args.a.major 0 c.if-a-eq0-2.false) c.in_elements-2.ensures

pub across_columns_spec : {M : Type 1} → statement M
across_columns_spec = tie.close (tie.spec in_elements_requires returns (λ c. let s = c in bits_positive s.args.a.bits s.requires.its_bits) returns_2 (λ c κs. search rules) returns_3)
