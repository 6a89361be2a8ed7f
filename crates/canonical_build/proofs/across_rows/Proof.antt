-- `canonical_build::across_rows` takes the byte stride that the definition picks.
use mathlib.Core.Path.{◌≡◌}
use borrow.Author.Rules.{rules}
use lib.Dec.{eqb}
use Rattle.canonical_build.proofs.Laws.{used_there}
use Rattle.canonical_build.proofs.across_rows.Statement.{statement}
use Rattle.canonical_build.proofs.across_rows.Tie as tie

in_elements_requires_2 : tie.Need-in_elements-requires-else-a
in_elements_requires_2 c κs =
    let s = c in
    let a = s.args.a in
    (s.requires.its_bits, s.requires.lbo_below (used_there (eqb a.mode 0) (eqb a.major 0) c.if-a.false))

returns : tie.Need-returns-then-a
returns c = rw c.if-a.true c.in_elements.ensures

returns_2 : tie.Need-returns-else-a
returns_2 c = rw c.if-a.false c.in_elements-else-a.ensures

pub across_rows_spec : {M : Type 1} → statement M
across_rows_spec = tie.close (tie.spec (λ c κs. search rules) in_elements_requires_2 returns returns_2)
