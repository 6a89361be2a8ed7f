-- `reading_letters::longer` does not wrap: the number has at most four digits.
use native.Mathlib.Omega.{arith}
use borrow.Author.Rules.{rules}
use borrow.Author.Tests.{ltb-true}
use mathlib.Core.Bool.{◌&&◌}
use mathlib.Core.Bool.{and-eq-true_iff}
use lib.Dec.{leb, ltb}
use Rattle.reading_letters.proofs.longer.Statement.{statement}
use Rattle.reading_letters.proofs.longer.Tie as tie

mul_result : tie.Need-overflow_mul-result
mul_result c =
    let v = c.args.value in
    let d = c.args.d in
    let both = (and-eq-true_iff (ltb d 10) (leb 1 v && ltb v 10000)).0 c.requires in
    omega (arith, ltb-true v 10000 ((and-eq-true_iff (leb 1 v) (ltb v 10000)).0 both.1).1, ltb-true d 10 both.0)

add_result : tie.Need-overflow_add-result
add_result c =
    let v = c.args.value in
    let d = c.args.d in
    let both = (and-eq-true_iff (ltb d 10) (leb 1 v && ltb v 10000)).0 c.requires in
    omega (arith, ltb-true v 10000 ((and-eq-true_iff (leb 1 v) (ltb v 10000)).0 both.1).1, ltb-true d 10 both.0)

returns : tie.Need-returns
returns c = search rules

pub longer_spec : {M : Type 1} → statement M
longer_spec = tie.close (tie.spec mul_result add_result returns)
