-- `c_holdings::put_double` writes what the register leaves of the number: where it has no double the number is as it was.
use mathlib.Core.Path.{refl, sym}
use borrow.Author.Rules.{rules}
use lib.Seq.{set-get_or}
use Rattle.c_holdings.proofs.put_double.Statement.{statement}
use Rattle.c_holdings.proofs.put_double.Tie as tie

pub put_double_spec : {M : Type 1} → statement M
put_double_spec =
    tie.close
    (tie.spec (λ c. search rules) (λ c. search rules) (λ c. search rules) (λ c. search rules) (λ c. search rules)
    (λ c. let a = c.args in rw c.in-Empty.is (sym (set-get_or a.numbers.now a.j 0)))
    (λ c. let a = c.args in rw c.in-Single.is (sym (set-get_or a.numbers.now a.j 0)))
    (λ c. search rules) (λ c. rw c.in-Double.is refl))
