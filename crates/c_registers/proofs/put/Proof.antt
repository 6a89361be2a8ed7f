-- `c_registers::put` writes what the register leaves of each of the three entries: in each arm an entry that is not stored is as it was.
use mathlib.Core.Path.{refl, sym}
use borrow.Author.Rules.{rules}
use lib.Seq.{set-get_or}
use Rattle.c_registers.proofs.put.Statement.{statement}
use Rattle.c_registers.proofs.put.Tie as tie

returns : tie.Need-returns-in-Empty
returns c =
    let a = c.args in
    rw c.in-Empty.is (
      sym (set-get_or a.sorts.now a.j 0),
      (sym (set-get_or a.singles.now a.j 0), sym (set-get_or a.doubles.now a.j 0)),
    )

returns_2 : tie.Need-returns-in-Single
returns_2 c =
    let a = c.args in
    rw c.in-Single.is (refl, (refl, sym (set-get_or a.doubles.now a.j 0)))

returns_3 : tie.Need-returns-in-Double
returns_3 c =
    let a = c.args in
    rw c.in-Double.is (refl, (sym (set-get_or a.singles.now a.j 0), refl))

pub put_spec : {M : Type 1} → statement M
put_spec =
    tie.close
    (tie.spec (λ c. search rules) (λ c. search rules) (λ c. search rules) (λ c. search rules) (λ c. search rules) (λ c. search rules) (λ c. search rules)
    (λ c. search rules) (λ c. search rules) returns (λ c. search rules) (λ c. search rules) returns_2 (λ c. search rules) (λ c. search rules) returns_3)
