-- `writing_words::put_signed` is a minus where the number is below zero, and the number.
use mir.Facts.{to_z-of_z}
use native.Mathlib.Omega.{arith}
use borrow.Author.Rules.{rules}
use Rattle.writing_words.proofs.Laws.{wrote_more, sign_below, sign_natural}
use Rattle.writing_words.proofs.put_signed.Statement.{statement}
use Rattle.writing_words.proofs.put_signed.Tie as tie

returns : tie.Need-returns-then-z-lt0
returns c =
    let p = c in
    let i = p in
    let s = i in
    (rw (c.put_decimal.ensures.0, p.put.ensures.0, i.magnitude-size.ensures, to_z-of_z s.ranges.z, sign_below s.args.z (rw (to_z-of_z s.ranges.z) at i.if-z-lt0.true)) (wrote_more _ _ _), omega (arith, c.put_decimal.ensures.1, p.put.ensures.1))

returns_2 : tie.Need-returns
returns_2 c =
    let i = c in
    let s = i in
    (rw (c.put_decimal-2.ensures.0, i.magnitude-size.ensures, to_z-of_z s.ranges.z, sign_natural s.args.z (rw (to_z-of_z s.ranges.z) at i.if-z-lt0.false)), omega (arith, c.put_decimal-2.ensures.1))

pub put_signed_spec : {M : Type 1} → statement M
put_signed_spec = tie.close (tie.spec (λ c κs. search rules) (λ c κs. omega arith) (λ c κs. omega (arith, c.put.ensures.1)) returns (λ c κs. omega arith) returns_2)
