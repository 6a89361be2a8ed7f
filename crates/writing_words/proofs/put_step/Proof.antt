-- `writing_words::put_step` is the number with its sign, `@`, the name, and a star where it is marked.
use mir.Facts.{to_z-of_z}
use native.Mathlib.Omega.{arith}
use borrow.Author.Rules.{rules}
use Rattle.writing_words.proofs.Laws.{wrote_3, wrote_4}
use Rattle.writing_words.proofs.put_step.Statement.{statement}
use Rattle.writing_words.proofs.put_step.Tie as tie

returns : tie.Need-returns-then-mark
returns c =
    let n = c in
    let p = n in
    let s = p in (
      rw (c.put-then-mark.ensures.0, n.put_name-named.ensures.0, p.put.ensures.0, s.put_signed.ensures.0, to_z-of_z s.ranges.z, c.if-mark.true) (wrote_4 _ _ _ _ _),
      omega (arith, c.put-then-mark.ensures.1, n.put_name-named.ensures.1, p.put.ensures.1, s.put_signed.ensures.1),
    )

returns_2 : tie.Need-returns
returns_2 c =
    let n = c in
    let p = n in
    let s = p in (
      rw (n.put_name-named.ensures.0, p.put.ensures.0, s.put_signed.ensures.0, to_z-of_z s.ranges.z, c.if-mark.false) (wrote_3 _ _ _ _),
      omega (arith, n.put_name-named.ensures.1, p.put.ensures.1, s.put_signed.ensures.1),
    )

pub put_step_spec : {M : Type 1} → statement M
put_step_spec =
    tie.close
    (tie.spec (λ c κs. omega arith) (λ c κs. omega (arith, c.put_signed.ensures.1)) (λ c κs. omega (arith, c.put.ensures.1, c.put_signed.ensures.1))
    (λ c κs. omega (arith, c.put_name-named.ensures.1, c.put.ensures.1, c.put_signed.ensures.1)) returns returns_2)
