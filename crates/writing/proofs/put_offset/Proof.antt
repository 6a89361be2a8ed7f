-- `writing::put_offset` is nothing for 0, else a plus and the offset on its axis.
use borrow.Author.Tests.{eq-eqb, ne_eqb}
use mir.Facts.{to_z-of_z}
use native.Mathlib.Omega.{arith}
use borrow.Author.Rules.{rules}
use Rattle.writing_words.proofs.Laws.{wrote_none, wrote_plus}
use Rattle.writing.proofs.put_offset.Statement.{statement}
use Rattle.writing.proofs.put_offset.Tie as tie

pub put_offset_spec : {M : Type 1} → statement M
put_offset_spec =
    tie.close (tie.spec (λ c κs. search rules) (λ c.
    let s = c in
    (rw (rw (c.magnitude.ensures, to_z-of_z s.ranges.z) at (eq-eqb c.magnitude.result 0 (omega arith))) (wrote_none s.args.out), omega arith)) (λ c κs. omega (arith, c.requires)) (λ c κs. omega (arith, c.put.ensures.1, c.requires)) (λ c.
    let p = c in
    let i = p in
    let m = i in
    let s = m in
    (rw (c.put_step.ensures.0, p.put.ensures.0, to_z-of_z s.ranges.z, rw (m.magnitude.ensures, to_z-of_z s.ranges.z) at (ne_eqb m.magnitude.result 0 (λ e. omega arith))) (wrote_plus _ _), omega (arith, c.put_step.ensures.1, p.put.ensures.1))))
