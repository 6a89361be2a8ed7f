-- `writing::put_lists` is both lists, one after the other.
use native.Mathlib.Omega.{arith}
use borrow.Author.Rules.{rules}
use Rattle.writing_words.proofs.Laws.{wrote_lists}
use Rattle.writing.proofs.put_lists.Statement.{statement}
use Rattle.writing.proofs.put_lists.Tie as tie

returns : tie.Need-returns
returns c =
    let s = c in
    let o = s in
    let p = o in
    let q = p in
    let e = q in
    let f = e in (
      rw (c.put_if-3.ensures.0, s.put_strides.ensures.0, o.put_if-between.ensures.0, p.put.ensures.0, q.put_if-2.ensures.0, e.put_extents-extents.ensures.0, f.put_if.ensures.0) (wrote_lists _ _ _ _ _ _ _ _),
      omega (arith, c.put_if-3.ensures.1, s.put_strides.ensures.1, o.put_if-between.ensures.1, p.put.ensures.1, q.put_if-2.ensures.1, e.put_extents-extents.ensures.1, f.put_if.ensures.1),
    )

pub put_lists_spec : {M : Type 1} → statement M
put_lists_spec =
    tie.close
    (tie.spec (λ c κs. omega (arith, c.requires.0)) (λ c κs. (omega (arith, c.put_if.ensures.1, c.requires.0), c.requires.1))
    (λ c κs. omega (arith, c.put_extents-extents.ensures.1, c.put_if.ensures.1, c.requires.0))
    (λ c κs. omega (arith, c.put_if-2.ensures.1, c.put_extents-extents.ensures.1, c.put_if.ensures.1, c.requires.0))
    (λ c κs. omega (arith, c.put.ensures.1, c.put_if-2.ensures.1, c.put_extents-extents.ensures.1, c.put_if.ensures.1, c.requires.0))
    (λ c κs. (omega (arith, c.put_if-between.ensures.1, c.put.ensures.1, c.put_if-2.ensures.1, c.put_extents-extents.ensures.1, c.put_if.ensures.1, c.requires.0), c.requires.1))
    (λ c κs. omega (arith, c.put_strides.ensures.1, c.put_if-between.ensures.1, c.put.ensures.1, c.put_if-2.ensures.1, c.put_extents-extents.ensures.1, c.put_if.ensures.1, c.requires.0))
    returns)
