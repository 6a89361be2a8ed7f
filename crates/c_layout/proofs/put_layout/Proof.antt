-- `c_layout::put_layout` writes shard, replica and offset over the caller's numbers, and leaves those that follow.
use native.Mathlib.Omega.{arith}
use borrow.Author.Rules.{rules}
use Rattle.c_layout.proofs.Laws.{all_written}
use Rattle.c_layout.proofs.put_layout.Statement.{statement}
use Rattle.c_layout.proofs.put_layout.Tie as tie

returns : tie.Need-returns
returns c =
    let two = c in
    let one = two in
    let n = one in
    let s = n in
    rw (c.put_offset.ensures, two.put_iters-2.ensures, one.put_iters.ensures)
    (all_written s.args.layout s.args.card.now (omega (arith, n.numbers-1.given)))

pub put_layout_spec : {M : Type 1} → statement M
put_layout_spec = tie.close (tie.spec (λ c κs. search rules) (λ c κs. search rules) (λ c κs. search rules) returns)
