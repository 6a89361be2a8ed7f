-- `mma::length_down` is a product of two small numbers.
use native.Mathlib.Omega.{arith}
use borrow.Author.Rules.{rules}
use Prim.Native.Nat.{◌*◌}
use Rattle.mma.proofs.Laws.{times}
use Rattle.mma.proofs.length_down.Statement.{statement}
use Rattle.mma.proofs.length_down.Tie as tie

pub length_down_spec : {M : Type 1} → statement M
length_down_spec =
    tie.close
    (tie.spec
    (λ c. search rules)
    (λ c. let s = c.requires in omega (arith, times c.args.f.warps (c.args.f.halves * 8) 4 16 s.few_warps (omega (arith, s.few_halves))))
    (λ c. search rules))
