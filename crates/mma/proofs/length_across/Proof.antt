-- `mma::length_across` is a product of two small numbers.
use native.Mathlib.Omega.{arith}
use borrow.Author.Rules.{rules}
use Prim.Native.Nat.{◌*◌}
use Rattle.mma.proofs.Laws.{times}
use Rattle.mma.proofs.length_across.Statement.{statement}
use Rattle.mma.proofs.length_across.Tie as tie

pub length_across_spec : {M : Type 1} → statement M
length_across_spec =
    tie.close
    (tie.spec
    (λ c. search rules)
    (λ c. let s = c.requires in omega (arith, times c.args.f.repeats (4 * c.args.f.next) 32 32 s.few_repeats (omega (arith, s.few_next))))
    (λ c. search rules))
