-- `mma::registers` is a product of small numbers.
use mathlib.Core.Path.{refl}
use Prim.Native.Nat.{◌*◌}
use native.Mathlib.Omega.{arith}
use Rattle.mma.proofs.Laws.{times}
use Rattle.mma.proofs.registers.Statement.{statement}
use Rattle.mma.proofs.registers.Tie as tie

pub registers_spec : {M : Type 1} → statement M
registers_spec =
    tie.close
    (tie.spec
    (λ c. let s = c.requires in omega (arith, times c.args.f.halves c.args.f.next 2 8 s.few_halves s.few_next))
    (λ c. let s = c.requires in let a = c.args.f in
    omega (arith, times a.repeats (a.halves * a.next) 32 16 s.few_repeats (times a.halves a.next 2 8 s.few_halves s.few_next)))
    (λ c. let s = c.requires in let a = c.args.f in
    omega (arith, times a.matrices (a.repeats * (a.halves * a.next)) 4 512 s.few_matrices (times a.repeats (a.halves * a.next) 32 16 s.few_repeats (times a.halves a.next 2 8 s.few_halves s.few_next))))
    (λ c. let s = c.requires in let a = c.args.f in
    (refl, times a.matrices (a.repeats * (a.halves * a.next)) 4 512 s.few_matrices (times a.repeats (a.halves * a.next) 32 16 s.few_repeats (times a.halves a.next 2 8 s.few_halves s.few_next)))))
