-- `mma::wide` is a product of two small numbers.
use mathlib.Core.Path.{refl}
use Prim.Native.Nat.{◌*◌}
use native.Mathlib.Omega.{arith}
use Rattle.mma.proofs.Laws.{times, some_times}
use Rattle.mma.proofs.wide.Statement.{statement}
use Rattle.mma.proofs.wide.Tie as tie

pub wide_spec : {M : Type 1} → statement M
wide_spec =
    tie.close
    (tie.spec
    (λ c. let s = c.requires in omega (arith, times c.args.f.halves c.args.f.next 2 8 s.few_halves s.few_next))
    (λ c. let s = c.requires in let a = c.args.f in
    omega (arith, times a.repeats (a.halves * a.next) 32 16 s.few_repeats (times a.halves a.next 2 8 s.few_halves s.few_next)))
    (λ c. let s = c.requires in let a = c.args.f in (
      refl,
      some_times a.repeats (a.halves * a.next) s.some_repeats (some_times a.halves a.next s.some_halves s.some_next),
      times a.repeats (a.halves * a.next) 32 16 s.few_repeats (times a.halves a.next 2 8 s.few_halves s.few_next),
    )))
