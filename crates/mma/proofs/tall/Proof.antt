-- `mma::tall` is a product of two small numbers.
use mathlib.Core.Path.{refl}
use native.Mathlib.Omega.{arith}
use Rattle.mma.proofs.Laws.{times, some_times}
use Rattle.mma.proofs.tall.Statement.{statement}
use Rattle.mma.proofs.tall.Tie as tie

pub tall_spec : {M : Type 1} → statement M
tall_spec =
    tie.close
    (tie.spec
    (λ c. let s = c.requires in omega (arith, times c.args.f.halves c.args.f.next 2 8 s.few_halves s.few_next))
    (λ c. let s = c.requires in (
      refl,
      some_times c.args.f.halves c.args.f.next s.some_halves s.some_next,
      times c.args.f.halves c.args.f.next 2 8 s.few_halves s.few_next,
    )))
