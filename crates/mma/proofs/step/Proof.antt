-- `mma::step` is a sum of small numbers.
use mathlib.Core.Path.{refl}
use native.Mathlib.Omega.{arith}
use Rattle.mma.proofs.Laws.{times}
use Rattle.mma.proofs.step.Statement.{statement}
use Rattle.mma.proofs.step.Tie as tie

pub step_spec : {M : Type 1} → statement M
step_spec =
    tie.close
    (tie.spec
    (λ c. omega (arith, times c.args.digit c.args.by 64 512 c.requires.0 c.requires.1))
    (λ c. omega (arith, times c.args.digit c.args.by 64 512 c.requires.0 c.requires.1))
    (λ c. (refl, omega (arith, times c.args.digit c.args.by 64 512 c.requires.0 c.requires.1))))
