-- `mma::digit` is below its size.
use mathlib.Core.Path.{refl}
use native.Mathlib.Omega.{arith}
use borrow.Author.Rules.{rules}
use native.Mathlib.Nat.{mod-lt}
use Prim.Native.Nat.{◌/◌}
use Rattle.mma.proofs.digit.Statement.{statement}
use Rattle.mma.proofs.digit.Tie as tie

pub digit_spec : {M : Type 1} → statement M
digit_spec =
    tie.close
    (tie.spec
    (λ c. search rules)
    (λ c. search rules)
    (λ c. (refl, omega (arith, mod-lt (c.args.n / c.args.by) c.requires.1))))
