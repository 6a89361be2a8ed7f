-- `swizzle::kept_bits` is the M of known bits: of 128 / bits at most 63 of the 64 bits are leading zeros.
use native.Mathlib.Omega.{arith}
use Rattle.swizzle.specs.Mode.{bit_length}
use Rattle.swizzle.proofs.Widths.{bits_positive, zeros_known}
use Rattle.swizzle.proofs.kept_bits.Statement.{statement}
use Rattle.swizzle.proofs.kept_bits.Tie as tie

pub kept_bits_spec : {M : Type 1} → statement M
unfolding bit_length
kept_bits_spec =
    tie.close
    (tie.spec (λ c. bits_positive c.args.bits c.requires) (λ c. omega (arith, (zeros_known c.args.bits c.requires).most))
    (λ c. (zeros_known c.args.bits c.requires).most) (λ c. omega arith))
