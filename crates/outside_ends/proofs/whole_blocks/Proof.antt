-- `outside_ends::whole_blocks` shifts the length down and up again: what is left are its whole blocks, which are no more than it.
use mathlib.Core.Path.{◌≡◌}
use Prim.Native.Nat.{◌%◌, ◌^◌}
use native.Mathlib.Nat.{mod-eq_of_lt}
use native.Mathlib.Omega.{arith}
use borrow.Author.Rules.{rules}
use Rattle.outside_ends.specs.Clauses.{blocks_of}
use Rattle.outside_ends.proofs.Packed.{few_blocks}
use Rattle.outside_ends.proofs.whole_blocks.Statement.{statement}
use Rattle.outside_ends.proofs.whole_blocks.Tie as tie

same : (s : tie.Start) → blocks_of s.args.numbers.now % 2 ^ 64 ≡ blocks_of s.args.numbers.now
same s = mod-eq_of_lt (omega (arith, few_blocks s.requires))

pub whole_blocks_spec : {M : Type 1} → statement M
whole_blocks_spec =
    tie.close
    (tie.spec (λ c. search rules) (λ c. search rules) (λ c. omega (arith, c.requires.few_bits)) (λ c. search rules) (λ c. search rules) (λ c. search rules)
    (λ c. omega (arith, c.requires.few_bits)) (λ c. omega (arith, c.requires.few_bits)) (λ c. same c.before.before.before.before))
