-- `mask_pattern::first_used` goes on only where no clear column was found yet: the branch is the one that its promise names.
use native.Mathlib.Omega.{arith}
use Prim.Native.Nat.{ℕ, ◌+◌, ◌≤◌}
use mir.Syntax.{w64}
use mir.Val.{Fits}
use lib.Count.{count_trailing_zeros, trailing_le}
use borrow.Author.Tests.{eq-eqb, ne_eqb}
use Rattle.mask_pattern.proofs.first_used.Statement.{statement}
use Rattle.mask_pattern.proofs.first_used.Tie as tie

-- trailing zeros of any word are few
zeros_fit : (word : ℕ) → Fits w64 (count_trailing_zeros 64 word)
zeros_fit word = omega (arith, trailing_le 64 word)

sum_fits : (p word : ℕ) → p ≤ 256 → Fits w64 (p + count_trailing_zeros 64 word)
sum_fits p word h = omega (arith, trailing_le 64 word)

pub first_used_spec : {M : Type 1} → statement M
first_used_spec =
    tie.close
    (tie.spec (λ c. zeros_fit _) (λ c. sum_fits _ _ c.requires)
    (λ c. rw (eq-eqb c.args.before c.args.p c.if-before-p.true))
    (λ c. rw (ne_eqb c.args.before c.args.p c.if-before-p.false)))
