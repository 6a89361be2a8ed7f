-- `mask_pattern::ones_up_to` is a run of ones, one less than a power of two: in each branch the smaller of length and 64 is known.
use native.Mathlib.Omega.{arith}
use borrow.Author.Rules.{rules}
use mathlib.Core.Path.{◌≡◌}
use Prim.Native.Nat.{◌-◌, min}
use lib.Pow.{suc_ones}
use Rattle.laws.proofs.Words.{one_shifted}
use Rattle.mask_pattern.proofs.ones_up_to.Statement.{statement}
use Rattle.mask_pattern.proofs.ones_up_to.Tie as tie

sub_result_2 : tie.Need-overflow_sub-result-then-end-from-lt64
sub_result_2 c = let a = c.args in omega (arith, one_shifted (a.end - a.from) c.if-end-from-lt64.true, suc_ones (a.end - a.from))

returns : tie.Need-returns-then-end-from
returns c = let a = c.args in let none : min (a.end - a.from) 64 ≡ 0 = omega arith in rw none

returns_2 : tie.Need-returns-then-end-from-lt64
returns_2 c =
    let a = c.args in
    let few : min (a.end - a.from) 64 ≡ a.end - a.from = omega arith in
    rw (one_shifted (a.end - a.from) c.if-end-from-lt64.true, few)

returns_3 : tie.Need-returns-else-end-from-lt64
returns_3 c = let a = c.args in let all : min (a.end - a.from) 64 ≡ 64 = omega arith in rw all

pub ones_up_to_spec : {M : Type 1} → statement M
ones_up_to_spec = tie.close (tie.spec (λ c. search rules) (λ c. search rules) (λ c. search rules) sub_result_2 returns returns_2 returns_3)
