-- `reading_lists::value` is the number or its negation: neither is near a limit of 64 bits.
use Prim.Native.Nat.{ℕ, ◌<◌}
use mathlib.Core.Bool.{true}
use mathlib.Core.Path.{◌≡◌, ap, ◌∙◌}
use native.Mathlib.Omega.{arith}
use borrow.Author.Rules.{rules}
use lib.IntN.{ℤ, pos, neg_ℤ, ◌-ℤ◌}
use mir.Syntax.{w64}
use mir.Val.{to_z, of_z}
use mir.Facts.{to_z-of_z, to_z_pos}
use Rattle.reading_lists.proofs.Signed.{less, fits}
use Rattle.reading_lists.proofs.value.Statement.{statement}
use Rattle.reading_lists.proofs.value.Tie as tie

read : (n : ℕ) → n < 100000 → pos 0 -ℤ to_z w64 n ≡ neg_ℤ (pos n)
read n h = ap (λ (z : ℤ). pos 0 -ℤ z) (to_z_pos w64 {n = n} (omega arith)) ∙ less n

sub_result : tie.Need-overflow_sub-result
sub_result c = rw (read c.args.size c.requires) (fits true c.args.size c.requires)

returns : tie.Need-returns-then-negative
returns c =
    let n = c.args.size in
    ap (λ (z : ℤ). to_z w64 (of_z w64 z)) (read n c.requires) ∙ to_z-of_z (fits true n c.requires) ∙ rw c.if-negative.true

returns_2 : tie.Need-returns
returns_2 c = rw c.if-negative.false (to_z_pos w64 {n = c.args.size} (omega (arith, c.requires)))

pub value_spec : {M : Type 1} → statement M
value_spec = tie.close (tie.spec (λ c. search rules) sub_result returns (λ c. search rules) returns_2)
