-- `book_card::signed` is two's complement read: neither number is near a limit of 64 bits.
use Prim.Native.Nat.{ℕ, zero, suc, ◌+◌, ◌-◌, ◌^◌, ◌≤◌, ◌<◌}
use mathlib.Core.Path.{◌≡◌, refl, sym, ap, ◌∙◌}
use native.Mathlib.Omega.{arith}
use borrow.Author.Rules.{rules}
use borrow.Author.Tests.{lt-ltb, le-ltb}
use lib.IntN.{ℤ, pos, negsuc, neg_ℤ, nat_abs, ◌-ℤ◌}
use mir.Syntax.{w64}
use mir.Val.{to_z, of_z, SFits}
use mir.Facts.{to_z-of_z, to_z_pos}
use Rattle.laws.proofs.Signed.{far_fits}
use Rattle.book_card.proofs.signed.Statement.{statement}
use Rattle.book_card.proofs.signed.Tie as tie

less : (n : ℕ) → n < 2 ^ 32 → negsuc 0 -ℤ to_z w64 (4294967295 - n) ≡ negsuc (2 ^ 32 - 1 - n)
less n h = ap (λ (z : ℤ). negsuc 0 -ℤ z) (to_z_pos w64 {n = 4294967295 - n} (omega arith)) ∙ split (4294967295 - n)
  where
    split : (m : ℕ) → negsuc 0 -ℤ pos m ≡ negsuc m
    split zero = refl
    split (suc m) = ap negsuc (omega arith)

fits : (n : ℕ) → n < 2 ^ 32 → SFits w64 (negsuc (2 ^ 32 - 1 - n))
fits n h = far_fits (omega arith)

returns : tie.Need-returns-then-n-lt2147483648
returns c =
    let n = c.args.n in
    let small : n < 2 ^ 31 = c.if-n-lt2147483648.true in
    to_z_pos w64 {n = n} (omega arith) ∙ rw (lt-ltb n (2 ^ 31) small)

sub_result_2 : tie.Need-overflow_sub-result-2
sub_result_2 c = rw (less c.args.n c.requires) (fits c.args.n c.requires)

returns_2 : tie.Need-returns
returns_2 c =
    let n = c.args.n in
    let large : 2 ^ 31 ≤ n = c.if-n-lt2147483648.false in
    ap (λ (z : ℤ). to_z w64 (of_z w64 z)) (less n c.requires) ∙ to_z-of_z (fits n c.requires) ∙ rw (le-ltb n (2 ^ 31) large)

pub signed_spec : {M : Type 1} → statement M
signed_spec = tie.close (tie.spec (λ c. search rules) returns (λ c. search rules) (λ c. search rules) sub_result_2 returns_2)
