-- `c_packed::mark` is the bit of a shard iter, which is 0 or 1.
use Prim.Native.Nat.{ℕ, zero, suc, ◌/◌, ◌%◌, ◌^◌, ◌<◌}
use mathlib.Core.Path.{◌≡◌, refl}
use native.Mathlib.Nat.{mod-lt}
use native.Mathlib.Omega.{arith}
use borrow.Author.Rules.{rules}
use lib.Dec.{eqb}
use Rattle.card.specs.Card.{mark_number}
use Rattle.c_packed.proofs.mark.Statement.{statement}
use Rattle.c_packed.proofs.mark.Tie as tie

one_bit : (n : ℕ) → n < 2 → n ≡ mark_number (eqb n 1)
one_bit zero h = refl
one_bit (suc zero) h = refl
one_bit (suc (suc n)) h = absurd (omega arith)

returns : tie.Need-returns
returns c = let a = c.args in one_bit (a.bits / 2 ^ a.k % 2) (mod-lt (a.bits / 2 ^ a.k) (omega arith))

pub mark_spec : {M : Type 1} → statement M
mark_spec = tie.close (tie.spec (λ c. search rules) returns)
