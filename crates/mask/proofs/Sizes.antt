-- What a mask's size says: its sub-masks are 1, 2 or 4, of N, N/2 or N/4 bits, and hold its N columns.
use mathlib.Core.Path.{◌≡◌}
use mathlib.Core.Bool.{Bool, true, false, cond}
use Prim.Native.Nat.{ℕ, ◌*◌, ◌/◌, ◌%◌, ◌≤◌}
use native.Mathlib.Omega.{arith}
use borrow.Author.Tests.{eqb-true, leb-true}
use lib.Dec.{eqb, leb}
use Rattle.laws.proofs.Tests.{four_of}
use Rattle.descriptor.specs.Descriptor.{mask_m}
use Rattle.mask.specs.Mask.{mask_size, sub_masks, sub_bits}

-- what holds of 1, 2 and 4 holds of the number of sub-masks
pub at_sub_masks : (P : ℕ → Type 0) → P 1 → P 2 → P 4 → (M : ℕ) → P (sub_masks M)
at_sub_masks P one two four M = by (eqb M 128) (eqb M 64)
  where
    by : (a b : Bool) → P (cond a 1 (cond b 2 4))
    by true b = one
    by false true = two
    by false false = four

pub record Sized (M N : ℕ) : Type 0 where
  -- whole bytes, at most 32
  pub whole : 8 * (N / 8) ≡ N
  pub least : 8 ≤ N
  pub most : N ≤ 256
  -- the sub-masks hold the N columns, and one holds no more
  pub held : N ≤ sub_masks M * sub_bits M N
  pub four : N ≤ 4 * sub_bits M N
  pub small : sub_bits M N ≤ 256

pub sized : (M N : ℕ) → mask_size M N ≡ true → Sized M N
sized M N h =
    let parts = four_of (mask_m M) (eqb (N % 8) 0) (leb 8 N) (leb N 256) h in
    let eights = eqb-true (N % 8) 0 parts.1 in
    let least = leb-true 8 N parts.2 in
    let most = leb-true N 256 parts.3 in
    record {
      whole = omega arith;
      least = least;
      most = most;
      held = at_sub_masks (λ k. N ≤ k * (N / k)) (omega arith) (omega arith) (omega arith) M;
      four = at_sub_masks (λ k. N ≤ 4 * (N / k)) (omega arith) (omega arith) (omega arith) M;
      small = at_sub_masks (λ k. N / k ≤ 256) (omega arith) (omega arith) (omega arith) M;
    }
