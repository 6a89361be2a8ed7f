-- The sources of the kinds with values, by rule: at each kind the table of fragments computes to its own line.
use mathlib.Core.Path.{◌≡◌, refl, ap}
use mathlib.Core.Bool.{Bool, true, false, cond, ◌&&◌}
use Prim.Native.Nat.{ℕ, ◌+◌, ◌*◌, ◌-◌, ◌/◌, ◌%◌, ◌≤◌, ◌<◌}
use native.Mathlib.Omega.{arith}
use borrow.Author.Tests.{lt-ltb, le-ltb, leb-true, leb-false}
use lib.Dec.{eqb, leb, ltb}
use lib.Bits.{and_le_r}
use Rattle.laws.proofs.Below.{below_at}
use Rattle.fragment.specs.Kinds.{◌&◌, high, computation, registers, place}
use Rattle.fragment.proofs.Inside.{slot_numbers}
use Rattle.values.specs.Values.{is_own}
use Rattle.values.proofs.Holder.{own}
use Rattle.dealing_moves.specs.Moves.{source_of}

-- the bits that the rule of kind 5 takes from a number
abbrev pub Bits : ℕ → Type 0
Bits n = ((n & 1) ≤ 1) × ((n & 2) ≤ 2) × ((n & 4) ≤ 4)

pub bits : (n : ℕ) → Bits n
bits n = (and_le_r n 1, and_le_r n 2, and_le_r n 4)

high_rule : (lane : ℕ) → lane < 32 → high lane ≡ lane / 16 * 4
high_rule lane h = by (leb 16 lane) refl
  where
    by : (b : Bool) → leb 16 lane ≡ b → cond {A = ℕ} b 4 0 ≡ lane / 16 * 4
    by true e = omega (arith, leb-true 16 lane e)
    by false e = omega (arith, leb-false 16 lane e)

module _ (c lane i : ℕ) where
  pub source_5 : lane < 32 → i < 8
      → source_of 5 c lane i ≡ cond (eqb (lane % 16 / 4) c) (8 * ((lane & 1) + (i & 2) + lane / 16 * 4) + ((i & 4) + (lane & 2) + (i & 1))) 64
  unfolding computation place registers
  source_5 h k = rw (lt-ltb lane 32 h, lt-ltb i 8 k, high_rule lane h)

  pub source_6 : lane < 32 → source_of 6 c lane i ≡ cond (ltb i 1 && eqb 0 c) (8 * (lane / 4) + lane % 4) 64
  unfolding computation place registers
  source_6 h = rw (lt-ltb lane 32 h)

  pub source_7 : lane < 32 → source_of 7 c lane i ≡ cond (ltb i 1 && eqb 0 c) (8 * (lane % 4) + lane / 4) 64
  unfolding computation place registers
  source_7 h = rw (lt-ltb lane 32 h)

  pub source_8 : lane < 32 → source_of 8 c lane i ≡ cond (ltb i 2 && eqb 0 c) (8 * (lane / 4) + (2 * (lane % 4) + i)) 64
  unfolding computation place registers
  source_8 h = rw (lt-ltb lane 32 h)

-- an .f64 kind has at most two registers, and no kind above 8 has any
few_registers : (kind : ℕ) → 5 < kind → kind < 9 → registers kind ≤ 2
unfolding registers
few_registers kind h k =
    let same : 6 + (kind - 6) ≡ kind = omega arith in
    rw same at (leb-true (registers (6 + (kind - 6))) 2 (below_at (λ j. leb (registers (6 + j)) 2) 3 refl (kind - 6) (omega arith)))

module _ (kind c lane i : ℕ) where
  nobody : (is_own kind c lane i ≡ true → ⊥) → source_of kind c lane i ≡ 64
  nobody none = by (is_own kind c lane i) refl
    where
      by : (b : Bool) → is_own kind c lane i ≡ b → source_of kind c lane i ≡ 64
      by true e = absurd (none e)
      by false e = rw e

  pub source_past : 5 < kind → 1 < i → source_of kind c lane i ≡ 64
  source_past h k =
      nobody (λ e. let n = slot_numbers kind lane i (own kind c lane i e).slot in
      omega (arith, n.of_register, few_registers kind h n.known))

  pub source_unknown : 8 < kind → source_of kind c lane i ≡ 64
  source_unknown h = nobody (λ e. let n = slot_numbers kind lane i (own kind c lane i e).slot in omega (arith, n.known))
