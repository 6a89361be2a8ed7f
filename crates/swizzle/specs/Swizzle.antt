-- The swizzle of an address: document 01, rule 4, and the swizzle numbers that are permitted.
use Rattle.std.specs.Prelude.{ℕ, ◌+◌, ◌*◌, ◌/◌, ◌%◌, ◌^◌, Bool, cond, ◌&&◌, leb, Result, Ok, Err}
use Rattle.std.specs.Int.Bits.{bit_xor}
use Rattle.answers.specs.declared.Refusal.{Refusal}
use Rattle.answers.specs.Refusals.{answer, refusal_numbers, numbers_of, one_detail}
use Rattle.answers.specs.declared.Numbers.{Numbers}
use Rattle.answers.specs.declared.Refusal.TheVariants.{Swizzle}

-- M at most 8, B at most 4, S at most 8, and S not below B
abbrev pub permitted : ℕ → ℕ → ℕ → Bool
permitted M B S = leb M 8 && leb B 4 && leb S 8 && leb B S

-- bits S to S+B-1 of x
abbrev pub picked : ℕ → ℕ → ℕ → ℕ
picked B S x = x / 2 ^ S % 2 ^ B

-- bits S to S+B-1 of x = m / 2^M are XORed into its bits 0 to B-1; the low M bits of m stay
unfoldable pub swizzled : ℕ → ℕ → ℕ → ℕ → ℕ
swizzled M B S m = bit_xor (m / 2 ^ M) (picked B S (m / 2 ^ M)) * 2 ^ M + m % 2 ^ M

-- the answer to any numbers: refusal 6 exactly when the swizzle is not permitted
abbrev pub swizzle_answer : ℕ → ℕ → ℕ → ℕ → Result ℕ Refusal
swizzle_answer M B S m = cond (permitted M B S) (Ok (swizzled M B S m)) (Err Swizzle)

-- at number 0 the new address
abbrev pub swizzle_numbers : Result ℕ Refusal → Numbers
swizzle_numbers = numbers_of one_detail
