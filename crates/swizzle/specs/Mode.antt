-- M, B, S from element bits and mode: document 01, after rule 5.
use Rattle.std.specs.Prelude.{ℕ, ◌-◌, ◌/◌, Bool, cond, ◌&&◌, ◌||◌, leb, eqb, Result, Ok, Err}
use Rattle.std.specs.Int.Count.{count_leading_zeros}
use Rattle.answers.specs.declared.Refusal.{Refusal}
use Rattle.answers.specs.Refusals.{answer, refusal_numbers, numbers_of}
use Rattle.answers.specs.declared.Numbers.{Numbers}
use Rattle.answers.specs.declared.Refusal.TheVariants.{Swizzle as NotPermitted}
use Rattle.swizzle.specs.declared.Swizzle.{Swizzle}

-- element bits 4, 8, 16, 32, 64 or 128
abbrev pub known_bits : ℕ → Bool
known_bits bits = eqb bits 4 || eqb bits 8 || eqb bits 16 || eqb bits 32 || eqb bits 64 || eqb bits 128

-- and mode 0 (none), 1 (32B), 2 (64B), 3 (128B)
abbrev pub known : ℕ → ℕ → Bool
known bits mode = known_bits bits && leb mode 3

-- the bit length of a 64-bit number comes from counting leading zeros
unfoldable pub bit_length : ℕ → ℕ
bit_length n = 64 - count_leading_zeros 64 n

-- M = bit length of (128 / bits), less 1; B = mode; S = 3
abbrev pub swizzle_of_mode : ℕ → ℕ → Swizzle
swizzle_of_mode bits mode = record { m = bit_length (128 / bits) - 1; b = mode; s = 3 }

-- any other bits or mode is refusal 6
abbrev pub mode_answer : ℕ → ℕ → Result Swizzle Refusal
mode_answer bits mode = cond (known bits mode) (Ok (swizzle_of_mode bits mode)) (Err NotPermitted)

-- at number 0 M, B, S
abbrev pub parameter_numbers : Swizzle → Numbers
parameter_numbers swizzle = answer 0 swizzle.m swizzle.b swizzle.s

abbrev pub mode_numbers : Result Swizzle Refusal → Numbers
mode_numbers = numbers_of parameter_numbers
