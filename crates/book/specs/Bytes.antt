-- Numbers in bytes, little-endian, and two's complement in four bytes.
use Rattle.std.specs.Prelude.{ℕ, zero, suc, ◌+◌, ◌*◌, ◌-◌, ◌/◌, ◌%◌, ◌^◌, cond, List, [], ◌∷◌, ◌++◌, ltb, ℤ, pos, negsuc, take, drop}

-- a number in so many bytes
abbrev pub bytes : ℕ → ℕ → List ℕ
bytes zero n = []
bytes (suc width) n = n % 256 ∷ bytes width (n / 256)

-- the number that bytes hold
abbrev pub number : List ℕ → ℕ
number [] = 0
number (b ∷ bs) = b + 256 * number bs

-- so many bytes of a block, from this one on, and the number that they hold
abbrev pub bytes_from : {A : Type 0} → ℕ → ℕ → List A → List A
bytes_from width at block = take width (drop at block)

abbrev pub field : ℕ → ℕ → List ℕ → ℕ
field width at block = number (bytes_from width at block)

-- two's complement in four bytes: an integer modulo 2 ^ 32, where `negsuc n` is the integer - (n + 1)
abbrev pub twos : ℤ → ℕ
twos (pos n) = n % 2 ^ 32
twos (negsuc n) = 2 ^ 32 - 1 - n % 2 ^ 32

-- and back: from 2 ^ 31 on it is 2 ^ 32 less
abbrev pub signed32 : ℕ → ℤ
signed32 n = cond (ltb n (2 ^ 31)) (pos n) (negsuc (2 ^ 32 - 1 - n))

-- what is made of each of a list, one after the other
abbrev pub gather : {A : Type 0} → (A → List ℕ) → List A → List ℕ
gather f [] = []
gather f (x ∷ xs) = f x ++ gather f xs
