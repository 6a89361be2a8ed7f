-- Numbers in bytes read back, and two's complement.
use Prim.Native.Nat.{ℕ, zero, suc, ◌+◌, ◌*◌, ◌-◌, ◌/◌, ◌%◌, ◌^◌, ◌≤◌, ◌<◌}
use mathlib.Core.Path.{◌≡◌, refl, sym, ap, ◌∙◌}
use mathlib.Core.Bool.{true, false, cond}
use mathlib.Core.List.{List, [], ◌∷◌, ◌++◌}
use native.Mathlib.Omega.{arith}
use native.Mathlib.Nat.{mod-eq_of_lt, not-suc-le-zero}
use borrow.Author.Tests.{lt-ltb, le-ltb}
use lib.Dec.{ltb}
use lib.IntN.{ℤ, pos, negsuc, nat_abs}
use lib.ListN.{length, get_or, take, drop, length-append}
use Rattle.book.specs.Bytes.{bytes, number, bytes_from, twos, signed32, gather}

pub length_bytes_lem : (w n : ℕ) → length (bytes w n) ≡ w
length_bytes_lem zero n = refl
length_bytes_lem (suc w) n = ap suc (length_bytes_lem w (n / 256))

-- a number of so many bytes is read back
pub one_back : (n : ℕ) → n < 256 → number (bytes 1 n) ≡ n
one_back n h = omega arith

pub two_back : (n : ℕ) → n < 2 ^ 16 → number (bytes 2 n) ≡ n
two_back n h = omega arith

pub four_back : (n : ℕ) → n < 2 ^ 32 → number (bytes 4 n) ≡ n
four_back n h = omega arith

-- each of the bytes is one
pub twos_small : (z : ℤ) → twos z < 2 ^ 32
twos_small (pos n) = omega arith
twos_small (negsuc n) = omega arith

-- two's complement is read back
pub signed_back : (z : ℤ) → nat_abs z ≤ 2 ^ 30 → signed32 (twos z) ≡ z
signed_back (pos n) h =
    let same : n % 2 ^ 32 ≡ n = mod-eq_of_lt (omega arith) in
    rw (same, lt-ltb n (2 ^ 31) (omega arith))
signed_back (negsuc n) h =
    let same : n % 2 ^ 32 ≡ n = mod-eq_of_lt (omega arith) in
    rw (same, le-ltb (2 ^ 32 - 1 - n) (2 ^ 31) (omega arith)) (ap negsuc (omega arith))

-- the other way round: what is read of four bytes is what they hold
pub bytes_of_number : (b : ℕ) (l : List ℕ) → b < 256 → bytes (suc (length l)) (number (b ∷ l)) ≡ b ∷ bytes (length l) (number l)
bytes_of_number b l h =
    let low : (b + 256 * number l) % 256 ≡ b = omega arith in
    let high : (b + 256 * number l) / 256 ≡ number l = omega arith in
    rw (low, high)
