-- What the definitions of the swizzle and of the modes mean, in plain for-alls, each from the laws with the widths as parameters.
use Rattle.std.specs.Prelude.{Ok, Result, Err}
use mathlib.Core.Path.{◌≡◌, refl, sym, ap, ap₂, ◌∙◌}
use mathlib.Core.Bool.{Bool, true, false, cond}
use mathlib.Core.Logic.{◌⊎◌, ⊎_elim}
use Prim.Native.Nat.{ℕ, ◌+◌, ◌-◌, ◌*◌, ◌/◌, ◌%◌, ◌^◌, ◌≤◌, ◌<◌}
use native.Mathlib.Nat.{add-zero, add-sub_of_le, sub-add_cancel}
use native.Mathlib.Omega.{arith}
use borrow.Author.Tests.{le-leb, ltb-true, ltb-false}
use lib.Dec.{ltb}
use lib.Pow.{pow-add, pow_mono, split, shr-shr, field, mod-mod-pow}
use lib.Bits.{bit_xor, xor_shr, xor_mod}
use lib.Count.{leading_length}
use Rattle.answers.specs.declared.Refusal.{Refusal}
use Rattle.answers.specs.Refusals.{answer}
use Rattle.answers.specs.declared.Numbers.{Numbers}
use Rattle.answers.specs.declared.Refusal.TheVariants.{Swizzle as NotPermitted}
use Rattle.answers.proofs.OneToOne.{read_back, refused_back, pinned, rung}
use Rattle.laws.proofs.Rungs.{apart, ended_at}
use Rattle.swizzle.specs.Swizzle.{permitted, picked, swizzled, swizzle_answer, swizzle_numbers}
use Rattle.swizzle.specs.Mode.{known, bit_length, mode_answer, mode_numbers}
use Rattle.swizzle.specs.declared.Swizzle.{Swizzle}
use Rattle.swizzle.proofs.Laws.{permitted_numbers, swizzled_low, swizzled_high, swizzled_block, swizzle_twice}
use Rattle.swizzle.proofs.Widths.{known_parts, zeros_known}

-- bit i of a number
abbrev pub bit : ℕ → ℕ → ℕ
bit i n = n / 2 ^ i % 2

-- a bit below M is one of the low M bits
low_bit : (M i n : ℕ) → i < M → bit i n ≡ bit i (n % 2 ^ M)
low_bit M i n h =
    sym
    (ap (λ (k : ℕ). bit i (n % 2 ^ k)) (sym (sub-add_cancel (omega arith)))
    ∙ ap (λ (x : ℕ). x % 2) (field n (M - i) i)
    ∙ ap (λ (k : ℕ). n / 2 ^ i % 2 ^ k % 2) (sym (sub-add_cancel (omega arith)))
    ∙ mod-mod-pow (n / 2 ^ i) (M - i - 1) 1)

-- a bit from k on is one of those that a shift by k leaves
high_bit : (k i n : ℕ) → k ≤ i → bit i n ≡ bit (i - k) (n / 2 ^ k)
high_bit k i n h =
    sym (ap (λ (x : ℕ). x % 2) (shr-shr n k (i - k) ∙ ap (λ (j : ℕ). n / 2 ^ j) (add-sub_of_le h)))

-- only bits M to M+B-1 can change: those below M stay, and those from M+B on
pub outer_bits_stay : (M B S m i : ℕ) → (i < M) ⊎ (M + B ≤ i) → bit i (swizzled M B S m) ≡ bit i m
outer_bits_stay M B S m i =
    ⊎_elim
    (λ (h : i < M). low_bit M i (swizzled M B S m) h ∙ ap (bit i) (swizzled_low M B S m) ∙ sym (low_bit M i m h))
    (λ (h : M + B ≤ i).
    high_bit (M + B) i (swizzled M B S m) h
    ∙ ap (bit (i - (M + B))) (swizzled_block M B S m)
    ∙ sym (high_bit (M + B) i m h))

-- and rule 4 says how those change: bit M+i is XORed with bit M+S+i, for each i below B
pub inner_bits_crossed : (M B S m i : ℕ) → i < B → bit (M + i) (swizzled M B S m) ≡ bit_xor (bit (M + i) m) (bit (M + S + i) m)
inner_bits_crossed M B S m i h =
    let x = m / 2 ^ M in
    let own : bit i x ≡ bit (M + i) m = ap (λ (n : ℕ). n % 2) (shr-shr m M i) in
    let other : bit i (picked B S x) ≡ bit (M + S + i) m =
    sym (low_bit B i (x / 2 ^ S) h)
    ∙ ap (λ (n : ℕ). n % 2) (shr-shr x S i ∙ shr-shr m M (S + i) ∙ ap (λ (k : ℕ). m / 2 ^ k) (omega arith)) in
    ap (λ (n : ℕ). n % 2) (sym (shr-shr (swizzled M B S m) M i))
    ∙ ap (bit i) (swizzled_high M B S m)
    ∙ ap (λ (n : ℕ). n % 2) (xor_shr x (picked B S x) i)
    ∙ xor_mod (x / 2 ^ i) (picked B S x / 2 ^ i) 1
    ∙ ap₂ bit_xor own other

-- no swizzle is B = 0: every address stays where it is
pub no_swizzle : (M S m : ℕ) → swizzled M 0 S m ≡ m
no_swizzle M S m =
    let same : swizzled M 0 S m / 2 ^ M ≡ m / 2 ^ M = rw (add-zero M) at (swizzled_block M 0 S m) in
    sym (split (swizzled M 0 S m) M) ∙ ap₂ (λ (x y : ℕ). x * 2 ^ M + y) same (swizzled_low M 0 S m) ∙ split m M

-- address m lies in the aligned block of 2^(M+B) addresses that has the number m / 2^(M+B)
abbrev pub block : ℕ → ℕ → ℕ → ℕ
block M B m = m / 2 ^ (M + B)

pub record OntoItself (M B S : ℕ) : Type 0 where
  -- a block is mapped into itself
  pub into : (m : ℕ) → block M B (swizzled M B S m) ≡ block M B m
  -- each address is hit, from its own block
  pub hit : (n : ℕ) → (m : ℕ) × (block M B m ≡ block M B n) × (swizzled M B S m ≡ n)
  -- and hit once
  pub once : (m n : ℕ) → swizzled M B S m ≡ swizzled M B S n → m ≡ n
  -- twice gives the address back
  pub twice : (m : ℕ) → swizzled M B S (swizzled M B S m) ≡ m

-- Demand 3, its last sentence: every permitted swizzle maps each aligned block of 2^(M+B) addresses onto itself, each address hit
-- once, and twice gives the address back
pub demand_3_swizzle : (M B S : ℕ) → permitted M B S ≡ true → OntoItself M B S
demand_3_swizzle M B S p =
    let back : (m : ℕ) → swizzled M B S (swizzled M B S m) ≡ m =
    λ m. swizzle_twice M B S m (permitted_numbers M B S p).not_below in
    record {
      into = swizzled_block M B S;
      hit = λ n. (swizzled M B S n, swizzled_block M B S n, back n);
      once = λ m n e. sym (back m) ∙ ap (swizzled M B S) e ∙ back n;
      twice = back;
    }

-- the power of two that the bit length of a 64-bit number names is above it, and its half is not
pub bit_length_lem : (n : ℕ) → n < 2 ^ 64 → (n < 2 ^ bit_length n) × (2 ^ bit_length n ≤ 2 * n + 1)
unfolding bit_length
bit_length_lem n h =
    let l = leading_length 64 n h in
    let e : l.0 ≡ bit_length n = omega (arith, l.1) in
    rw (sym e) (l.2, l.3)

-- so the bit length is the smallest exponent whose power of two is above the number
pub bit_length_smallest : (n k : ℕ) → n < 2 ^ 64 → n < 2 ^ k → bit_length n ≤ k
bit_length_smallest n k h above = go (ltb k (bit_length n)) refl
  where
    go : (b : Bool) → ltb k (bit_length n) ≡ b → bit_length n ≤ k
    go true t =
        let l = ltb-true k (bit_length n) t in
        let twice : 2 ^ (k + 1) ≡ 2 ^ k * 2 = pow-add 2 k 1 in
        absurd (omega (arith, twice, pow_mono {i = k + 1} {j = bit_length n} (omega arith), (bit_length_lem n h).1))
    go false t = ltb-false k (bit_length n) t

known_permitted : (bits mode : ℕ) → known bits mode ≡ true → permitted (bit_length (128 / bits) - 1) mode 3 ≡ true
unfolding bit_length
known_permitted bits mode k =
    let parts = known_parts bits mode k in
    let zeros = zeros_known bits parts.0 in
    rw (le-leb (bit_length (128 / bits) - 1) 8 (omega arith), le-leb mode 4 (omega arith), le-leb mode 3 (omega arith))

-- what comes out of bits and mode says that they are known, and is their M, B, S
pub mode_told : (bits mode : ℕ) (w : Swizzle) → mode_answer bits mode ≡ Ok w
    → (known bits mode ≡ true) × (w ≡ record { m = bit_length (128 / bits) - 1; b = mode; s = 3 })
mode_told bits mode w e =
    let named = ended_at (known bits mode) e (λ q. apart (cc)) in
    let last = named.1 in
    (named.0, cc)

-- for every bits and mode the numbers that come out are permitted
pub mode_permitted : (bits mode : ℕ) (w : Swizzle) → mode_answer bits mode ≡ Ok w → permitted w.m w.b w.s ≡ true
mode_permitted bits mode w e =
    let told = mode_told bits mode w e in
    rw told.1 (known_permitted bits mode told.0)

-- two outcomes that the promise of the swizzle of an address allows are equal
pub swizzle_settled : (M B S m : ℕ) (p q : Result ℕ Refusal) → p ≡ swizzle_answer M B S m → q ≡ swizzle_answer M B S m → p ≡ q
swizzle_settled M B S m p q e f = e ∙ sym f

-- and so are two that the promise of bits and mode allows
pub mode_settled : (bits mode : ℕ) (p q : Result Swizzle Refusal) → p ≡ mode_answer bits mode → q ≡ mode_answer bits mode → p ≡ q
mode_settled bits mode p q e f = e ∙ sym f

-- pinning the numbers pins the answer
swizzle_back : (p : Result ℕ Refusal) → read_back (λ n. Ok n.a) Err (swizzle_numbers p) ≡ p
swizzle_back (Ok m) = refl
swizzle_back (Err r) = refused_back (λ n. Ok n.a) Err r

pub swizzle_one_to_one : (p q : Result ℕ Refusal) → swizzle_numbers p ≡ swizzle_numbers q → p ≡ q
swizzle_one_to_one = pinned (λ n. Ok n.a) Err swizzle_numbers swizzle_back

chosen : Numbers → Result Swizzle Refusal
chosen n = Ok (record { m = n.a; b = n.b; s = n.c })

mode_back : (p : Result Swizzle Refusal) → read_back chosen Err (mode_numbers p) ≡ p
unfolding chosen
mode_back (Ok w) = refl
mode_back (Err r) = refused_back chosen Err r

pub mode_one_to_one : (p q : Result Swizzle Refusal) → mode_numbers p ≡ mode_numbers q → p ≡ q
mode_one_to_one = pinned chosen Err mode_numbers mode_back

-- in document 01's numbers: 0 and the new address, or 6
pub swizzle_in_numbers : (M B S m : ℕ) (r : Result ℕ Refusal) → r ≡ swizzle_answer M B S m
    → swizzle_numbers r ≡ cond (permitted M B S) (answer 0 (swizzled M B S m) 0 0) (answer 6 0 0 0)
swizzle_in_numbers M B S m r e = ap swizzle_numbers e ∙ rung swizzle_numbers (permitted M B S) refl refl

-- 0 and M, B, S, or 6
pub mode_in_numbers : (bits mode : ℕ) (r : Result Swizzle Refusal) → r ≡ mode_answer bits mode
    → mode_numbers r ≡ cond (known bits mode) (answer 0 (bit_length (128 / bits) - 1) mode 3) (answer 6 0 0 0)
mode_in_numbers bits mode r e = ap mode_numbers e ∙ rung mode_numbers (known bits mode) refl refl
