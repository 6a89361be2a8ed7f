-- What the functions inside promise: sums that are not below zero, and keys. Nothing here has to be believed.
use Rattle.std.specs.Prelude.{◌≡◌, List, [], ◌∷◌, ℕ, ◌*◌, ◌/◌, ◌%◌, ◌^◌, ◌≤◌, ◌<◌, T, ℤ, pos, nat_abs, length, get_or, replicate}
use Rattle.std.specs.Int.Bits.{bit_xor}
use Rattle.std.specs.Int.Signed.{non_neg}
use Rattle.card.specs.declared.Iters.{Iters}
use Rattle.rules.specs.Walked.{walked}
use Rattle.copies_sums.specs.Walks.{roomy}

-- eight sums before anything is added: so far from zero that no combination brings one below it
abbrev pub far : List ℤ
far = replicate 8 (pos roomy)

-- a sum that is not below zero
abbrev pub natural : ℤ → Type 0
natural z = T (non_neg z)

pub record Natural (sums : List ℤ) : Type 0 where
  pub eight : length sums ≡ 8
  pub each : (axis : ℕ) → axis < 8 → natural (get_or sums axis (pos 0))

-- a key with one sum more: turned by nine bits, and the sum XORed to it
abbrev pub mixed : ℕ → ℤ → ℕ
mixed key sum = bit_xor (bit_xor (key * 2 ^ 9 % 2 ^ 64) (key / 2 ^ 55)) (nat_abs sum)

-- the key of sums: any function of them would do, since equal sums have equal keys, and sums are compared wherever keys agree
abbrev pub key_from : ℕ → List ℤ → ℕ
key_from key [] = key
key_from key (sum ∷ sums) = key_from (mixed key sum) sums

unfoldable pub key_of : List ℤ → ℕ
key_of sums = key_from 0 sums

-- the keys of the combinations below b stand in their places
pub record Keyed (replica : Iters) (b : ℕ) (keys : List ℕ) : Type 0 where
  pub places : length keys ≡ 64
  pub key_at : (x : ℕ) → x < b → get_or keys x 0 ≡ key_of (walked replica x far)

-- from one combination up to another, none has the key of b
pub record Passes (keys : List ℕ) (b from a : ℕ) : Type 0 where
  pub from_there : from ≤ a
  pub at_most : a ≤ b
  pub other_keys : (x : ℕ) → from ≤ x → x < a → get_or keys x 0 ≡ get_or keys b 0 → ⊥
