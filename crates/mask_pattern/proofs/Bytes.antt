-- The bytes of a mask: mask bit p of them is column p, and where no column is set they are all 0.
use mathlib.Core.Path.{◌≡◌, refl, sym, ap, ap₂, ◌∙◌}
use mathlib.Core.Bool.{Bool, false}
use mathlib.Core.List.{List, [], ◌∷◌, ◌++◌, append_assoc}
use mathlib.Core.Logic.{⊎_elim}
use Prim.Native.Nat.{ℕ, zero, suc, ◌+◌, ◌*◌, ◌/◌, ◌%◌, ◌<◌}
use native.Mathlib.Nat.{eq-or-lt_of_le, le_of_suc-le-suc}
use native.Mathlib.Numerals.{add-one}
use native.Mathlib.Omega.{arith}
use lib.ListN.{length, get_or, drop, length-append, replicate, replicate-append-replicate, get_or-append, set as store}
use lib.Seq.{drop-cons, set_at, get_or_at}
use Rattle.mask_pattern.specs.Pattern.{columns_number, mask_bytes, zeroed, first_used}
use Rattle.mask_pattern.specs.Bits.{mask_bit}
use Rattle.mask_pattern.proofs.Numbers.{number_bit, number_same}

module _ (set : ℕ → Bool) where
  pub bytes_length : (n : ℕ) → length (mask_bytes set n) ≡ n
  unfolding mask_bytes
  bytes_length zero = refl
  bytes_length (suc n) = length-append (mask_bytes set n) (columns_number set (8 * n) 8 ∷ []) ∙ ap (λ (k : ℕ). k + 1) (bytes_length n) ∙ add-one n

  -- a byte stored behind those that are written
  pub bytes_store : (mask : List ℕ) (j : ℕ) → j < length mask
      → store (mask_bytes set j ++ drop j mask) j (columns_number set (8 * j) 8) ≡ mask_bytes set (j + 1) ++ drop (j + 1) mask
  unfolding mask_bytes
  bytes_store mask j h =
      rw (add-one j, drop-cons mask j 0 h)
      (set_at (mask_bytes set j) (get_or mask j 0) (drop (suc j) mask) (columns_number set (8 * j) 8) j (bytes_length j)
      ∙ sym (append_assoc (mask_bytes set j) (columns_number set (8 * j) 8 ∷ []) (drop (suc j) mask)))

-- columns that agree make the same bytes
pub bytes_same : (f g : ℕ → Bool) (n : ℕ) → ((k : ℕ) → k < 8 * n → f k ≡ g k) → mask_bytes f n ≡ mask_bytes g n
unfolding mask_bytes
bytes_same f g zero h = refl
bytes_same f g (suc n) h =
    ap₂ (λ (l : List ℕ) (b : ℕ). l ++ (b ∷ [])) (bytes_same f g n (λ k l. h k (omega arith)))
    (number_same f g (8 * n) 8 (λ k l. h k (omega arith)))

-- where no column is set
pub none_zeroed : (p count : ℕ) → zeroed (λ k. false) p count ≡ 0
unfolding zeroed
none_zeroed p zero = refl
none_zeroed p (suc count) = ap (λ (n : ℕ). 0 + n) (none_zeroed (p + 1) count)

pub all_used_lem : (p count : ℕ) → first_used (λ k. false) p count ≡ p
unfolding first_used
all_used_lem p zero = refl
all_used_lem p (suc count) = refl

pub zero_bytes : (n : ℕ) → mask_bytes (λ k. false) n ≡ replicate n 0
unfolding mask_bytes columns_number
zero_bytes zero = refl
zero_bytes (suc n) =
    ap (λ (l : List ℕ). l ++ (0 ∷ [])) (zero_bytes n) ∙ replicate-append-replicate n 1 0 ∙ ap (λ (k : ℕ). replicate k 0) (add-one n)

pub bytes_at : (set : ℕ → Bool) (n j : ℕ) → j < n → get_or (mask_bytes set n) j 0 ≡ columns_number set (8 * j) 8
unfolding mask_bytes
bytes_at set zero j h = absurd (omega arith)
bytes_at set (suc n) j h =
    ⊎_elim
    (λ (last : j ≡ n). rw last (get_or_at (mask_bytes set n) (columns_number set (8 * n) 8) [] 0 n (bytes_length set n)))
    (λ (below : j < n). get_or-append (mask_bytes set n) (columns_number set (8 * n) 8 ∷ []) 0 j (rw (bytes_length set n) below) ∙ bytes_at set n j below)
    (eq-or-lt_of_le (le_of_suc-le-suc h))

-- mask bit p of the bytes of a mask is its column p
pub bytes_bit : (set : ℕ → Bool) (n p : ℕ) → p < 8 * n → mask_bit (mask_bytes set n) p ≡ set p
bytes_bit set n p h =
    let byte : p / 8 < n = omega arith in
    let whole : 8 * (p / 8) + p % 8 ≡ p = omega arith in
    rw (bytes_at set n (p / 8) byte) (number_bit set (8 * (p / 8)) 8 (p % 8) (omega arith) ∙ ap set whole)
