-- Words of columns made from runs: a run of ones is one less than a power of two, a word shifted up goes on where another ends, and the
-- endless pattern from a column on is what is left of its period and the pattern anew.
use mathlib.Core.Path.{◌≡◌, refl, sym, ap, ap₂, ◌∙◌}
use mathlib.Core.Bool.{Bool, true, false}
use mathlib.Core.List.{List}
use mathlib.Core.Logic.{⊎_elim}
use Prim.Native.Nat.{ℕ, zero, suc, ◌+◌, ◌-◌, ◌*◌, ◌/◌, ◌%◌, ◌^◌, ◌≤◌, ◌<◌, min}
use native.Mathlib.Nat.{pow-suc, lt_of_lt_of_le, add_assoc, add-zero, mod-eq_of_lt, mod-lt, mod-mod, mod-add-mod, add-mod, zero-mod, mul-mod_left}
use native.Mathlib.Omega.{arith}
use lib.Bits.{bit_and, and_mask}
use lib.ListN.{get_or}
use lib.Pow.{pow_mono, shl-shr, mod-pow-add, suc_ones}
use Rattle.laws.proofs.Order.{le_or_lt}
use Rattle.mask_pattern.specs.Pattern.{endless, columns_number}
use Rattle.mask_pattern.proofs.Numbers.{number_below, number_append, number_bit, number_of, number_moved}
use Rattle.mask_pattern.proofs.Pattern.{turns, period, further_in}

-- a word that holds so many columns from column p on
abbrev pub Holds : (ℕ → Bool) → ℕ → ℕ → ℕ → Type 0
Holds set p n word = (word ≡ columns_number set p n) × (word < 2 ^ 64)

module _ (set : ℕ → Bool) where
  number_word : (p n : ℕ) → n ≤ 64 → columns_number set p n < 2 ^ 64
  number_word p n h = lt_of_lt_of_le (number_below set p n) (pow_mono h)

  -- the lowest digits are the first columns
  number_mod : (p n m : ℕ) → columns_number set p n % 2 ^ m ≡ columns_number set p (min n m)
  number_mod p n m =
      ⊎_elim
      (λ (h : m ≤ n).
      let most : min n m ≡ m = omega arith in
      rw most (sym (number_of set p m (columns_number set p n) (λ k l. sym (number_bit set p n k (omega arith))))))
      (λ (h : n < m).
      let most : min n m ≡ n = omega arith in
      rw most (mod-eq_of_lt (lt_of_lt_of_le (number_below set p n) (pow_mono (omega arith)))))
      (le_or_lt m n)

  -- a word shifted up by t digits keeps the columns that still fit
  shifted : (p n t : ℕ) → t ≤ 64 → (columns_number set p n * 2 ^ t) % 2 ^ 64 ≡ columns_number set p (min n (64 - t)) * 2 ^ t
  shifted p n t h =
      let parts : 64 ≡ 64 - t + t = omega arith in
      let x = columns_number set p n in
      ap (λ (k : ℕ). (x * 2 ^ t) % 2 ^ k) parts
      ∙ mod-pow-add (x * 2 ^ t) (64 - t) t
      ∙ rw (shl-shr x t, mul-mod_left x (2 ^ t), number_mod p n (64 - t)) (omega arith)

  -- columns, and above them a word whose columns go on where they end, as many as fit
  pub joined : (p k q n m word above : ℕ) → k ≤ 64 → m ≡ min (k + n) 64 → word ≡ columns_number set p k → above ≡ columns_number set q n
      → ((i : ℕ) → set (p + k + i) ≡ set (q + i))
      → Holds set p m (word + above * 2 ^ k % 2 ^ 64)
  joined p k q n m word above h e w a on =
      let fit = min n (64 - k) in
      let whole : m ≡ k + fit = omega arith in
      let all : word + above * 2 ^ k % 2 ^ 64 ≡ columns_number set p m =
      rw (w, a, shifted q n k h, sym (number_moved set set (p + k) q fit (λ i l. on i)), whole) (sym (number_append set p k fit)) in
      (all, rw all (number_word p m (omega arith)))

  -- set columns, then clear ones
  pub number_run : (p a n : ℕ) → a ≤ n → ((k : ℕ) → k < a → set (p + k) ≡ true) → ((k : ℕ) → a ≤ k → k < n → set (p + k) ≡ false)
      → columns_number set p n ≡ 2 ^ a - 1
  unfolding columns_number
  number_run p zero zero h ones clear = refl
  number_run p zero (suc n) h ones clear =
      let here : set p ≡ false = ap set (sym (add-zero p)) ∙ clear 0 (omega arith) (omega arith) in
      let rest = number_run (p + 1) zero n (omega arith) (λ k l. absurd (omega arith)) (λ k l b. ap set (omega arith) ∙ clear (suc k) (omega arith) (omega arith)) in
      rw (here, rest)
  number_run p (suc a) zero h ones clear = absurd (omega arith)
  number_run p (suc a) (suc n) h ones clear =
      let here : set p ≡ true = ap set (sym (add-zero p)) ∙ ones 0 (omega arith) in
      let rest = number_run (p + 1) a n (omega arith) (λ k l. ap set (omega arith) ∙ ones (suc k) (omega arith)) (λ k l b. ap set (omega arith) ∙ clear (suc k) (omega arith) (omega arith)) in
      rw (here, rest, pow-suc 2 a) (omega (arith, suc_ones a))

-- the endless pattern, the set columns first
module _ (skip used : ℕ) where
  abbrev Set : ℕ → Bool
  Set = endless true skip used

  -- columns as far into their periods go on alike
  pub alike_on : (a b : ℕ) → a % period skip used ≡ b % period skip used → (i : ℕ) → Set (a + i) ≡ Set (b + i)
  alike_on a b e i =
      let same : (a + i) % period skip used ≡ (b + i) % period skip used =
      sym (mod-add-mod a (period skip used) i) ∙ ap (λ (n : ℕ). (n + i) % period skip used) e ∙ mod-add-mod b (period skip used) i in
      rw same

  -- whole periods twice are whole periods
  pub twice_whole : (n : ℕ) → n % period skip used ≡ 0 → (n + n) % period skip used ≡ 0
  twice_whole n e = add-mod n n (period skip used) ∙ rw e (zero-mod (period skip used))

  -- from column `at` of a period to its end, as far as a word goes: what is left of the set run, then clear columns
  pub run_left : (at n : ℕ) → at < period skip used → n ≡ min (period skip used - at) 64 → columns_number Set at n ≡ 2 ^ min (skip + 1 - at) 64 - 1
  run_left at n h e =
      number_run Set at (min (skip + 1 - at) 64) n (omega arith)
      (λ k l. (turns skip used).set_first (at + k) (omega arith))
      (λ k l b.
      let from : at + k ≡ skip + 1 + (at + k - (skip + 1)) = omega arith in
      ap Set from ∙ (turns skip used).then_clear (at + k - (skip + 1)) ∙ (turns skip used).clear_first (at + k - (skip + 1)) (omega arith))

  -- the same columns from a place in the first period on; those that start with clear columns lie one run further on
  pub placed_set : (q : ℕ) → (q % period skip used < period skip used) × ((k : ℕ) → Set (q % period skip used + k) ≡ Set (q + k))
  placed_set q = (mod-lt q (omega arith), alike_on (q % period skip used) q (mod-mod q (period skip used)))

  pub placed_clear : (q : ℕ) → ((skip + 1 + q) % period skip used < period skip used) × ((k : ℕ) → Set ((skip + 1 + q) % period skip used + k) ≡ endless false skip used (q + k))
  placed_clear q =
      let on = placed_set (skip + 1 + q) in
      (on.0, λ k. on.1 k ∙ ap Set (add_assoc (skip + 1) q k) ∙ (turns skip used).then_clear (q + k))

  -- the columns of sub-masks side by side
  abbrev pub side : ℕ → List ℕ → List Bool → ℕ → Bool
  side size counts spans q = endless (get_or spans (q / size) false) skip used (get_or counts (q / size) 0 + q % size)

  -- so many columns of one sub-mask: the lowest of the pattern's columns that start at their place
  pub piece_number : (size : ℕ) (counts : List ℕ) (spans : List Bool) (p count at start word low : ℕ) → p % size + count ≤ size → count ≤ 64
      → start ≡ get_or counts (p / size) 0
      → ((k : ℕ) → Set (at + k) ≡ endless (get_or spans (p / size) false) skip used (start + p % size + k))
      → word ≡ columns_number Set at 64
      → low ≡ 2 ^ min (count - 0) 64 - 1
      → bit_and word low ≡ columns_number (side size counts spans) p count
  piece_number size counts spans p count at start word low h l s on e f =
      let most : min 64 (min (count - 0) 64) ≡ count = omega arith in
      ap₂ bit_and e f
      ∙ and_mask (columns_number Set at 64) (min (count - 0) 64)
      ∙ number_mod Set at 64 (min (count - 0) 64)
      ∙ rw most
      (number_moved Set (side size counts spans) at p count
      (λ k b. let in-sub = further_in size p k (omega arith) in on k ∙ rw (in-sub.0, in-sub.1, s, add_assoc (get_or counts (p / size) 0) (p % size) k)))
