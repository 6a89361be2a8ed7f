-- Columns of eight written side by side into one list, slot by slot: after k turns the first k entries of each are there.
use mathlib.Core.Path.{◌≡◌, refl, ap, ◌∙◌}
use mathlib.Core.List.{List}
use Prim.Native.Nat.{ℕ, zero, suc, ◌+◌, ◌*◌, ◌≤◌, ◌<◌}
use native.Mathlib.Decide.{ℕ_discrete, dec_lt}
use native.Mathlib.Nat.{not-suc-le-zero}
use native.Mathlib.Omega.{arith}
use lib.ListN.{length, get_or, set, length-set}
use lib.Seq.{get_or-set_same, get_or-set_other}

module _ {A : Type 0} (other : A) (value : ℕ → ℕ → A) where
  -- one turn: entry k of the first c columns
  abbrev pub stored : ℕ → ℕ → List A → List A
  stored zero k l = l
  stored (suc c) k l = set (stored c k l) (8 * c + k) (value c k)

  -- the first k entries of n columns
  pub record Filled (n k : ℕ) (l : List A) : Type 0 where
    pub whole : length l ≡ 8 * n
    pub so_far : (c j : ℕ) → c < n → j < k → get_or l (8 * c + j) other ≡ value c j

  stored_whole : (c k : ℕ) (l : List A) → length (stored c k l) ≡ length l
  stored_whole zero k l = refl
  stored_whole (suc c) k l = length-set (stored c k l) (8 * c + k) (value c k) ∙ stored_whole c k l

  -- other entries stay
  stored_before : (n k c j : ℕ) (l : List A) → j < k → k < 8 → get_or (stored n k l) (8 * c + j) other ≡ get_or l (8 * c + j) other
  stored_before zero k c j l h small = refl
  stored_before (suc n) k c j l h small =
      get_or-set_other (stored n k l) (8 * n + k) (8 * c + j) (value n k) other (λ e. absurd (omega arith)) ∙ stored_before n k c j l h small

  stored_there : (n k c : ℕ) (l : List A) → c < n → k < 8 → 8 * n ≤ length l → get_or (stored n k l) (8 * c + k) other ≡ value c k
  stored_there zero k c l below small long = absurd (not-suc-le-zero below)
  stored_there (suc n) k c l below small long =
      elim (ℕ_discrete c n) [
        | yes same ↦
            rw same (get_or-set_same (stored n k l) (8 * n + k) (value n k) other (omega (arith, stored_whole n k l)))
        | no apart ↦
            get_or-set_other (stored n k l) (8 * n + k) (8 * c + k) (value n k) other (λ e. apart (omega arith))
            ∙ stored_there n k c l (omega arith) small (omega arith)
      ]

  pub filled_none : (n : ℕ) {l : List A} → length l ≡ 8 * n → Filled n 0 l
  filled_none n e = record { whole = e; so_far = λ c j below h. absurd (not-suc-le-zero h) }

  pub filled_more : (n k : ℕ) {l : List A} → k < 8 → Filled n k l → Filled n (k + 1) (stored n k l)
  filled_more n k {l} small f = record {
    whole = stored_whole n k l ∙ f.whole;
    so_far = λ c j below h.
        elim (ℕ_discrete j k) [
          | yes same ↦ rw same (stored_there n k c l below small (omega (arith, f.whole)))
          | no apart ↦ stored_before n k c j l (omega arith) small ∙ f.so_far c j below (omega arith)
        ];
  }
