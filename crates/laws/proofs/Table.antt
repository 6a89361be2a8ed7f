-- A rule of a whole table by one test that the checker computes: what passes at every entry holds at each, by induction on the list.
use mathlib.Core.Path.{◌≡◌, sym, ◌∙◌}
use mathlib.Core.Bool.{Bool, true, ◌&&◌, and-eq-true_iff}
use mathlib.Core.List.{List, [], ◌∷◌}
use Prim.Native.Nat.{ℕ, zero, suc, ◌+◌, ◌<◌}
use native.Mathlib.Nat.{add-suc, suc-add, add-zero, zero-add, le_of_suc-le-suc, not-suc-le-zero}
use lib.ListN.{length, get_or}

module _ {A : Type 0} (f : ℕ → A → Bool) where
  -- the test passes at each entry and its place, places counted from i
  abbrev pub every : ℕ → List A → Bool
  every i [] = true
  every i (x ∷ xs) = f i x && every (suc i) xs

  every_from : (xs : List A) (other : A) (i : ℕ) → every i xs ≡ true → (k : ℕ) → k < length xs → f (i + k) (get_or xs k other) ≡ true
  every_from [] other i t k h = absurd (not-suc-le-zero h)
  every_from (x ∷ xs) other i t zero h = rw (add-zero i) ((and-eq-true_iff (f i x) (every (suc i) xs)).0 t).0
  every_from (x ∷ xs) other i t (suc k) h =
      rw (add-suc i k ∙ sym (suc-add i k))
      (every_from xs other (suc i) ((and-eq-true_iff (f i x) (every (suc i) xs)).0 t).1 k (le_of_suc-le-suc h))

  -- what every entry passes, the entry at k passes; past the end stands `other`
  pub every_at : (xs : List A) (other : A) → every 0 xs ≡ true → (k : ℕ) → k < length xs → f k (get_or xs k other) ≡ true
  every_at xs other t k h = rw zero-add at (every_from xs other 0 t k h)
