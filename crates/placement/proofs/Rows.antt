-- A row that is copied entry by entry: after k of them the first k entries are the row's, and after all the memory is the row's beginning.
use mathlib.Core.Path.{◌≡◌, sym, ◌∙◌}
use mathlib.Core.List.{List}
use Prim.Native.Nat.{ℕ, ◌+◌, ◌≤◌, ◌<◌}
use native.Mathlib.Decide.{ℕ_discrete}
use native.Mathlib.Omega.{arith}
use lib.ListN.{length, get_or, set, take, length-set}
use lib.Seq.{ext_get_or, get_or-take, get_or-set_same, get_or-set_other, length-take-le}

pub record Copied (row before after : List ℕ) (k : ℕ) : Type 0 where
  pub long : length after ≡ length before
  pub entries : (i : ℕ) → i < k → get_or after i 0 ≡ get_or row i 0

module _ (row before : List ℕ) where
  pub copied_more : (after : List ℕ) (k : ℕ) → k < length before → Copied row before after k → Copied row before (set after k (get_or row k 0)) (k + 1)
  copied_more after k h so_far = record {
    long = length-set after k _ ∙ so_far.long;
    entries = λ i below.
        elim (ℕ_discrete i k) [
          | yes same ↦ rw same (get_or-set_same after k (get_or row k 0) 0 (omega (arith, so_far.long)))
          | no other ↦ get_or-set_other after k i (get_or row k 0) 0 other ∙ so_far.entries i (omega arith)
        ];
  }

  pub copied_all : (after : List ℕ) → length before ≤ length row → Copied row before after (length before) → after ≡ take (length before) row
  copied_all after fits all =
      ext_get_or 0 after (take (length before) row) (all.long ∙ sym (length-take-le (length before) row fits))
      (λ i h.
      let below : i < length before = omega (arith, all.long) in
      all.entries i below ∙ sym (get_or-take (length before) row i 0 below))
