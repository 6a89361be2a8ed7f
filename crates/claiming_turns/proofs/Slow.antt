-- The iters slower than the run's: those behind them have extent 1 but for one.
use mathlib.Core.Path.{◌≡◌, refl, sym, ap, ◌∙◌}
use mathlib.Core.List.{List, [], ◌∷◌}
use Prim.Native.Nat.{ℕ, zero, suc, ◌*◌, ◌≤◌, ◌<◌}
use native.Mathlib.Nat.{mul-one}
use native.Mathlib.Omega.{arith}
use lib.ListN.{length, get_or, drop, drop_of_length-le}
use Rattle.card.specs.declared.Iter.{Iter}
use Rattle.rules_linear.specs.Runs.{run_length}
use Rattle.rules_linear.proofs.Runs.{run_next, run_behind}
use Rattle.claiming_turns.specs.Turns.{iter_extents, size_from, RunFrom}
use Rattle.claiming_turns.proofs.Ways.{size_next}

pub all_ones : (l : List Iter) (k : ℕ) → length l ≤ k → (run_length (drop k l) ≡ 1) × (size_from k l ≡ 1)
all_ones l k h = rw (drop_of_length-le l h) (refl, refl)

run_at : (l : List Iter) (k : ℕ) → k < length l → run_length (drop (suc k) l) ≡ 1 → run_length (drop k l) ≡ get_or (iter_extents l) k 0
run_at [] k h e = absurd (omega arith)
run_at (iter ∷ l) zero h e = run_next iter l e
run_at (iter ∷ l) (suc k) h e = run_at l k (omega arith) e

module _ (l : List Iter) (k : ℕ) (h : k < length l) (behind : (run_length (drop (suc k) l) ≡ 1) × (size_from (suc k) l ≡ 1)) where
  size_at : size_from k l ≡ get_or (iter_extents l) k 0
  size_at = size_next l k h ∙ ap (λ (n : ℕ). get_or (iter_extents l) k 0 * n) behind.1 ∙ mul-one (get_or (iter_extents l) k 0)

  pub ones_more : get_or (iter_extents l) k 0 ≡ 1 → (run_length (drop k l) ≡ 1) × (size_from k l ≡ 1)
  ones_more e = (run_at l k h behind.0 ∙ e, size_at ∙ e)

  pub slower_run : (get_or (iter_extents l) k 0 ≡ 1 → ⊥) → RunFrom l k
  slower_run more = record {
    most = omega arith;
    a_run = size_at ∙ sym (run_at l k h behind.0) ∙ sym (run_behind k l (λ e. more (sym (run_at l k h behind.0) ∙ e)));
  }
