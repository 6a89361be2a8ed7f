-- What a packed card's copies add: a walk from zeros leaves small sums, whose level and m are those of the combination.
use mathlib.Core.Path.{◌≡◌, refl, ap, ◌∙◌}
use mathlib.Core.List.{List, map}
use Prim.Native.Nat.{ℕ, zero, suc, ◌≤◌, ◌<◌}
use native.Mathlib.Omega.{arith}
use lib.IntN.{ℤ, pos, nat_abs}
use lib.ListN.{length, get_or, replicate}
use Rattle.laws.proofs.Signed.{sum_far}
use Rattle.card.specs.Limits.{last_axis}
use Rattle.card.specs.Packed.{iters_of, Admits}
use Rattle.rules.specs.Rules.{axes, part}
use Rattle.rules.specs.Walked.{walked}
use Rattle.rules.proofs.Base.{walked_at, walked_eight}
use Rattle.copies_sums.specs.Walks.{roomy, Walkable, Sums}
use Rattle.copies_sums.proofs.Turn.{along_room}
use Rattle.copies.proofs.Cards.{eight_small, walkable_shard, walkable_replica}
use Rattle.rules_linear.specs.Levels.{level}
use Rattle.rules_linear.proofs.Cells.{zeros}
use Rattle.copies_runs.specs.Clauses.{Adds}

zeros_at : (n axis : ℕ) → get_or (replicate n (pos 0)) axis (pos 0) ≡ pos 0
zeros_at zero axis = refl
zeros_at (suc n) zero = refl
zeros_at (suc n) (suc axis) = zeros_at n axis

pub zero_sums : Sums zeros
zero_sums = record { eight = refl; small = λ axis. rw (zeros_at 8 axis) (omega arith) }

pub copy_sums : (numbers : List ℕ) (strides : List ℤ) (list : ℕ) → Walkable numbers strides list → (index : ℕ) → Sums (walked (iters_of numbers strides list) index zeros)
copy_sums numbers strides list w index =
    let iters = iters_of numbers strides list in
    record {
      eight = walked_eight iters index zeros;
      small =
          eight_small (walked iters index zeros) roomy (walked_eight iters index zeros)
          (λ axis h.
          rw (walked_at iters index zeros axis h)
          (omega (arith, sum_far (get_or zeros axis (pos 0)) (part iters index axis), ap nat_abs (zeros_at 8 axis), along_room numbers strides list w 0 index axis)));
    }

-- sums that are a function of the axes, weighed
pub adds : (lengths : List ℕ) (f : ℕ → ℤ) {sums : List ℤ} → sums ≡ map f axes → {x y : ℤ} → x ≡ level lengths sums → y ≡ get_or sums last_axis (pos 0)
    → Adds lengths f (record { level = x; m = y })
adds lengths f e p q = record { level_is = p ∙ ap (level lengths) e; m_is = q ∙ ap (λ (l : List ℤ). get_or l last_axis (pos 0)) e }

-- either list of an admitted card can be walked
pub walkable : (numbers : List ℕ) (strides : List ℤ) → Admits numbers strides → (list : ℕ) → list ≤ 1 → Walkable numbers strides list
walkable numbers strides a zero h = walkable_shard numbers strides a
walkable numbers strides a (suc zero) h = walkable_replica numbers strides a
walkable numbers strides a (suc (suc list)) h = absurd (omega arith)
