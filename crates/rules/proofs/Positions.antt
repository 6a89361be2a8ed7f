-- Where coordinates are, exactly: at a number where each is below its size, past a size where one is the first that is not; the two cases shut each other out.
use mathlib.Core.Path.{◌≡◌, refl, sym, ap, ◌∙◌}
use mathlib.Core.Bool.{Bool, true, cond, and-eq-true_iff}
use mathlib.Core.Logic.{◌↔◌, ⊎_elim}
use mathlib.Core.List.{List, [], ◌∷◌}
use Prim.Native.Nat.{ℕ, zero, suc, ◌≤◌, ◌<◌, suc-le-suc}
use native.Mathlib.Nat.{suc_inj}
use native.Mathlib.Omega.{arith}
use borrow.Author.Tests.{lt-ltb}
use lib.Dec.{ltb}
use lib.ListN.{length, get_or}
use Rattle.laws.proofs.Order.{le_or_lt}
use Rattle.rules.specs.RowMajor.{row_major, inside, first_past, position}
use Rattle.rules.specs.declared.Position.{Position}
use Rattle.rules.specs.declared.Position.TheVariants.{At, Past}
use Rattle.rules.proofs.RowMajor.{FirstPast, first_past_lem}
use Rattle.rules.proofs.Spots.{position_at, position_past}
use Rattle.rules.proofs.Whole.{inside_each}

-- each coordinate is below its size
abbrev pub EachBelow : List ℕ → List ℕ → Type 0
EachBelow sizes xs = (k : ℕ) → k < length sizes → get_or xs k 0 < get_or sizes k 0

each_inside : (sizes xs : List ℕ) → length xs ≡ length sizes → EachBelow sizes xs → inside sizes xs ≡ true
each_inside [] [] same below = refl
each_inside [] (x ∷ xs) same below = absurd (omega arith)
each_inside (n ∷ ns) [] same below = absurd (omega arith)
each_inside (n ∷ ns) (x ∷ xs) same below =
    (and-eq-true_iff (ltb x n) (inside ns xs)).1
    (lt-ltb x n (below zero (omega arith)), each_inside ns xs (suc_inj same) (λ k h. below (suc k) (suc-le-suc h)))

module _ (sizes xs : List ℕ) (same : length xs ≡ length sizes) where
  -- at a number exactly when each is below its size, and the number is theirs
  pub at_exactly : (n : ℕ) → (position sizes xs ≡ At n) ↔ (EachBelow sizes xs × (row_major sizes xs ≡ n))
  unfolding position
  at_exactly n = (
    λ e. let at = position_at sizes xs n e in (inside_each sizes xs at.within, at.number),
    λ so. ap (λ (b : Bool). cond b (At (row_major sizes xs)) (Past (first_past sizes xs))) (each_inside sizes xs same so.0) ∙ ap At so.1,
  )

  found : (k : ℕ) → position sizes xs ≡ Past k → FirstPast sizes xs k
  found k e = let past = position_past sizes xs k e in rw (sym past.1) (first_past_lem sizes xs same past.0)

  -- past a size exactly when it is the first that its coordinate is not below
  pub past_exactly : (k : ℕ) → (position sizes xs ≡ Past k) ↔ FirstPast sizes xs k
  past_exactly k = (found k, λ f. split f (position sizes xs) refl)
    where
      split : FirstPast sizes xs k → (p : Position) → position sizes xs ≡ p → position sizes xs ≡ Past k
      split f (At n) e = absurd (omega (arith, f.past, ((at_exactly n).0 e).0 k f.a_place))
      split f (Past j) e =
          let g = found j e in
          let least : k ≤ j = ⊎_elim (λ (h : k ≤ j). h) (λ (h : j < k). absurd (omega (arith, g.past, f.before_it j h))) (le_or_lt k j) in
          let most : j ≤ k = ⊎_elim (λ (h : j ≤ k). h) (λ (h : k < j). absurd (omega (arith, f.past, g.before_it k h))) (le_or_lt j k) in
          e ∙ ap Past (omega arith)
