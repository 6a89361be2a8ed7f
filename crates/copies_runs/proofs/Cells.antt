-- A level and an m that come to a cell: m is not below zero, and its swizzle is the number that the machine finds.
use mathlib.Core.Path.{◌≡◌, refl, ap, ap₂, ◌∙◌}
use mathlib.Core.List.{List}
use Prim.Native.Nat.{ℕ, ◌+◌, ◌≤◌, ◌<◌}
use native.Mathlib.Nat.{ne_of_lt}
use native.Mathlib.Omega.{arith}
use borrow.Author.Count.{below_more}
use lib.Dec.{T}
use lib.IntN.{ℤ, pos, negsuc, nat_abs, ◌+ℤ◌}
use lib.ListN.{length, get_or, set, length-set}
use lib.Seq.{get_or-set_same, get_or-set_other}
use lib.Signed.{non_neg}
use mir.Syntax.{w64}
use mir.Val.{to_z, of_z, SFits}
use mir.Facts.{to_z-of_z}
use Rattle.laws.proofs.Rungs.{apart}
use Rattle.laws.proofs.Signed.{sum_far, far_fits}
use Rattle.swizzle.specs.Swizzle.{swizzled}
use Rattle.swizzle.specs.declared.Swizzle.{Swizzle}
use Rattle.card.specs.Limits.{last_axis}
use Rattle.card.specs.Packed.{swizzle_of}
use Rattle.card.specs.declared.Card.{Card}
use Rattle.rules.specs.Rules.{part, swizzled_z}
use Rattle.rules_linear.specs.Levels.{level_at}
use Rattle.copies_runs.specs.Clauses.{roomy_level, roomier, CopiesTo, FilledTo}

pub natural_m : (w : Swizzle) (z : ℤ) (n : ℕ) → swizzled_z w z ≡ pos n → T (non_neg z)
natural_m w (pos m) n e = tt
natural_m w (negsuc m) n e = absurd (apart (cc))

pub on_m_is : (w : Swizzle) (z : ℤ) (n : ℕ) → swizzled_z w z ≡ pos n → swizzled w.m w.b w.s (nat_abs z) ≡ n
on_m_is w (pos m) n e = cc
on_m_is w (negsuc m) n e = absurd (apart (cc))

-- the machine adds two numbers that are near zero
module _ (a b : ℤ) (fits-a : SFits w64 a) (fits-b : SFits w64 b) (near-a : nat_abs a ≤ roomy_level) (near-b : nat_abs b ≤ roomy_level) where
  read : to_z w64 (of_z w64 a) +ℤ to_z w64 (of_z w64 b) ≡ a +ℤ b
  read = ap₂ (λ (x y : ℤ). x +ℤ y) (to_z-of_z fits-a) (to_z-of_z fits-b)

  pub sum_fits : SFits w64 (to_z w64 (of_z w64 a) +ℤ to_z w64 (of_z w64 b))
  sum_fits = rw read (far_fits {x = a +ℤ b} (omega (arith, sum_far a b)))

  pub sum_back : to_z w64 (of_z w64 (to_z w64 (of_z w64 a) +ℤ to_z w64 (of_z w64 b))) ≡ a +ℤ b
  sum_back = to_z-of_z sum_fits ∙ read

-- and a step to one that is
module _ (now step : ℤ) (near : nat_abs now ≤ roomier) (short : nat_abs step ≤ roomy_level) where
  pub step_fits : SFits w64 (now +ℤ step)
  step_fits = far_fits (omega (arith, sum_far now step))

-- a row that is filled to k, and one cell more
module _ (numbers : List ℕ) (level m : ℤ) (levels ms : List ℤ) (before : List ℕ) where
  pub filled_none : FilledTo numbers level m levels ms before before 0
  filled_none = record { size = refl; cells = λ r h. absurd (omega arith) }

  pub filled_more : (after : List ℕ) (k cell : ℕ) → k < length before → FilledTo numbers level m levels ms before after k
      → pos cell ≡ level +ℤ get_or levels k (pos 0) +ℤ swizzled_z (swizzle_of numbers) (m +ℤ get_or ms k (pos 0))
      → FilledTo numbers level m levels ms before (set after k cell) (k + 1)
  filled_more after k cell h f e = record {
    size = length-set after k cell ∙ f.size;
    cells =
        below_more (λ r. pos (get_or (set after k cell) r 0) ≡ level +ℤ get_or levels r (pos 0) +ℤ swizzled_z (swizzle_of numbers) (m +ℤ get_or ms r (pos 0))) k
        (λ r less. ap pos (get_or-set_other after k r cell 0 (ne_of_lt less)) ∙ f.cells r less)
        (ap pos (get_or-set_same after k cell 0 (omega (arith, f.size))) ∙ e);
  }

-- what the copies add, and one copy more
module _ (card : Card) (n : ℕ) where
  pub copies_none : (levels ms : List ℤ) → length levels ≡ n → length ms ≡ n → CopiesTo card n 0 levels ms
  copies_none levels ms l m = record { levels_size = l; ms_size = m; levels_at = λ r h. absurd (omega arith); ms_at = λ r h. absurd (omega arith) }

  pub copies_more : (levels ms : List ℤ) (k : ℕ) (level m : ℤ) → k < n → CopiesTo card n k levels ms → level ≡ level_at card.lengths (part card.replica k)
      → m ≡ part card.replica k last_axis → CopiesTo card n (k + 1) (set levels k level) (set ms k m)
  copies_more levels ms k level m h c e d = record {
    levels_size = length-set levels k level ∙ c.levels_size;
    ms_size = length-set ms k m ∙ c.ms_size;
    levels_at =
        below_more (λ r. get_or (set levels k level) r (pos 0) ≡ level_at card.lengths (part card.replica r)) k
        (λ r less. get_or-set_other levels k r level (pos 0) (ne_of_lt less) ∙ c.levels_at r less)
        (get_or-set_same levels k level (pos 0) (omega (arith, c.levels_size)) ∙ e);
    ms_at =
        below_more (λ r. get_or (set ms k m) r (pos 0) ≡ part card.replica r last_axis) k
        (λ r less. get_or-set_other ms k r m (pos 0) (ne_of_lt less) ∙ c.ms_at r less)
        (get_or-set_same ms k m (pos 0) (omega (arith, c.ms_size)) ∙ d);
  }
