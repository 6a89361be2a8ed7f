-- Of each of the three columns of a list, the test so far, with the test of the rest, is the test of all.
use Prim.Native.Nat.{ℕ, ◌+◌, ◌≤◌, ◌<◌}
use native.Mathlib.Omega.{arith}
use mathlib.Core.Path.{◌≡◌, sym, ap, ◌∙◌, subst}
use mathlib.Core.Bool.{Bool, ◌&&◌}
use mathlib.Core.List.{map}
use lib.ListN.{take}
use Rattle.laws.proofs.Lists.{map_take}
use Rattle.card.specs.Lists.{all, within, within_z, slots}
use Rattle.card.specs.Limits.{most_extent, least_stride, most_stride, last_axis}
use Rattle.card.specs.Packed.{iter_at}
use Rattle.card.specs.declared.Iter.{Iter}
use Rattle.card.proofs.Lists.{Tested, tested_more, tested_all}
use Rattle.card.proofs.ReadBack.{eight_at}
use Rattle.admission.proofs.list_fits.Given as goal

-- a column of eight numbers, tested up to k
module _ {A : Type 0} (p : A → Bool) (column : ℕ → A) (count : ℕ) where
  abbrev pub Upto : ℕ → Bool → Type 0
  Upto k fit = Tested p (map column slots) 0 count k fit

  pub upto_more : (k : ℕ) (fit : Bool) → k < count → count ≤ 8 → Upto k fit → Upto (k + 1) (fit && p (column k))
  upto_more k fit h few e =
      subst (λ (x : A). Upto (k + 1) (fit && p x)) (eight_at column (column 0) k (omega arith))
      (tested_more p (map column slots) 0 count k (column 0) fit h few e)

-- all of a column tested, the listed iters are
pub all_tested : {A : Type 0} (p : A → Bool) (f : Iter → A) (iter : ℕ → Iter) (count k : ℕ) (fit : Bool) → k ≡ count → Upto p (λ j. f (iter j)) count k fit
    → fit ≡ all p (map f (take count (map iter slots)))
all_tested p f iter count k fit end e =
    tested_all p (map (λ j. f (iter j)) slots) 0 count fit (subst (λ (n : ℕ). Upto p (λ j. f (iter j)) count n fit) end e)
    ∙ ap (all p) (sym (map_take f count (map iter slots)))

abbrev pub invariant-loop-k : goal.invariant-loop-k
invariant-loop-k l =
    record {
      extents : Upto (within 1 most_extent) (λ j. (iter_at l.numbers l.strides l.list j).extent) l.count l.k l.extents;
      steps : Upto (within_z least_stride most_stride) (λ j. (iter_at l.numbers l.strides l.list j).stride) l.count l.k l.steps;
      axes : Upto (within 0 last_axis) (λ j. (iter_at l.numbers l.strides l.list j).axis) l.count l.k l.axes;
    }
