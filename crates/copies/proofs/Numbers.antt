-- A position and the one number that stands for it: below beyond it is that of the coordinates, from there on it names the place past its size.
use mathlib.Core.Path.{◌≡◌, refl, ap, ◌∙◌}
use mathlib.Core.Bool.{Bool, cond}
use mathlib.Core.List.{List}
use Prim.Native.Nat.{ℕ, ◌+◌, ◌-◌, ◌≤◌, ◌<◌}
use native.Mathlib.Omega.{arith}
use borrow.Author.Tests.{lt-ltb, le-ltb}
use lib.ListN.{length}
use Rattle.card.specs.Lists.{product}
use Rattle.card.specs.Packed.{beyond}
use Rattle.rules.specs.RowMajor.{position}
use Rattle.rules.specs.Rules.{axes, spot_at}
use Rattle.rules.specs.Copies.{cell_of, past_axis}
use Rattle.copies.specs.Clauses.{number_of, position_of, cell_from, axis_from}
use Rattle.rules.specs.declared.Position.{Position}
use Rattle.rules.specs.declared.Position.TheVariants.{At, Past}
use Rattle.rules.proofs.RowMajor.{row_major_below}
use Rattle.rules.proofs.Spots.{position_at}

-- a position whose number can not be taken for a place past a size
abbrev pub Small : Position → Type 0
Small (At number) = number < beyond
Small (Past k) = Unit

pub position_small : (sizes xs : List ℕ) → product sizes ≤ beyond → Small (position sizes xs)
position_small sizes xs few = split (position sizes xs) refl
  where
    split : (p : Position) → position sizes xs ≡ p → Small p
    split (At n) e =
        let w = position_at sizes xs n e in
        omega (arith, w.number, row_major_below sizes xs w.within)
    split (Past k) e = tt

-- which it is, is seen of the number
module _ (p : Position) (small : Small p) {number : ℕ} (is : number ≡ number_of p) where
  pub position_back : position_of number ≡ p
  position_back = ap position_of is ∙ by_case p small
    where
      by_case : (p : Position) → Small p → position_of (number_of p) ≡ p
      by_case (At n) small = ap (λ (b : Bool). cond b (At n) (Past (n - beyond))) (lt-ltb n beyond small)
      by_case (Past k) small =
          ap (λ (b : Bool). cond b (At (beyond + k)) (Past (beyond + k - beyond))) (le-ltb (beyond + k) beyond (omega arith)) ∙ ap Past (omega arith)

  -- and so are its cell and its axis
  pub cell_from_lem : cell_from number ≡ cell_of (spot_at p)
  cell_from_lem = ap cell_from is ∙ by_case p small
    where
      by_case : (p : Position) → Small p → cell_from (number_of p) ≡ cell_of (spot_at p)
      by_case (At n) small = ap (λ (b : Bool). cond b n 0) (lt-ltb n beyond small)
      by_case (Past k) small = ap (λ (b : Bool). cond b (beyond + k) 0) (le-ltb (beyond + k) beyond (omega arith))

  pub axis_from_lem : axis_from number ≡ past_axis (spot_at p)
  axis_from_lem = ap axis_from is ∙ by_case p small
    where
      by_case : (p : Position) → Small p → axis_from (number_of p) ≡ past_axis (spot_at p)
      by_case (At n) small = ap (λ (b : Bool). cond b (length axes) (n - beyond)) (lt-ltb n beyond small)
      by_case (Past k) small = ap (λ (b : Bool). cond b (length axes) (beyond + k - beyond)) (le-ltb (beyond + k) beyond (omega arith)) ∙ omega arith
