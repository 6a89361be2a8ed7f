-- `fragment::slot_holding` leads back: in each arm the kind is a number, at which the formulas that lead back compute to the arm's own.
use Rattle.std.specs.Prelude.{Ok}
use mathlib.Core.Path.{◌≡◌, sym}
use Prim.Native.Nat.{ℕ, ◌≤◌}
use native.Mathlib.Omega.{arith}
use lib.Bits.{and_le_r}
use Rattle.laws.proofs.Below.{none_below}
use Rattle.fragment.specs.declared.Place.{Place}
use Rattle.fragment.specs.declared.Slot.{Slot}
use Rattle.fragment.specs.Kinds.{◌&◌, at}
use Rattle.fragment.specs.Fragment.{HolderAnswer}
use Rattle.fragment.proofs.Inside.{OfPlace, place_numbers}
use Rattle.fragment.proofs.Back.{back}
use Rattle.fragment.proofs.Theorems.{back_answers}
use Rattle.fragment.proofs.slot_holding.Statement.{statement}
use Rattle.fragment.proofs.slot_holding.Tie as tie

abbrev asked : tie.Start → Place
asked c = at c.args.computation c.args.row c.args.column

-- the bits that the arms take from a number
abbrev Bits : ℕ → Type 0
Bits n = ((n & 1) ≤ 1) × ((n & 2) ≤ 2) × ((n & 4) ≤ 4)

bits : (n : ℕ) → Bits n
bits n = (and_le_r n 1, and_le_r n 2, and_le_r n 4)

bounds : (c : tie.Start) → OfPlace c.args.kind (asked c) × Bits c.args.row × Bits c.args.column
bounds c = (place_numbers c.args.kind (asked c) c.requires, bits c.args.row, bits c.args.column)

-- in the arm of kind n the register is the one that the formulas of kind n lead to
arm : (c : tie.Start) (n : ℕ) (s : Slot) → c.args.kind ≡ n → s ≡ back n (asked c) → HolderAnswer c.args.kind (asked c) (Ok s)
arm c n s e found = rw (found, sym e) (back_answers c.args.kind (asked c) c.requires)

-- the last arm is that of kind 8
last : (c : tie.In_default) → c.args.kind ≡ 8
last c = let b = bounds c.before in omega (arith, none_below 8 c.args.kind c.in_default.in_default-own.rest)

pub slot_holding_spec : {M : Type 1} → statement M
unfolding back
slot_holding_spec =
    tie.close
    (tie.spec (λ c κs. let b = bounds c.before in omega arith) (λ c κs. let b = bounds c.before in omega arith)
    (λ c κs. let b = bounds c.before in omega arith) (λ c κs. let b = bounds c.before in omega arith)
    (λ c κs. let b = bounds c.before in omega arith) (λ c. let b = bounds c.before in omega arith)
    (λ c. let b = bounds c.before in omega arith) (λ c. let b = bounds c.before in omega arith)
    (λ c κs. let b = bounds c.before in omega arith) (λ c κs. let b = bounds c.before in omega arith)
    (λ c κs. let b = bounds c.before in omega arith) (λ c κs. let b = bounds c.before in omega arith)
    (λ c. arm c.before.before 0 _ c.in-0.is c.in_group.ensures)
    (λ c. arm c.before.before 1 _ c.in-1.is c.in_group-in-1.ensures)
    (λ c. arm c.before.before 2 _ c.in-2.is c.in_group-in-2.ensures)
    (λ c. arm c.before.before 3 _ c.in-3.is c.in_group-in-3.ensures)
    (λ c. arm c.before.before 4 _ c.in-4.is c.in_group-in-4.ensures)
    (λ c. arm c.before.before 5 _ c.in-5.is c.in_group-in-5.ensures)
    (λ c. arm c.before.before 6 _ c.in-6.is c.in_group-in-6.ensures)
    (λ c. arm c.before.before 7 _ c.in-7.is c.in_group-in-7.ensures)
    (λ c. arm c.before.before 8 _ (last c.before) c.in_group-in_default.ensures))
