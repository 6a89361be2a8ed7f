-- `fragment::place_held` is the table: in each arm the kind is a number, at which the table's list computes to the arm's own line.
use mathlib.Core.Path.{◌≡◌}
use mathlib.Core.Bool.{Bool, true, false, cond}
use Prim.Native.Nat.{ℕ, ◌≤◌}
use native.Mathlib.Omega.{arith}
use lib.Dec.{leb}
use Rattle.laws.proofs.Below.{none_below}
use Rattle.fragment.specs.declared.Place.{Place}
use Rattle.fragment.specs.Kinds.{high, computation, place}
use Rattle.fragment.proofs.Inside.{OfSlot, slot_numbers}
use Rattle.fragment.proofs.place_held.Statement.{statement}
use Rattle.fragment.proofs.place_held.Tie as tie

-- in the arm of kind n the place is that of kind n
arm : (c : tie.Start) (n : ℕ) (p : Place) → c.args.kind ≡ n → p ≡ place n c.args.lane c.args.i → p ≡ place c.args.kind c.args.lane c.args.i
arm c n p e s = rw e s

high_most : (b : Bool) → cond {A = ℕ} b 4 0 ≤ 4
high_most true = omega arith
high_most false = omega arith

bounds : (c : tie.After-high-h) → OfSlot c.args.kind c.args.lane c.args.i × (high c.args.lane ≤ 4)
bounds c =
    let a = c.args in
    (slot_numbers a.kind a.lane a.i c.requires, high_most (leb 16 a.lane))

-- the last arm is that of kind 8
last : (c : tie.In_default) → c.args.kind ≡ 8
last c = let b = bounds c.before in omega (arith, none_below 8 c.args.kind c.in_default.in_default-own.rest)

-- the arm of kind 1
column_major : tie.Need-returns-in-1
unfolding computation place
column_major c = arm c.before.before.before 1 _ c.in-1.is (rw (c.at-in-1.ensures, c.high-h.ensures))

pub place_held_spec : {M : Type 1} → statement M
unfolding computation place
place_held_spec =
    tie.close
    (tie.spec (λ c κs. tt) (λ c. let b = bounds c.before in omega arith) (λ c κs. tt) (λ c. let b = bounds c.before in omega arith) (λ c κs. tt)
    (λ c. let b = bounds c.before in omega arith) (λ c κs. tt) (λ c. let b = bounds c.before in omega arith) (λ c κs. tt)
    (λ c. let b = bounds c.before in omega arith) (λ c κs. tt) (λ c κs. rw c.in-5.is at c.requires) (λ c κs. tt) (λ c κs. tt)
    (λ c. omega arith) (λ c. let b = bounds c.before in omega arith) (λ c κs. tt)
    (λ c. arm c.before.before.before 0 _ c.in-0.is (rw (c.at.ensures, c.high-h.ensures)))
    column_major
    (λ c. arm c.before.before.before 2 _ c.in-2.is (rw (c.at-in-2.ensures, c.high-h.ensures)))
    (λ c. arm c.before.before.before 3 _ c.in-3.is (rw (c.at-in-3.ensures, c.high-h.ensures)))
    (λ c. arm c.before.before.before 4 _ c.in-4.is (rw (c.at-in-4.ensures, c.high-h.ensures)))
    (λ c. arm c.before.before.before 5 _ c.in-5.is c.accumulator_place.ensures)
    (λ c. arm c.before.before.before 6 _ c.in-6.is c.at-in-6.ensures)
    (λ c. arm c.before.before.before 7 _ c.in-7.is c.at-in-7.ensures)
    (λ c. arm c.before.before.before 8 _ (last c.before) c.at-in_default.ensures))
