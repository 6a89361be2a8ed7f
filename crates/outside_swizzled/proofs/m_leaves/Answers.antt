-- `outside_swizzled::m_leaves` asks one copy after the other: those that were asked lie inside.
use Rattle.std.proofs.Common.{arith, ◌≡◌, ℕ, List, sym, get_or}
use mathlib.Core.Bool.{true≢false}
use borrow.Author.Count.{below_more}
use lib.IntN.{ℤ, pos, ◌+ℤ◌}
use mir.Syntax.{w64}
use mir.Val.{SFits, to_z, of_z}
use mir.Facts.{to_z-of_z}
use Rattle.laws.proofs.Signed.{sum_far, far_fits}
use Rattle.outside_swizzled.specs.Doubt.{MLies}
use Rattle.outside_swizzled.specs.Clauses.{Looks}
use Rattle.outside_swizzled.proofs.m_leaves.Goals as goal

-- m of the copy that a turn asks
module _ (numbers : List ℕ) (adds : List ℤ) (m : ℤ) (l : Looks numbers adds m) (r : ℕ) where
  abbrev added : ℤ
  added = get_or adds r (pos 0)

  added_back : to_z w64 (of_z w64 added) ≡ added
  added_back = to_z-of_z (far_fits (omega (arith, l.near_adds r)))

  fits : SFits w64 (m +ℤ added)
  fits = far_fits (omega (arith, sum_far m added, l.near, l.near_adds r))

pub overflow_add-m : goal.overflow_add-m
overflow_add-m c =
    let a = c.args in
    let r = c.loop-add.add-index in
    rw (to_z-of_z c.ranges.m, added_back a.numbers.now a.adds.now a.m c.requires r) (fits a.numbers.now a.adds.now a.m c.requires r)

pub m_lies-requires : goal.m_lies-requires
m_lies-requires c = c.requires.permits

pub returns-then-not-m_lies : goal.returns-then-not-m_lies
returns-then-not-m_lies c =
    let a = c.args in
    let r = c.loop-add.add-index in
    let told = rw (to_z-of_z c.ranges.m, added_back a.numbers.now a.adds.now a.m c.requires r, to_z-of_z (fits a.numbers.now a.adds.now a.m c.requires r)) at c.m_lies.ensures in
    let off = told.no_fails c.if-not-m_lies.true in
    record {
      yes_holds = λ e. record { copy = r; below = omega arith; off = off };
      no_fails = λ e. absurd (true≢false e);
    }

pub loop-add-preserved : goal.loop-add-preserved
loop-add-preserved c =
    let a = c.args in
    let l = c.loop-add in
    let r = l.add-index in
    let m_back = to_z-of_z c.ranges.m in
    let told = rw (m_back, added_back a.numbers.now a.adds.now a.m c.requires r, to_z-of_z (fits a.numbers.now a.adds.now a.m c.requires r)) at c.m_lies.ensures in
    rw m_back
    (below_more (λ j. MLies a.numbers.now (a.m +ℤ get_or a.adds.now j (pos 0))) r (rw m_back at l.invariant) (told.yes_holds c.if-not-m_lies.false))

pub returns : goal.returns
returns c =
    let l = c.loop-add in
    record {
      yes_holds = λ e. absurd (true≢false (sym e));
      no_fails = λ e x. x.off (rw (to_z-of_z c.ranges.m) at (l.invariant x.copy (omega (arith, x.below))));
    }
