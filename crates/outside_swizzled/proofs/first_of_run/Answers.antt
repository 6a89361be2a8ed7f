-- `outside_swizzled::first_of_run` looks at one element after the other, m a step further each time: those that were passed stay inside.
use Rattle.std.proofs.Common.{arith, refl, ◌≡◌, ◌∙◌, ◌+◌, ◌<◌, ℕ, List}
use borrow.Author.Count.{below_more}
use lib.IntN.{ℤ, pos, ◌+ℤ◌, ◌*ℤ◌}
use mir.Syntax.{w64}
use mir.Val.{SFits, to_z, of_z}
use mir.Facts.{to_z-of_z}
use Rattle.laws.proofs.Signed.{sum_far, far_fits}
use Rattle.rules_linear.proofs.Leaving.{sought_here, sought_none}
use Rattle.outside_swizzled.specs.Doubt.{MLeaves}
use Rattle.outside_swizzled.specs.Clauses.{RunSteps}
use Rattle.outside_swizzled.proofs.Laws.{run_near, run_none, run_more}
use Rattle.outside_swizzled.proofs.first_of_run.Goals as goal

next_fits : (numbers : List ℕ) (adds : List ℤ) (base step : ℤ) (count c : ℕ) → RunSteps numbers adds base step count → c < count → SFits w64 (base +ℤ pos c *ℤ step +ℤ step)
next_fits numbers adds base step count c s h =
    far_fits (omega (
      arith,
      sum_far (base +ℤ pos c *ℤ step) step,
      s.near_step,
      run_near base step c s.near_base s.near_step (omega (arith, s.few)),
    ))

pub loop-c-init : goal.loop-c-init
loop-c-init c =
    let a = c.args in
    record { m_there = run_none (to_z w64 (of_z w64 a.base)) (to_z w64 (of_z w64 a.step)); none = λ j h. absurd (omega arith) }

pub m_leaves-requires : goal.m_leaves-requires
m_leaves-requires c =
    let a = c.args in
    let l = c.loop-c in
    let m_is = rw (to_z-of_z c.ranges.base, to_z-of_z c.ranges.step) at l.invariant.m_there in
    rw m_is (record {
      permits = c.requires.permits;
      near_adds = c.requires.near_adds;
      near = run_near a.base a.step l.c c.requires.near_base c.requires.near_step (omega (arith, c.requires.few));
    })

pub returns-then-m_leaves : goal.returns-then-m_leaves
returns-then-m_leaves c =
    let l = c.loop-c in
    let m_is = rw (to_z-of_z c.ranges.base, to_z-of_z c.ranges.step) at l.invariant.m_there in
    let told = rw m_is at c.m_leaves.ensures in
    sought_here c.loop-c-test.true (told.yes_holds c.if-m_leaves.true) (rw (to_z-of_z c.ranges.base, to_z-of_z c.ranges.step) at l.invariant.none)

pub overflow_add-m : goal.overflow_add-m
overflow_add-m c =
    let a = c.args in
    let l = c.loop-c in
    let m_is = rw (to_z-of_z c.ranges.base, to_z-of_z c.ranges.step) at l.invariant.m_there in
    rw (m_is, to_z-of_z c.ranges.step) (next_fits a.numbers.now a.adds.now a.base a.step a.count l.c c.requires (omega arith))

pub loop-c-preserved : goal.loop-c-preserved
loop-c-preserved c =
    let a = c.args in
    let l = c.loop-c in
    let base_back = to_z-of_z c.ranges.base in
    let step_back = to_z-of_z c.ranges.step in
    let m_is = rw (base_back, step_back) at l.invariant.m_there in
    let none = rw (base_back, step_back) at l.invariant.none in
    let told = rw m_is at c.m_leaves.ensures in
    let next_is : to_z w64 (of_z w64 (to_z w64 l.m-bits +ℤ to_z w64 (of_z w64 a.step))) ≡ a.base +ℤ pos (l.c + 1) *ℤ a.step =
    rw (m_is, step_back) (to_z-of_z (next_fits a.numbers.now a.adds.now a.base a.step a.count l.c c.requires (omega arith))) ∙ run_more a.base a.step l.c in
    rw (next_is, base_back, step_back) (record {
      m_there = refl;
      none = below_more (λ j. MLeaves a.numbers.now a.adds.now (a.base +ℤ pos j *ℤ a.step) → ⊥) l.c none (told.no_fails c.if-m_leaves.false);
    })

pub returns : goal.returns
returns c =
    let none = rw (to_z-of_z c.ranges.base, to_z-of_z c.ranges.step) at c.loop-c.invariant.none in
    sought_none (λ j h. none j (omega arith))
