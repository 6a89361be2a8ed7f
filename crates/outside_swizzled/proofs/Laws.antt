-- m of an element's copies in doubt: whether a swizzled m lies inside is asked of the sum's sign and of the swizzled number, and m of a run's elements
-- grows by one step.
use mathlib.Core.Path.{◌≡◌, refl, sym, ap, ◌∙◌}
use mathlib.Core.Bool.{Bool, true, false, true≢false}
use mathlib.Core.List.{List, [], ◌∷◌}
use Prim.Native.Nat.{ℕ, zero, suc, ◌+◌, ◌*◌, ◌/◌, ◌%◌, ◌^◌, ◌≤◌, ◌<◌}
use native.Mathlib.Nat.{div-add-mod', mul-le-mul}
use native.Mathlib.Omega.{arith}
use borrow.Author.Tests.{ltb-true, ltb-false, ne_eqb}
use lib.Dec.{T, ltb}
use lib.IntN.{ℤ, pos, negsuc, nat_abs, ◌+ℤ◌, ◌*ℤ◌, +ℤ_idl}
use lib.ListN.{get_or, drop}
use lib.Signed.{lt_z, non_neg}
use Rattle.laws.proofs.Parts.{whole, parts_sum, parts_times}
use Rattle.laws.proofs.Signed.{sum_far, times_far}
use Rattle.swizzle.specs.Swizzle.{swizzled}
use Rattle.swizzle.specs.declared.Swizzle.{Swizzle}
use Rattle.card.specs.Limits.{last_axis, most_elements}
use Rattle.card.specs.Card.{listed}
use Rattle.card.specs.declared.Iter.{Iter}
use Rattle.card.specs.declared.Iters.{Iters}
use Rattle.rules.specs.Rules.{part, swizzled_z}
use Rattle.rules.specs.Walked.{walked}
use Rattle.rules.proofs.Base.{walked_at}
use Rattle.rules.proofs.Whole.{Lies}
use Rattle.copies_sums.specs.Walks.{roomy}
use Rattle.idle.specs.Clauses.{Says}
use Rattle.rules_linear.specs.Runs.{run_length}
use Rattle.rules_linear.proofs.Runs.{Fit, part_run}
use Rattle.rules_linear.proofs.Cells.{zeros}

-- m after a walk from zero
pub m_walked : (iters : Iters) (index : ℕ) → get_or (walked iters index zeros) last_axis (pos 0) ≡ part iters index last_axis
m_walked iters index = walked_at iters index zeros last_axis (omega arith) ∙ +ℤ_idl (part iters index last_axis)

-- below zero it lies outside
pub below_lies : (w : Swizzle) (n : ℕ) (z : ℤ) → lt_z z (pos 0) ≡ true → Says (Lies n (swizzled_z w z)) false
below_lies w n z t = record { yes_holds = λ e. absurd (true≢false (sym e)); no_fails = λ e. off z t }
  where
    off : (z : ℤ) → lt_z z (pos 0) ≡ true → Lies n (swizzled_z w z) → ⊥
    off (pos k) t l = omega (arith, ltb-true k 0 t)
    off (negsuc k) t l = omega (whole, l.0)

-- and from zero on where the swizzled number does
pub natural_lies : (w : Swizzle) (n : ℕ) (z : ℤ) → T (non_neg z) → (r : Bool) → r ≡ ltb (swizzled w.m w.b w.s (nat_abs z)) n → Says (Lies n (swizzled_z w z)) r
natural_lies w n (negsuc k) t r e = absurd t
natural_lies w n (pos k) t r e =
    let x = swizzled w.m w.b w.s k in
    record {
      yes_holds = λ yes. let below = ltb-true x n (sym e ∙ yes) in (omega whole, omega whole);
      no_fails = λ no l. let above = ltb-false x n (sym e ∙ no) in omega (whole, l.1);
    }

-- before iters of extent 1 an iter has the run, and
pub run_first : (iter : Iter) (l : List Iter) → run_length l ≡ 1 → run_length (iter ∷ l) ≡ iter.extent
run_first iter l e = rw e

-- the run of a list is that of its later iters, unless these have extent 1
pub run_later : (k : ℕ) (l : List Iter) → (run_length (drop k l) ≡ 1 → ⊥) → run_length l ≡ run_length (drop k l)
run_later zero l h = refl
run_later (suc k) [] h = refl
run_later (suc k) (iter ∷ l) h =
    let same = run_later k l h in
    rw (ne_eqb (run_length l) 1 (λ e. h (sym same ∙ e))) same

-- from any place of a run on, each element is a step further
pub run_from : (iters : Iters) → Fit (listed iters) → (flat c : ℕ) → 0 < run_length (listed iters) → flat % run_length (listed iters) + c < run_length (listed iters)
    → part iters (flat + c) last_axis ≡ part iters flat last_axis +ℤ pos c *ℤ part iters 1 last_axis
run_from iters fit flat c some h =
    let e = run_length (listed iters) in
    let q = flat / e in
    let d = flat % e in
    let at : (x : ℕ) → flat + x ≡ q * e + (d + x) = λ x. omega (arith, div-add-mod' flat e) in
    let start = part iters (q * e) last_axis in
    let step = part iters 1 last_axis in
    let self : flat ≡ q * e + d = omega (arith, div-add-mod' flat e) in
    let here = ap (λ (n : ℕ). part iters n last_axis) self ∙ part_run iters q d last_axis fit (omega arith) in
    let there = ap (λ (n : ℕ). part iters n last_axis) (at c) ∙ part_run iters q (d + c) last_axis fit h in
    omega (whole, here, there, parts_sum start (pos d *ℤ step), parts_times d step, parts_times c step, parts_times (d + c) step, parts_sum start (pos (d + c) *ℤ step), parts_sum (part iters flat last_axis) (pos c *ℤ step))

-- in a run nothing is far from zero, and one more is a step further
pub run_near : (base step : ℤ) (c : ℕ) → nat_abs base ≤ roomy → nat_abs step ≤ roomy → c ≤ most_elements → nat_abs (base +ℤ pos c *ℤ step) ≤ 2 ^ 60
run_near base step c b s few =
    omega (arith, sum_far base (pos c *ℤ step), times_far c step, mul-le-mul {n₂ = most_elements} {m₂ = roomy} few s)

pub run_none : (base step : ℤ) → base ≡ base +ℤ pos 0 *ℤ step
run_none base step = omega (whole, parts_sum base (pos 0 *ℤ step), parts_times 0 step)

pub run_more : (base step : ℤ) (c : ℕ) → base +ℤ pos c *ℤ step +ℤ step ≡ base +ℤ pos (c + 1) *ℤ step
run_more base step c =
    omega (whole, parts_sum base (pos c *ℤ step), parts_times c step, parts_times (c + 1) step, parts_sum (base +ℤ pos c *ℤ step) step, parts_sum base (pos (c + 1) *ℤ step))
