-- A plan checked, and one written, in tables of exactly the cells: each way to end is the definition's case.
use Rattle.std.specs.Prelude.{Err, Ok, Result, ⊤}
use mathlib.Core.Path.{◌≡◌, refl, sym, ap, ◌∙◌}
use mathlib.Core.List.{List, ◌++◌}
use Prim.Native.Nat.{ℕ, zero, suc, ◌*◌, ◌-◌, ◌≤◌, ◌<◌}
use native.Mathlib.Omega.{arith}
use lib.ListN.{length, drop, replicate}
use borrow.Author.Tests.{lt-ltb, le-ltb}
use Rattle.answers.specs.Refusals.{no_refusal}
use Rattle.answers.specs.declared.Refusal.{Refusal}
use Rattle.answers.specs.declared.Cell.{Cell}
use Rattle.answers.specs.declared.Refusal.TheVariants.{TooShort, Plan, Overlap}
use Rattle.claims.specs.Claims.{occupied}
use Rattle.plans.specs.Plans.{carried, first_outside, first_wrong, first_shared, planned}
use Rattle.plans_judged.specs.Endings.{CellsHeld, emptying, checked_by, plan_checked, written_by, plan_written, memory_in}
use Rattle.plans_cells.specs.Clauses.{Ends}

-- the three endings of a plan that is checked
outside_checked : (cells : ℕ) (held second : List ℕ) (n w : ℕ) → 0 < n → checked_by cells held second n w ≡ emptying cells (Err (Plan n (record { 0 = 0 })))
outside_checked cells held second zero w h = absurd (omega arith)
outside_checked cells held second (suc n) w h = refl

wrong_checked : (cells : ℕ) (held second : List ℕ) (n w : ℕ) → n ≡ 0 → 0 < w
    → checked_by cells held second n w ≡ record { answer = Err (Plan 0 (record { 0 = w - 1 })); first = held; second = second }
wrong_checked cells held second (suc n) w e h = absurd (omega arith)
wrong_checked cells held second zero zero e h = absurd (omega arith)
wrong_checked cells held second zero (suc w) e h =
    let same : w ≡ suc w - 1 = omega arith in
    ap (λ (c : ℕ). record { answer = Err (Plan 0 (record { 0 = c })); first = held; second = second }) same

right_checked : (cells : ℕ) (held second : List ℕ) (n w : ℕ) → n ≡ 0 → w ≡ 0
    → checked_by cells held second n w ≡ record { answer = no_refusal; first = held; second = second }
right_checked cells held second (suc n) w e h = absurd (omega arith)
right_checked cells held second zero zero e h = refl
right_checked cells held second zero (suc w) e h = absurd (omega arith)

module _ (plan first second : List ℕ) (alike : length first ≡ length second) where
  abbrev checked : CellsHeld (Result ⊤ Refusal)
  checked = plan_checked (length first) plan first second

  pub copy_outside : {f s : List ℕ} {copy : ℕ} → copy ≡ first_outside (length first) plan → 0 < copy → f ≡ replicate (length first) 0
      → s ≡ replicate (length second) 0 → Ends checked (Err (Plan copy (record { 0 = 0 }))) f s
  copy_outside {f} {s} {copy} e h ef es =
      let is : checked ≡ emptying (length first) (Err (Plan (first_outside (length first) plan) (record { 0 = 0 }))) =
      outside_checked (length first) (carried plan first) second (first_outside (length first) plan) (first_wrong (carried plan first) second) (omega arith) in
      rw is (ap (λ (n : ℕ). Err (Plan n (record { 0 = 0 }))) e, ef, es ∙ ap (λ (n : ℕ). replicate n 0) (sym alike))

  pub ends_wrong : {f : List ℕ} {w : ℕ} → first_outside (length first) plan ≡ 0 → f ≡ carried plan first → w ≡ first_wrong f second → 0 < w
      → Ends checked (Err (Plan 0 (record { 0 = w - 1 }))) f second
  ends_wrong {f} {w} e ef ew h =
      let there : w ≡ first_wrong (carried plan first) second = ew ∙ ap (λ (l : List ℕ). first_wrong l second) ef in
      let is : checked ≡ record { answer = Err (Plan 0 (record { 0 = first_wrong (carried plan first) second - 1 })); first = carried plan first; second = second } =
      wrong_checked (length first) (carried plan first) second (first_outside (length first) plan) (first_wrong (carried plan first) second) e (omega arith) in
      rw is (ap (λ (n : ℕ). Err (Plan 0 (record { 0 = n - 1 }))) there, ef, refl)

  pub ends_right : {f : List ℕ} {w : ℕ} → first_outside (length first) plan ≡ 0 → f ≡ carried plan first → w ≡ first_wrong f second → w ≡ 0
      → Ends checked no_refusal f second
  ends_right {f} {w} e ef ew h =
      let there : w ≡ first_wrong (carried plan first) second = ew ∙ ap (λ (l : List ℕ). first_wrong l second) ef in
      let is : checked ≡ record { answer = no_refusal; first = carried plan first; second = second } =
      right_checked (length first) (carried plan first) second (first_outside (length first) plan) (first_wrong (carried plan first) second) e (omega arith) in
      rw is (refl, ef, refl)

-- and of one that is written
overlap_written : (cells room : ℕ) (first second : List ℕ) (n : ℕ) → 0 < n → written_by cells room first second n ≡ emptying cells (Err (Overlap (record { 0 = n - 1 })))
overlap_written cells room first second zero h = absurd (omega arith)
overlap_written cells room first second (suc n) h =
    let same : n ≡ suc n - 1 = omega arith in ap (λ (c : ℕ). emptying cells (Err (Overlap (record { 0 = c })))) same

short_written : (cells room : ℕ) (first second : List ℕ) (n : ℕ) → n ≡ 0 → room < 2 * occupied second
    → written_by cells room first second n ≡ emptying cells (Err (TooShort (2 * occupied second)))
short_written cells room first second zero e h = rw (lt-ltb room (2 * occupied second) h) refl
short_written cells room first second (suc n) e h = absurd (omega arith)

all_written : (cells room : ℕ) (first second : List ℕ) (n : ℕ) → n ≡ 0 → 2 * occupied second ≤ room
    → written_by cells room first second n ≡ record { answer = Ok (2 * occupied second); first = first; second = second }
all_written cells room first second zero e h = rw (le-ltb room (2 * occupied second) h) refl
all_written cells room first second (suc n) e h = absurd (omega arith)

module _ (memory first second : List ℕ) (alike : length first ≡ length second) where
  abbrev fills : CellsHeld (Result ℕ Refusal)
  fills = plan_written (length first) (length memory) first second

  pub overlaps : {f s : List ℕ} {n : ℕ} → n ≡ first_shared first second → 0 < n → f ≡ replicate (length first) 0 → s ≡ replicate (length second) 0
      → Ends fills (Err (Overlap (record { 0 = n - 1 }))) f s × (memory ≡ memory_in fills memory)
  overlaps {f} {s} {n} e h ef es =
      let is : fills ≡ emptying (length first) (Err (Overlap (record { 0 = first_shared first second - 1 }))) =
      overlap_written (length first) (length memory) first second (first_shared first second) (omega arith) in
      rw is ((ap (λ (m : ℕ). Err (Overlap (record { 0 = m - 1 }))) e, ef, es ∙ ap (λ (m : ℕ). replicate m 0) (sym alike)), refl)

  pub too_few : {f s : List ℕ} {n : ℕ} → first_shared first second ≡ 0 → n ≡ 2 * occupied second → length memory < n → f ≡ replicate (length first) 0
      → s ≡ replicate (length second) 0 → Ends fills (Err (TooShort n)) f s × (memory ≡ memory_in fills memory)
  too_few {f} {s} {n} e count h ef es =
      let is : fills ≡ emptying (length first) (Err (TooShort (2 * occupied second))) =
      short_written (length first) (length memory) first second (first_shared first second) e (omega arith) in
      rw is ((ap (λ (m : ℕ). Err (TooShort m)) count, ef, es ∙ ap (λ (m : ℕ). replicate m 0) (sym alike)), refl)

  pub filled : {m : List ℕ} {n : ℕ} → first_shared first second ≡ 0 → n ≡ 2 * occupied second → n ≤ length memory → m ≡ planned first second ++ drop n memory
      → Ends fills (Ok n) first second × (m ≡ memory_in fills memory)
  filled {m} {n} e count h em =
      let is : fills ≡ record { answer = Ok (2 * occupied second); first = first; second = second } =
      all_written (length first) (length memory) first second (first_shared first second) e (omega arith) in
      rw is ((ap Ok count, refl, refl), em ∙ ap (λ (k : ℕ). planned first second ++ drop k memory) count)
