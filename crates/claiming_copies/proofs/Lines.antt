-- The copies of a run as lines: copy r of its elements goes from cell to cell by the run's step, so that line by line the run's elements are claimed.
use mathlib.Core.Path.{◌≡◌, sym, ap, ap₂, ◌∙◌}
use mathlib.Core.Logic.{inl}
use mathlib.Core.List.{List}
use Prim.Native.Nat.{ℕ, ◌+◌, ◌-◌, ◌*◌, ◌≤◌, ◌<◌}
use native.Mathlib.Omega.{arith}
use lib.IntN.{ℤ, pos, nat_abs, ◌+ℤ◌, ◌*ℤ◌}
use lib.ListN.{length, get_or}
use Rattle.laws.proofs.Signed.{sum_far}
use Rattle.card.specs.Card.{elements, copies, cells}
use Rattle.card.specs.Limits.{last_axis}
use Rattle.card.specs.Packed.{swizzle_of, card_of}
use Rattle.card.specs.declared.Card.{Card}
use Rattle.card.proofs.Admitted.{sized}
use Rattle.rules.specs.Rules.{part}
use Rattle.rules_linear.specs.Levels.{level_at, base}
use Rattle.rules_linear.proofs.Cells.{between}
use Rattle.rules_linear.proofs.Times.{no_step}
use Rattle.copies_runs.specs.Clauses.{roomy_level, CellThere}
use Rattle.copies_runs.specs.declared.LevelAndM.{LevelAndM}
use Rattle.claims.specs.Claims.{OwnedTable, occupied}
use Rattle.claiming_lines.specs.Lines.{Lined, Partly, level_after, m_after, line_cell, LineThere}
use Rattle.claiming_lines.proofs.Lines.{lined_as, partly_none, partly_more, partly_all}
use Rattle.judgement.specs.Judgement.{placed}
use Rattle.judgement.proofs.Theorems.{own_copies}
use Rattle.claiming_runs.specs.Clauses.{Copying, Running}
use Rattle.claiming_runs.specs.declared.Run.{Run}
use Rattle.claiming_runs.proofs.Places.{copy_there, cell_is, cell_short, base_near, copy_near}

module _ (numbers : List ℕ) (strides : List ℤ) (start step : LevelAndM) (run : Run) (table₀ : List ℕ) (p : Running numbers strides start step run table₀)
    (levels ms : List ℤ) (adds : Copying (card_of numbers strides) levels ms) where
  abbrev card : Card
  card = card_of numbers strides

  -- copy r
  module _ (r : ℕ) (hr : r < copies card) where
    abbrev pub place : LevelAndM
    place = record { level = start.level +ℤ get_or levels r (pos 0); m = start.m +ℤ get_or ms r (pos 0) }

    level_of : (j : ℕ) → j < run.length
        → level_after place step j ≡ level_at card.lengths (base card (run.first.0 + j)) +ℤ level_at card.lengths (part card.replica r)
    level_of j h =
        between start.level (get_or levels r (pos 0)) (pos j *ℤ step.level)
        ∙ ap₂ (λ (x y : ℤ). x +ℤ y) (p.begins j h).level_is (adds.levels_at r hr)

    m_of : (j : ℕ) → j < run.length → m_after place step j ≡ base card (run.first.0 + j) last_axis +ℤ part card.replica r last_axis
    m_of j h =
        between start.m (get_or ms r (pos 0)) (pos j *ℤ step.m)
        ∙ ap₂ (λ (x y : ℤ). x +ℤ y) (p.begins j h).m_is (adds.ms_at r hr)

    there : (j : ℕ) → j < run.length → CellThere (swizzle_of numbers) (level_after place step j) (m_after place step j)
    there j h = copy_there numbers strides p.admits p.inside (run.first.0 + j) r (p.element j h) hr (level_of j h) (m_of j h)

    pub line_cell_lem : (j : ℕ) → j < run.length → line_cell (swizzle_of numbers) place step j ≡ (placed card).at (run.first.0 + j) r
    line_cell_lem j h =
        let c = there j h in
        let is = c.there ∙ ap (λ (z : ℤ). level_after place step j +ℤ z) (sym c.m_there) in
        sym (ap nat_abs is)
        ∙ cell_is numbers strides p.admits p.inside (run.first.0 + j) r (p.element j h) hr {level = level_after place step j} {m = m_after place step j} c.cell (level_of j h) (m_of j h) is

    pub line_there : 0 < run.length → (table : List ℕ) → length table ≡ cells card → LineThere (swizzle_of numbers) place step run.first.0 run.length table
    line_there some table size = record {
      some = some;
      small =
          let last : run.length - 1 < run.length = omega arith in
          omega (arith, p.element (run.length - 1) last, (sized card p.admits.admitted).most_elements_lem);
      cells = there;
      inside = λ j h.
          omega (arith, line_cell_lem j h, cell_short numbers strides p.admits p.inside (run.first.0 + j) r (p.element j h) hr);
      near = λ j h.
          let n = base_near numbers strides p.admits (run.first.0 + j) (p.begins j h) in
          let a = between start.level (get_or levels r (pos 0)) (pos j *ℤ step.level) in
          let b = between start.m (get_or ms r (pos 0)) (pos j *ℤ step.m) in (
            rw a (omega (arith, sum_far (start.level +ℤ pos j *ℤ step.level) (get_or levels r (pos 0)), n.0, (copy_near numbers strides p.admits adds r hr).0)),
            rw b (omega (arith, sum_far (start.m +ℤ pos j *ℤ step.m) (get_or ms r (pos 0)), n.1, (copy_near numbers strides p.admits adds r hr).1)),
          );
      step_near = p.near;
    }

    -- its line claimed
    pub copies_more : (before after : List ℕ) → Partly (placed card) run.first.0 (λ j. run.first.0 + j) run.length r before
        → Lined (line_cell (swizzle_of numbers) place step) (λ j. run.first.0 + j) run.length before after
        → Partly (placed card) run.first.0 (λ j. run.first.0 + j) run.length (r + 1) after
    copies_more before after was l =
        partly_more (placed card) run.first.0 (λ j. run.first.0 + j) run.length (λ j h. omega arith) (λ i j hi hj e. omega arith) r before after was
        (lined_as (line_cell (swizzle_of numbers) place step) (λ j. (placed card).at (run.first.0 + j) r) (λ j. run.first.0 + j) run.length line_cell_lem l)

  pub copies_none : Partly (placed card) run.first.0 (λ j. run.first.0 + j) run.length 0 table₀
  copies_none = partly_none (placed card) run.first.0 (λ j. run.first.0 + j) run.length (λ j h. omega arith) table₀ p.owned.owners

  -- all copies claimed
  pub copies_all : (table : List ℕ) (newly : ℕ) → length table ≡ cells card → Partly (placed card) run.first.0 (λ j. run.first.0 + j) run.length (copies card) table
      → occupied table ≡ occupied table₀ + newly → OwnedTable (placed card) (run.first.0 + run.length) (cells card) table (occupied table₀ + newly)
  copies_all table newly size is counted = record {
    size = size;
    owners =
        partly_all (placed card) run.first.0 (λ j. run.first.0 + j) run.length (λ j h. omega arith) (copies card) (run.first.0 + run.length)
        (record {
          end = omega arith;
          within = λ j h. omega arith;
          whole = λ j h. own_copies card (run.first.0 + j) (p.leads j h);
          which = λ f from below. inl (f - run.first.0, omega arith, omega arith);
        })
        table is;
    counted = sym counted;
  }

-- a run of some elements begins near
pub start_near : (numbers : List ℕ) (strides : List ℤ) (start step : LevelAndM) (run : Run) (table₀ : List ℕ) → Running numbers strides start step run table₀ → 0 < run.length
    → (nat_abs start.level ≤ roomy_level) × (nat_abs start.m ≤ roomy_level)
start_near numbers strides start step run table₀ p some =
    let n = base_near numbers strides p.admits (run.first.0 + 0) (p.begins 0 some) in
    (rw (no_step start.level step.level) n.0, rw (no_step start.m step.m) n.1)
