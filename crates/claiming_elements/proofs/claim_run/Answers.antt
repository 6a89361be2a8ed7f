-- `claiming_elements::claim_run` claims one element after the other: with the loop's index added to the first, the table is that of the smaller elements, and level and m
-- are so many steps from where the run began.
use Rattle.std.proofs.Common.{arith, refl, ◌≡◌, ◌∙◌, ◌+◌, ◌<◌, ℕ, List, length}
use lib.IntN.{ℤ, pos, ◌+ℤ◌, ◌*ℤ◌}
use lib.Seq.{slice}
use mir.Syntax.{w64}
use mir.Val.{to_z, of_z, SFits}
use mir.Facts.{to_z-of_z}
use Rattle.card.specs.Card.{cells}
use Rattle.card.specs.Packed.{card_of}
use Rattle.card.proofs.Admitted.{sized}
use Rattle.claims.specs.Claims.{occupied}
use Rattle.rules_linear.specs.Levels.{base}
use Rattle.rules_linear.proofs.Times.{no_step, stepped}
use Rattle.copies_runs.specs.Clauses.{Adds}
use Rattle.copies_runs.specs.declared.LevelAndM.{LevelAndM}
use Rattle.copies_runs.proofs.Cells.{step_fits}
use Rattle.claiming_runs.specs.Clauses.{Claimable, Running}
use Rattle.claiming_runs.specs.declared.Run.{Run}
use Rattle.claiming_runs.proofs.Laws.{row_ready, owned_as}
use Rattle.claiming_runs.proofs.Places.{base_near}
use Rattle.claiming_elements.proofs.Laws.{claims_count, claims_more, claims_met}
use Rattle.claiming_elements.proofs.claim_run.Goals as goal

-- a turn of a run
module _ {numbers : List ℕ} {strides : List ℤ} {start step : LevelAndM} {run : Run} {before : List ℕ} (r : Running numbers strides start step run before) (done : ℕ) (below : done < run.length) where
  abbrev flat : ℕ
  flat = run.first.0 + done

  begins : (level m : ℤ) → level ≡ start.level +ℤ pos done *ℤ step.level → m ≡ start.m +ℤ pos done *ℤ step.m
      → Adds (slice 32 40 numbers) (base (card_of numbers strides) flat) (record { level = level; m = m })
  begins level m e f = let given = r.begins done below in record { level_is = e ∙ given.level_is; m_is = f ∙ given.m_is }

  claimable : (table : List ℕ) → length table ≡ cells (card_of numbers strides) → Claimable (card_of numbers strides) flat table
  claimable table size = record { inside = r.inside; element = r.element done below; leads = r.leads done below; size = size }

  -- a level and an m of the run go one step further
  level_fits : (level m : ℤ) → Adds (slice 32 40 numbers) (base (card_of numbers strides) flat) (record { level = level; m = m }) → SFits w64 (level +ℤ step.level)
  level_fits level m e = step_fits level step.level (omega (arith, (base_near numbers strides r.admits flat e).0)) r.near.0

  m_fits : (level m : ℤ) → Adds (slice 32 40 numbers) (base (card_of numbers strides) flat) (record { level = level; m = m }) → SFits w64 (m +ℤ step.m)
  m_fits level m e = step_fits m step.m (omega (arith, (base_near numbers strides r.admits flat e).1)) r.near.1

pub swizzle_of-by-requires : goal.swizzle_of-by-requires
swizzle_of-by-requires c = c.requires.running.admits.whole.all_numbers

pub loop-done-init : goal.loop-done-init
loop-done-init c =
    let a = c.args in
    let bits : ℤ → ℤ = λ z. to_z w64 (of_z w64 z) in record {
      owned = owned_as (card_of a.numbers.now a.strides.now) (omega arith) (omega arith) c.requires.running.owned;
      level_there = no_step (bits a.start.level) (bits a.step.level);
      m_there = no_step (bits a.start.m) (bits a.step.m);
    }

pub overflow_add-first : goal.overflow_add-first
overflow_add-first c =
    let a = c.args in
    let r = c.requires.running in
    omega (arith, r.element c.loop-done.done (omega arith), (sized (card_of a.numbers.now a.strides.now) r.admits.admitted).most_elements_lem)

pub claim_element-newly-requires : goal.claim_element-newly-requires
claim_element-newly-requires c =
    let a = c.args in
    let l = c.loop-done in
    let level_step_back = to_z-of_z {w = w64} {z = a.step.level} (record { sfits = c.struct_told-2-1.given.0.1 }) in
    let m_step_back = to_z-of_z {w = w64} {z = a.step.m} (record { sfits = c.struct_told-2-1.given.1.0.1 }) in
    let level_is = rw (to_z-of_z {w = w64} {z = a.start.level} (record { sfits = c.struct_told-4-1.given.0.1 }), level_step_back) at l.invariant.level_there in
    let m_is = rw (to_z-of_z {w = w64} {z = a.start.m} (record { sfits = c.struct_told-4-1.given.1.0.1 }), m_step_back) at l.invariant.m_there in
    let here = begins c.requires.running l.done (omega arith) (to_z w64 l.level-bits) (to_z w64 l.m-bits) level_is m_is in
    let r = c.requires.running in record {
      begun = (record { admits = r.admits; claimable = claimable r l.done (omega arith) l.table l.invariant.owned.size; begins = here }, c.swizzle_of-by.ensures);
      rows = record { adds = c.requires.rows.adds; one_each = omega (arith, c.requires.rows.one_each) };
    }

pub returns-then-newly-eq0 : goal.returns-then-newly-eq0
returns-then-newly-eq0 c =
    let a = c.args in
    let l = c.loop-done in
    let none = claims_met (card_of a.numbers.now a.strides.now) (a.run.first.0 + l.done) c.claim_element-newly.result (occupied a.table.now + l.cells) l.invariant.owned (c.requires.running.leads l.done (omega arith)) c.claim_element-newly.ensures (omega arith) in
    record { most = omega arith; owned = rw none.1 l.invariant.owned; met = λ h. none.0 }

pub overflow_add-cells : goal.overflow_add-cells
overflow_add-cells c =
    let a = c.args in
    let l = c.loop-done in
    let few = claims_count (card_of a.numbers.now a.strides.now) (a.run.first.0 + l.done) c.claim_element-newly.result (occupied a.table.now + l.cells) l.invariant.owned (c.requires.running.leads l.done (omega arith)) c.claim_element-newly.ensures (omega (arith, l.invariant.owned.size)) in
    omega (arith, few, (sized (card_of a.numbers.now a.strides.now) c.requires.running.admits.admitted).most_cells_lem)

pub overflow_add-level : goal.overflow_add-level
overflow_add-level c =
    let a = c.args in
    let l = c.loop-done in
    let level_step_back = to_z-of_z {w = w64} {z = a.step.level} (record { sfits = c.struct_told-2-1.given.0.1 }) in
    let m_step_back = to_z-of_z {w = w64} {z = a.step.m} (record { sfits = c.struct_told-2-1.given.1.0.1 }) in
    let level_is = rw (to_z-of_z {w = w64} {z = a.start.level} (record { sfits = c.struct_told-4-1.given.0.1 }), level_step_back) at l.invariant.level_there in
    let m_is = rw (to_z-of_z {w = w64} {z = a.start.m} (record { sfits = c.struct_told-4-1.given.1.0.1 }), m_step_back) at l.invariant.m_there in
    let here = begins c.requires.running l.done (omega arith) (to_z w64 l.level-bits) (to_z w64 l.m-bits) level_is m_is in
    rw level_step_back (level_fits c.requires.running l.done (omega arith) (to_z w64 l.level-bits) (to_z w64 l.m-bits) here)

pub overflow_add-m : goal.overflow_add-m
overflow_add-m c =
    let a = c.args in
    let l = c.loop-done in
    let level_step_back = to_z-of_z {w = w64} {z = a.step.level} (record { sfits = c.struct_told-2-1.given.0.1 }) in
    let m_step_back = to_z-of_z {w = w64} {z = a.step.m} (record { sfits = c.struct_told-2-1.given.1.0.1 }) in
    let level_is = rw (to_z-of_z {w = w64} {z = a.start.level} (record { sfits = c.struct_told-4-1.given.0.1 }), level_step_back) at l.invariant.level_there in
    let m_is = rw (to_z-of_z {w = w64} {z = a.start.m} (record { sfits = c.struct_told-4-1.given.1.0.1 }), m_step_back) at l.invariant.m_there in
    let here = begins c.requires.running l.done (omega arith) (to_z w64 l.level-bits) (to_z w64 l.m-bits) level_is m_is in
    rw m_step_back (m_fits c.requires.running l.done (omega arith) (to_z w64 l.level-bits) (to_z w64 l.m-bits) here)

pub loop-done-preserved : goal.loop-done-preserved
loop-done-preserved c =
    let a = c.args in
    let l = c.loop-done in
    let level_step_back = to_z-of_z {w = w64} {z = a.step.level} (record { sfits = c.struct_told-2-1.given.0.1 }) in
    let m_step_back = to_z-of_z {w = w64} {z = a.step.m} (record { sfits = c.struct_told-2-1.given.1.0.1 }) in
    let level_is = rw (to_z-of_z {w = w64} {z = a.start.level} (record { sfits = c.struct_told-4-1.given.0.1 }), level_step_back) at l.invariant.level_there in
    let m_is = rw (to_z-of_z {w = w64} {z = a.start.m} (record { sfits = c.struct_told-4-1.given.1.0.1 }), m_step_back) at l.invariant.m_there in
    let here = begins c.requires.running l.done (omega arith) (to_z w64 l.level-bits) (to_z w64 l.m-bits) level_is m_is in
    let bits : ℤ → ℤ = λ z. to_z w64 (of_z w64 z) in
    let level_sum : SFits w64 (to_z w64 l.level-bits +ℤ bits a.step.level) = rw level_step_back (level_fits c.requires.running l.done (omega arith) (to_z w64 l.level-bits) (to_z w64 l.m-bits) here) in
    let m_sum : SFits w64 (to_z w64 l.m-bits +ℤ bits a.step.m) = rw m_step_back (m_fits c.requires.running l.done (omega arith) (to_z w64 l.level-bits) (to_z w64 l.m-bits) here) in
    let within = (row_ready (card_of a.numbers.now a.strides.now) (a.run.first.0 + l.done) l.table c.requires.running.admits.admitted (claimable c.requires.running l.done (omega arith) l.table l.invariant.owned.size) refl).within in record {
      owned = owned_as (card_of a.numbers.now a.strides.now) (omega arith) (omega arith) (claims_more (card_of a.numbers.now a.strides.now) (a.run.first.0 + l.done) c.claim_element-newly.result (occupied a.table.now + l.cells) l.invariant.owned (c.requires.running.leads l.done (omega arith)) c.claim_element-newly.ensures within (omega (arith, l.invariant.owned.size)) (omega arith));
      level_there = to_z-of_z level_sum ∙ stepped (bits a.start.level) (bits a.step.level) (to_z w64 l.level-bits) l.done l.invariant.level_there;
      m_there = to_z-of_z m_sum ∙ stepped (bits a.start.m) (bits a.step.m) (to_z w64 l.m-bits) l.done l.invariant.m_there;
    }

pub returns : goal.returns
returns c =
    let l = c.loop-done in
    let end : l.done ≡ c.args.run.length = omega arith in
    record { most = omega arith; owned = rw end at l.invariant.owned; met = λ h. absurd (omega arith) }
