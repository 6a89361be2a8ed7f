-- A row filled by level and m is that of an element's cells: each copy adds its own to where the element begins.
use mathlib.Core.Path.{◌≡◌, sym, ap₂, ◌∙◌}
use mathlib.Core.List.{List}
use Prim.Native.Nat.{ℕ, ◌<◌}
use native.Mathlib.Omega.{arith}
use lib.IntN.{ℤ, pos, ◌+ℤ◌}
use lib.ListN.{length, get_or}
use lib.Seq.{slice, ext_get_or}
use Rattle.card.specs.Limits.{last_axis}
use Rattle.card.specs.Card.{elements, copies}
use Rattle.card.specs.Packed.{card_of, Admits}
use Rattle.card.specs.declared.Card.{Card}
use Rattle.rules.specs.Rules.{part, spot}
use Rattle.rules.specs.Copies.{cells_of, copy_cells}
use Rattle.rules.proofs.Filling.{cells_length, cells_at}
use Rattle.rules_linear.specs.Levels.{level_at, base}
use Rattle.copies_runs.specs.Clauses.{Adds, Fillable, FilledTo}
use Rattle.copies_runs.specs.declared.LevelAndM.{LevelAndM}
use Rattle.judgement.specs.Judgement.{AllInside}
use Rattle.claiming_runs.specs.Clauses.{Rows}
use Rattle.claiming_runs.proofs.Places.{copy_there, cell_is, base_near, copy_near}

-- an element whose copies can be written into a row, and the row then is that of its cells
module _ (numbers : List ℕ) (strides : List ℤ) (place : LevelAndM) (flat : ℕ) (levels ms : List ℤ) (row : List ℕ)
    (a : Admits numbers strides) (inside : AllInside (card_of numbers strides)) (element : flat < elements (card_of numbers strides))
    (begins : Adds (slice 32 40 numbers) (base (card_of numbers strides) flat) place) (rows : Rows (card_of numbers strides) levels ms row) where
  abbrev its : Card
  its = card_of numbers strides

  few : (r : ℕ) → r < length row → r < copies its
  few r h = omega (arith, rows.one_each)

  level_of : (r : ℕ) → r < length row → place.level +ℤ get_or levels r (pos 0) ≡ level_at its.lengths (base its flat) +ℤ level_at its.lengths (part its.replica r)
  level_of r h = ap₂ (λ (x y : ℤ). x +ℤ y) begins.level_is (rows.adds.levels_at r (few r h))

  m_of : (r : ℕ) → r < length row → place.m +ℤ get_or ms r (pos 0) ≡ base its flat last_axis +ℤ part its.replica r last_axis
  m_of r h = ap₂ (λ (x y : ℤ). x +ℤ y) begins.m_is (rows.adds.ms_at r (few r h))

  pub fillable : Fillable numbers place.level place.m levels ms row
  fillable = record {
    whole = a.whole.all_numbers;
    levels_size = rows.adds.levels_size ∙ sym rows.one_each;
    ms_size = rows.adds.ms_size ∙ sym rows.one_each;
    near = (base_near numbers strides a flat begins).0;
    m_near = (base_near numbers strides a flat begins).1;
    levels_near = λ r h. (copy_near numbers strides a rows.adds r (few r h)).0;
    ms_near = λ r h. (copy_near numbers strides a rows.adds r (few r h)).1;
    cells = λ r h. copy_there numbers strides a inside flat r element (few r h) (level_of r h) (m_of r h);
  }

  pub filled_row : {after : List ℕ} → FilledTo numbers place.level place.m levels ms row after (length row) → after ≡ copy_cells its flat
  unfolding copy_cells
  filled_row {after} f =
      ext_get_or 0 after (cells_of (spot its flat) (copies its)) (f.size ∙ rows.one_each ∙ sym (cells_length (spot its flat) (copies its)))
      (λ r h.
      let below : r < length row = omega (arith, f.size) in
      cell_is numbers strides a inside flat r element (few r below) (get_or after r 0) (level_of r below) (m_of r below) (f.cells r below)
      ∙ sym (cells_at (spot its flat) (copies its) r (few r below)))
