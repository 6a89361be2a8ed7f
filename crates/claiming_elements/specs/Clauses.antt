-- What the functions that claim element by element promise each other: where an element begins, and what claiming a run comes to. Nothing here has to be believed.
use Rattle.std.specs.Prelude.{◌≡◌, List, ℕ, ◌+◌, ◌≤◌, ◌<◌, ℤ, replicate}
use Rattle.std.proofs.Math.Seq.{slice}
use Rattle.card.specs.Card.{elements, copies, cells}
use Rattle.card.specs.Packed.{card_of, Admits}
use Rattle.card.specs.declared.Card.{Card}
use Rattle.rules.specs.Copies.{copy_cells}
use Rattle.rules_linear.specs.Levels.{base}
use Rattle.copies_runs.specs.Clauses.{Adds}
use Rattle.copies_runs.specs.declared.LevelAndM.{LevelAndM}
use Rattle.claims.specs.Claims.{OwnedTable, occupied}
use Rattle.claims.specs.Rows.{entry_met}
use Rattle.judgement.specs.Judgement.{placed, AllInside}
use Rattle.claiming_runs.specs.Clauses.{Claimable}
use Rattle.claiming_runs.specs.declared.Run.{Run}
use Rattle.claiming_elements.specs.declared.Claimed.{Claimed}

-- a packed card whose element begins at a place and can be claimed
pub record Begun (numbers : List ℕ) (strides : List ℤ) (place : LevelAndM) (flat : ℕ) (table : List ℕ) : Type 0 where
  pub admits : Admits numbers strides
  pub claimable : Claimable (card_of numbers strides) flat table
  pub begins : Adds (slice 32 40 numbers) (base (card_of numbers strides) flat) place

-- a packed card of one element with one copy, which lies inside, and its cleared cells
pub record OneElement (numbers : List ℕ) (strides : List ℤ) (table : List ℕ) : Type 0 where
  pub admits : Admits numbers strides
  pub inside : AllInside (card_of numbers strides)
  pub one_element : elements (card_of numbers strides) ≡ 1
  pub one_copy : copies (card_of numbers strides) ≡ 1
  pub cleared : table ≡ replicate (cells (card_of numbers strides)) 0

-- what claiming a run comes to: the table of the elements claimed too, and if one was not, it meets an owner
pub record RunClaim (card : Card) (run : Run) (claimed : Claimed) (before after : List ℕ) : Type 0 where
  pub most : claimed.elements ≤ run.length
  pub owned : OwnedTable (placed card) (run.first.0 + claimed.elements) (cells card) after (occupied before + claimed.cells)
  pub met : claimed.elements < run.length → 0 < entry_met after (copy_cells card (run.first.0 + claimed.elements))
