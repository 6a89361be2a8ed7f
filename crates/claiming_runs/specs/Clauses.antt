-- What the functions that claim promise each other: a run of elements that lead, what each of their copies adds, and a table of exactly the cells. Nothing here has to be believed.
use Rattle.std.specs.Prelude.{◌≡◌, List, ℕ, ◌+◌, ◌*◌, ◌≤◌, ◌<◌, ℤ, pos, nat_abs, ◌+ℤ◌, ◌*ℤ◌, length}
use Rattle.std.proofs.Math.Seq.{slice}
use Rattle.card.specs.Card.{elements, copies, cells}
use Rattle.card.specs.Packed.{card_of, Admits}
use Rattle.card.specs.declared.Card.{Card}
use Rattle.rules.specs.Rules.{part}
use Rattle.rules.specs.Reuse.{leader}
use Rattle.rules_linear.specs.Levels.{base}
use Rattle.copies_runs.specs.Clauses.{roomy_level, Adds, CopiesTo}
use Rattle.copies_runs.specs.declared.LevelAndM.{LevelAndM}
use Rattle.claims.specs.Claims.{OwnedTable, occupied}
use Rattle.judgement.specs.Judgement.{placed, AllInside}
use Rattle.claiming_runs.specs.declared.Run.{Run}

-- an element can be claimed: every copy of every element lies in the space, the element leads, and the table has exactly the cells
pub record Claimable (card : Card) (flat : ℕ) (table : List ℕ) : Type 0 where
  pub inside : AllInside card
  pub element : flat < elements card
  pub leads : leader card flat ≡ flat
  pub size : length table ≡ cells card

-- what each copy adds
abbrev pub Copying : Card → List ℤ → List ℤ → Type 0
Copying card levels ms = CopiesTo card (copies card) (copies card) levels ms

-- what each copy adds, and a row as long as the copies
pub record Rows (card : Card) (levels ms : List ℤ) (row : List ℕ) : Type 0 where
  pub adds : Copying card levels ms
  pub one_each : length row ≡ copies card

-- a run of elements that lead, each of which begins by so many steps after the first, and the table of the smaller elements
pub record Running (numbers : List ℕ) (strides : List ℤ) (start step : LevelAndM) (run : Run) (table : List ℕ) : Type 0 where
  pub admits : Admits numbers strides
  pub inside : AllInside (card_of numbers strides)
  pub element : (c : ℕ) → c < run.length → run.first.0 + c < elements (card_of numbers strides)
  pub leads : (c : ℕ) → c < run.length → leader (card_of numbers strides) (run.first.0 + c) ≡ run.first.0 + c
  pub begins : (c : ℕ) → c < run.length
      → Adds (slice 32 40 numbers) (base (card_of numbers strides) (run.first.0 + c))
      (record { level = start.level +ℤ pos c *ℤ step.level; m = start.m +ℤ pos c *ℤ step.m })
  pub near : (nat_abs step.level ≤ roomy_level) × (nat_abs step.m ≤ roomy_level)
  pub owned : OwnedTable (placed (card_of numbers strides)) run.first.0 (cells (card_of numbers strides)) table (occupied table)

-- the elements are runs of this length, in each of which every sum grows by one step, and all elements of a run lead if the first does
pub record RunsBy (card : Card) (long : ℕ) : Type 0 where
  pub some : 1 ≤ long
  pub few : long ≤ elements card
  pub runs : ℕ
  pub whole_runs : elements card ≡ runs * long
  pub goes_on : (q c axis : ℕ) → c < long → base card (q * long + c) axis ≡ base card (q * long) axis +ℤ pos c *ℤ part card.shard 1 axis
  pub lead : (q c : ℕ) → c < long → q * long + c < elements card → leader card (q * long) ≡ q * long → leader card (q * long + c) ≡ q * long + c
  pub alone : (q : ℕ) → q * long < elements card → (leader card (q * long) ≡ q * long → ⊥) → long ≡ 1
