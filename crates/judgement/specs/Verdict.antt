-- The verdict and the owner of a cell: their answers, and what they leave in the lent owner table.
use Rattle.std.specs.Prelude.{◌≡◌, List, ◌++◌, ℕ, length, get_or, drop, replicate, Result, Err, Ok}
use Rattle.answers.specs.declared.Refusal.{Refusal}
use Rattle.judgement.specs.declared.Approved.{Approved}
use Rattle.answers.specs.Refusals.{answer, refusal_numbers, numbers_of, one_detail, no_refusal}
use Rattle.answers.specs.declared.Numbers.{Numbers}
use Rattle.answers.specs.declared.Refusal.TheVariants.{CopyOutside, Shared, TooShort, CellOutside}
use Rattle.card.specs.Card.{elements, cells}
use Rattle.card.specs.declared.Card.{Card}
use Rattle.rules.specs.RowMajor.{position}
use Rattle.rules.specs.Rules.{spot_at}
use Rattle.rules.specs.Copies.{cell_of}
use Rattle.rules.specs.declared.Spot.{Spot}
use Rattle.rules.specs.declared.Spot.TheVariants.{Outside}
use Rattle.idle.specs.Admission.{full_admission}
use Rattle.judgement.specs.Judgement.{LiesInside, Judgement, NotAdmitted, NoRoom, OutsideAt, Clashing, Passed, ComesTo}

-- an approval with its counts
abbrev pub approved_with : ℕ → ℕ → ℕ → Result Approved Refusal
approved_with elements occupied cells = Ok (record { elements = elements; occupied = occupied; cells = cells })

-- the verdict that a judgement is
abbrev pub verdict_of : Card → Judgement → Result Approved Refusal
verdict_of card (NotAdmitted refusal) = Err refusal
verdict_of card NoRoom = Err (TooShort (cells card))
verdict_of card (OutsideAt flat axis) = Err (CopyOutside (record { 0 = flat }) axis)
verdict_of card (Clashing x y cell) = Err (Shared (record { 0 = x }) (record { 0 = y }) (record { 0 = cell }))
verdict_of card (Passed owners occupied) = approved_with (elements card) occupied (cells card)

-- the table after it: the owners, or on 7 and 8 cells all 0; entries past the cells stay; any other refusal touches nothing
abbrev pub cleared : Card → List ℕ → List ℕ
cleared card table = replicate (cells card) 0 ++ drop (cells card) table

abbrev pub table_after : Card → Judgement → List ℕ → List ℕ
table_after card (NotAdmitted refusal) table = table
table_after card NoRoom table = table
table_after card (OutsideAt flat axis) table = cleared card table
table_after card (Clashing x y cell) table = cleared card table
table_after card (Passed owners occupied) table = owners ++ drop (cells card) table

-- the promise of the verdict: what the card comes to, and the answer and the table that follow from it
pub record VerdictPromise (card : Card) (before after : List ℕ) (verdict : Result Approved Refusal) : Type 0 where
  pub judgement : Judgement
  pub comes : ComesTo card (length before) judgement
  pub answers : verdict ≡ verdict_of card judgement
  pub leaves : after ≡ table_after card judgement before

-- the cell that eight coordinates name, or the smallest axis on which they lie outside the space
abbrev pub asked_spot : Card → List ℕ → Spot
asked_spot card coordinates = spot_at (position card.lengths coordinates)

-- the owner adds 12 after 17, and then is the verdict with one entry read
pub data OwnerJudgement : Type 0 where
  NoCell : (axis : ℕ) → OwnerJudgement
  ByVerdict : (judgement : Judgement) → OwnerJudgement

abbrev pub OwnerComesTo : Card → List ℕ → ℕ → OwnerJudgement → Type 0
OwnerComesTo card coordinates room (NoCell axis) = (full_admission card ≡ no_refusal) × (asked_spot card coordinates ≡ Outside axis)
OwnerComesTo card coordinates room (ByVerdict judgement) =
    (full_admission card ≡ no_refusal → LiesInside (asked_spot card coordinates)) × ComesTo card room judgement

abbrev pub read_entry : Result Approved Refusal → ℕ → Result ℕ Refusal
read_entry (Ok approval) entry = Ok entry
read_entry (Err refusal) entry = Err refusal

abbrev pub owner_table_after : Card → OwnerJudgement → List ℕ → List ℕ
owner_table_after card (NoCell axis) table = table
owner_table_after card (ByVerdict judgement) table = table_after card judgement table

abbrev pub owner_of : Card → List ℕ → OwnerJudgement → List ℕ → Result ℕ Refusal
owner_of card coordinates (NoCell axis) table = Err (CellOutside axis)
owner_of card coordinates (ByVerdict judgement) table =
    read_entry (verdict_of card judgement) (get_or (table_after card judgement table) (cell_of (asked_spot card coordinates)) 0)

-- the promise of the owner of a cell
pub record OwnerPromise (card : Card) (coordinates before after : List ℕ) (owner : Result ℕ Refusal) : Type 0 where
  pub judgement : OwnerJudgement
  pub comes : OwnerComesTo card coordinates (length before) judgement
  pub answers : owner ≡ owner_of card coordinates judgement before
  pub leaves : after ≡ owner_table_after card judgement before

-- at number 0 elements, occupied cells, cells; of the owner the entry read
abbrev pub approved_numbers : Approved → Numbers
approved_numbers approval = answer 0 approval.elements approval.occupied approval.cells

abbrev pub verdict_numbers : Result Approved Refusal → Numbers
verdict_numbers = numbers_of approved_numbers

abbrev pub owner_numbers : Result ℕ Refusal → Numbers
owner_numbers = numbers_of one_detail
