-- The verdict and the owner of a cell in the documents' words: the order is 1, 2, 3, 4, 5, 6, 17, then the owner's 12, then 11, 7, 8 and the approval.
use Rattle.std.specs.Prelude.{◌≡◌, ◌↔◌, List, ℕ, ◌+◌, ◌≤◌, ◌<◌, length, get_or, take, drop, Result, Err}
use Rattle.answers.specs.declared.Refusal.{Refusal}
use Rattle.judgement.specs.declared.Approved.{Approved}
use Rattle.answers.specs.declared.Cell.{Cell}
use Rattle.answers.specs.declared.Flat.{Flat}
use Rattle.answers.specs.declared.Refusal.TheVariants.{CopyOutside, Shared, TooShort, CellOutside}
use Rattle.card.specs.Card.{elements, copies, cells}
use Rattle.card.specs.declared.Card.{Card}
use Rattle.rules.specs.Rules.{spot}
use Rattle.rules.specs.Reuse.{AreOne}
use Rattle.rules.specs.declared.Spot.{Spot}
use Rattle.rules.specs.declared.Spot.TheVariants.{Inside, Outside}
use Rattle.idle.specs.Admission.{FullChecks}
use Rattle.claims.specs.Claims.{occupied}
use Rattle.judgement.specs.Judgement.{AllInside, FirstOutside}
use Rattle.judgement.specs.Verdict.{cleared, asked_spot, read_entry, approved_with}

-- element f has a copy in cell c
pub record HasCopyIn (card : Card) (f c : ℕ) : Type 0 where
  pub combination : ℕ
  pub below : combination < copies card
  pub there : spot card f combination ≡ Inside (record { 0 = c })

-- f is the smallest of the elements placed in cell c, which are all one with it
pub record SmallestIn (card : Card) (f c : ℕ) : Type 0 where
  pub element : f < elements card
  pub has : HasCopyIn card f c
  pub smallest : (g : ℕ) → g < elements card → HasCopyIn card g c → AreOne card f g × (f ≤ g)

-- two elements that are not one share a cell
pub record ShareCell (card : Card) (x y c : ℕ) : Type 0 where
  pub one : HasCopyIn card x c
  pub other : HasCopyIn card y c
  pub not_one : AreOne card x y → ⊥

-- check 8: the first two, over all elements: the smallest y that shares with a smaller one, the smallest x that shares with it, their smallest cell
pub record FirstShared (card : Card) (x y cell : ℕ) : Type 0 where
  pub element : y < elements card
  pub ordered : x < y
  pub shared : ShareCell card x y cell
  pub smallest_y : (a b c : ℕ) → a < b → b < elements card → ShareCell card a b c → y ≤ b
  pub smallest_x : (a c : ℕ) → a < elements card → ShareCell card a y c → x ≤ a
  pub smallest_cell : (c : ℕ) → ShareCell card x y c → cell ≤ c

-- no two elements that are not one share a cell: where a copy of x and a copy of y lie in one cell, x and y are one
abbrev pub OneClassACell : Card → Type 0
OneClassACell card = (x y r s : ℕ) (c : Cell) → x < elements card → y < elements card → r < copies card → s < copies card
    → spot card x r ≡ Inside c → spot card y s ≡ Inside c → AreOne card x y

-- an approval: elements, occupied cells and cells; the entry of a cell is its owner plus 1, and 0 where it has none; entries past the cells stay
pub record Approval (card : Card) (before after : List ℕ) (verdict : Result Approved Refusal) : Type 0 where
  pub answers : verdict ≡ approved_with (elements card) (occupied (take (cells card) after)) (cells card)
  pub owners : (c f : ℕ) → c < cells card → (get_or after c 0 ≡ f + 1) ↔ SmallestIn card f c
  pub past : drop (cells card) after ≡ drop (cells card) before
  pub as_long : length after ≡ length before

-- 11, which touches nothing; then in a table that is long enough 7 and 8, which leave cells all 0; else the approval
pub record VerdictInTable (card : Card) (before after : List ℕ) (verdict : Result Approved Refusal) : Type 0 where
  pub short : length before < cells card → (verdict ≡ Err (TooShort (cells card))) × (after ≡ before)
  pub outside : (flat : Flat) (axis : ℕ) → cells card ≤ length before → FirstOutside card flat.0 axis
      → (verdict ≡ Err (CopyOutside flat axis)) × (after ≡ cleared card before)
  pub shared : (x y : Flat) (cell : Cell) → cells card ≤ length before → AllInside card → FirstShared card x.0 y.0 cell.0
      → (verdict ≡ Err (Shared x y cell)) × (after ≡ cleared card before)
  pub passed : cells card ≤ length before → AllInside card → OneClassACell card → Approval card before after verdict

-- what the verdict promises of its answer and of the lent table before and after
abbrev pub VerdictSays : Card → List ℕ → List ℕ → Result Approved Refusal → Type 0
VerdictSays card before after verdict =
    FullChecks card (λ refusal. (verdict ≡ Err refusal) × (after ≡ before)) (VerdictInTable card before after verdict)

-- 12 where the asked coordinates name no cell; where they name one, the verdict with its entry read
abbrev pub OwnerAt : Card → List ℕ → List ℕ → Result ℕ Refusal → Spot → Type 0
OwnerAt card before after owner (Outside axis) = (owner ≡ Err (CellOutside axis)) × (after ≡ before)
OwnerAt card before after owner (Inside cell) =
    (verdict : Result Approved Refusal) × VerdictInTable card before after verdict × (owner ≡ read_entry verdict (get_or after cell.0 0))

-- what the owner of a cell promises
abbrev pub OwnerSays : Card → List ℕ → List ℕ → List ℕ → Result ℕ Refusal → Type 0
OwnerSays card coordinates before after owner =
    FullChecks card (λ refusal. (owner ≡ Err refusal) × (after ≡ before)) (OwnerAt card before after owner (asked_spot card coordinates))
