-- What a card comes to in a table of so many entries: the order 1, 2, 3, 4, 5, 6, 17, 11, 7, 8 of document 01 with document 02's 17.
use Rattle.std.specs.Prelude.{◌≡◌, cond, List, ℕ, ◌≤◌, ◌<◌, eqb, Ok, Err}
use Rattle.answers.specs.Refusals.{no_refusal}
use Rattle.answers.specs.declared.Refusal.{Refusal}
use Rattle.card.specs.Card.{elements, copies, cells}
use Rattle.card.specs.declared.Card.{Card}
use Rattle.rules.specs.Rules.{spot}
use Rattle.rules.specs.Copies.{cell_of}
use Rattle.rules.specs.Reuse.{leader}
use Rattle.rules.specs.declared.Spot.{Spot}
use Rattle.rules.specs.declared.Spot.TheVariants.{Inside, Outside}
use Rattle.idle.specs.Admission.{full_admission}
use Rattle.claims.specs.Claims.{CopiesAt, OwnedTable, FirstClash}

-- where the copies of a card's elements go: an element that is one with a smaller one has none of its own, it is placed with its leader; a copy
-- outside counts as cell 0, so a layout is asked only where every copy lies inside
abbrev pub placed : Card → CopiesAt
placed card =
    record {
      copies = λ flat. cond (eqb (leader card flat) flat) (copies card) 0;
      at = λ flat combination. cell_of (spot card flat combination);
    }

abbrev pub LiesInside : Spot → Type 0
LiesInside (Inside cell) = Unit
LiesInside (Outside axis) = ⊥

-- every copy of every element lies in the space
abbrev pub AllInside : Card → Type 0
AllInside card = (flat combination : ℕ) → flat < elements card → combination < copies card → LiesInside (spot card flat combination)

-- check 7: the smallest flat of which a copy lies outside the space, and the smallest axis for it
pub record FirstOutside (card : Card) (flat axis : ℕ) : Type 0 where
  pub element : flat < elements card
  pub combination : ℕ
  pub copy : combination < copies card
  pub outside : spot card flat combination ≡ Outside axis
  pub smallest_axis : (r other : ℕ) → r < copies card → spot card flat r ≡ Outside other → axis ≤ other
  pub smallest_flat : (f r other : ℕ) → f < elements card → r < copies card → spot card f r ≡ Outside other → flat ≤ f

pub data Judgement : Type 0 where
  NotAdmitted : (refusal : Refusal) → Judgement
  NoRoom : Judgement
  OutsideAt : (flat axis : ℕ) → Judgement
  Clashing : (x y cell : ℕ) → Judgement
  Passed : (owners : List ℕ) (occupied : ℕ) → Judgement

-- checks 1 to 6, 17 and 11 are passed
pub record Judged (card : Card) (room : ℕ) : Type 0 where
  pub admitted : full_admission card ≡ no_refusal
  pub enough : cells card ≤ room

abbrev pub ComesTo : Card → ℕ → Judgement → Type 0
ComesTo card room (NotAdmitted refusal) = full_admission card ≡ Err refusal
ComesTo card room NoRoom = (full_admission card ≡ no_refusal) × (room < cells card)
ComesTo card room (OutsideAt flat axis) = Judged card room × FirstOutside card flat axis
ComesTo card room (Clashing x y cell) = Judged card room × AllInside card × FirstClash (placed card) (elements card) x y cell
ComesTo card room (Passed owners occupied) =
    Judged card room × AllInside card × OwnedTable (placed card) (elements card) (cells card) owners occupied
