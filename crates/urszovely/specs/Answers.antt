-- What the exported questions promise where the library's promise is a record: some answer that the library allows, in its numbers; and
-- what is left in arrays of registers.
use Rattle.std.specs.Prelude.{ℕ, ◌≡◌, List, [], ◌∷◌, Result, ⊤}
use Rattle.judgement.specs.declared.Approved.{Approved}
use Rattle.mma_kinds.specs.declared.MmaSlot.{MmaSlot}
use Rattle.answers.specs.declared.Refusal.{Refusal}
use Rattle.fragment.specs.declared.Slot.{Slot}
use Rattle.fragment.specs.Fragment.{HolderAnswer, holder_numbers}
use Rattle.fragment.specs.declared.Place.{Place}
use Rattle.card.specs.Admission.{admission_numbers}
use Rattle.idle.specs.Admission.{AdmissionSays}
use Rattle.placement_judged.specs.Placement.{PlacementSays, placement_numbers}
use Rattle.mma_kinds.specs.Mma.{MmaHolderAnswer, mma_holder_numbers}
use Rattle.mma_kinds.specs.declared.MmaPlace.{MmaPlace}
use Rattle.notation.specs.Promise.{ReadSays, read_numbers}
use Rattle.notation.specs.declared.Reading.{Reading}
use Rattle.judgement.specs.Plain.{VerdictSays, OwnerSays}
use Rattle.judgement.specs.Verdict.{verdict_numbers, owner_numbers}
use Rattle.c_bits.specs.declared.Bits.{Bits}
use Rattle.c_bits.specs.Bits.{sort_after, single_after, double_after, entries_after}
use Rattle.c_card.specs.Card.{card_from, four}
use Rattle.c_tuple.specs.Tuple.{tuple_from}
use Rattle.c_layout.specs.Layout.{card_with, mark_bits}

pub record AsHolder (kind : ℕ) (place : Place) (answer : List ℕ) : Type 0 where
  pub holder : Result Slot Refusal
  pub allowed : HolderAnswer kind place holder
  pub numbers : answer ≡ four (holder_numbers holder)

pub record AsMmaHolder (kind : ℕ) (place : MmaPlace) (answer : List ℕ) : Type 0 where
  pub holder : Result MmaSlot Refusal
  pub allowed : MmaHolderAnswer kind place holder
  pub numbers : answer ≡ four (mma_holder_numbers holder)

-- the card with the layout that was read, and its marks
pub record AsReading (text before card marks answer : List ℕ) : Type 0 where
  pub reading : Reading
  pub allowed : ReadSays text reading
  pub of_card : card ≡ card_with reading.layout before
  pub of_marks : marks ≡ mark_bits reading.layout.marks ∷ []
  pub numbers : answer ≡ four (read_numbers reading.answer)

pub record AsAdmission (card : List ℕ) (marks : ℕ) (answer : List ℕ) : Type 0 where
  pub admission : Result ⊤ Refusal
  pub allowed : AdmissionSays (card_from card marks) admission
  pub numbers : answer ≡ four (admission_numbers admission)

pub record AsPlacement (card : List ℕ) (marks : ℕ) (shape coordinates before after answer : List ℕ) : Type 0 where
  pub placement : Result ℕ Refusal
  pub allowed : PlacementSays (card_from card marks) (tuple_from shape) (tuple_from coordinates) before after placement
  pub numbers : answer ≡ four (placement_numbers placement)

pub record AsVerdict (card : List ℕ) (marks : ℕ) (before after answer : List ℕ) : Type 0 where
  pub verdict : Result Approved Refusal
  pub allowed : VerdictSays (card_from card marks) before after verdict
  pub numbers : answer ≡ four (verdict_numbers verdict)

pub record AsOwner (card : List ℕ) (marks : ℕ) (coordinates before after answer : List ℕ) : Type 0 where
  pub owner : Result ℕ Refusal
  pub allowed : OwnerSays (card_from card marks) coordinates before after owner
  pub numbers : answer ≡ four (owner_numbers owner)

-- registers written back to three arrays, as they were and as they are after
pub record RegistersWritten (registers : List (List Bits)) (sorts singles doubles sorts' singles' doubles' : List ℕ) : Type 0 where
  pub of_sorts : sorts' ≡ entries_after sort_after registers sorts
  pub of_singles : singles' ≡ entries_after single_after registers singles
  pub of_doubles : doubles' ≡ entries_after double_after registers doubles
