-- Two outcomes that a promise to C allows are equal, memory and all four numbers: the library's own answer is settled.
use Rattle.std.specs.Prelude.{Result, ⊤}
use Prim.Native.Nat.{ℕ}
use mathlib.Core.Path.{◌≡◌, sym, ap, ◌∙◌, subst}
use mathlib.Core.List.{List, [], ◌∷◌}
use Rattle.judgement.specs.declared.Approved.{Approved}
use Rattle.mma_kinds.specs.declared.MmaSlot.{MmaSlot}
use Rattle.answers.specs.declared.Refusal.{Refusal}
use Rattle.fragment.specs.declared.Slot.{Slot}
use Rattle.fragment.specs.Fragment.{holder_numbers}
use Rattle.fragment.specs.declared.Place.{Place}
use Rattle.fragment.proofs.Theorems.{holder_settled}
use Rattle.card.specs.Admission.{admission_numbers}
use Rattle.card.specs.declared.Card.{Card}
use Rattle.idle.proofs.Theorems.{full_admission_settled}
use Rattle.placement_judged.specs.Placement.{placement_numbers, PlacementSays, Placing}
use Rattle.placement_judged.specs.declared.Tuple.{Tuple}
use Rattle.mma_kinds.specs.Mma.{mma_holder_numbers}
use Rattle.mma_kinds.specs.declared.MmaPlace.{MmaPlace}
use Rattle.mma_kinds.proofs.Theorems.{mma_holder_settled}
use Rattle.placement_judged.proofs.Theorems.{placement_settled, placement_exactly}
use Rattle.notation.specs.Promise.{read_numbers}
use Rattle.notation.specs.declared.Reading.{Reading}
use Rattle.notation.proofs.Carried.{read_says_settled}
use Rattle.judgement.specs.Plain.{OwnerSays}
use Rattle.judgement.specs.Verdict.{verdict_numbers, owner_numbers}
use Rattle.judgement.proofs.Plain.{verdict_says_settled, owner_says_settled}
use Rattle.c_bits.specs.declared.Bits.{Bits}
use Rattle.c_card.specs.Card.{card_from, four}
use Rattle.c_tuple.specs.Tuple.{tuple_from}
use Rattle.c_layout.specs.Layout.{card_with, mark_bits}
use Rattle.urszovely.specs.Answers.{AsHolder, AsReading, AsAdmission, AsPlacement, AsVerdict, AsOwner, RegistersWritten, AsMmaHolder}

pub as_holder_settled : (kind : ℕ) (place : Place) (x y : List ℕ) → AsHolder kind place x → AsHolder kind place y → x ≡ y
as_holder_settled kind place x y h k =
    h.numbers ∙ ap (λ (r : Result Slot Refusal). four (holder_numbers r)) (holder_settled kind place h.holder k.holder h.allowed k.allowed) ∙ sym k.numbers

pub as_admission_settled : (card : List ℕ) (marks : ℕ) (x y : List ℕ) → AsAdmission card marks x → AsAdmission card marks y → x ≡ y
as_admission_settled card marks x y h k =
    h.numbers
    ∙ ap (λ (a : Result ⊤ Refusal). four (admission_numbers a)) (full_admission_settled (card_from card marks) h.admission k.admission h.allowed k.allowed)
    ∙ sym k.numbers

pub as_mma_holder_settled : (kind : ℕ) (place : MmaPlace) (x y : List ℕ) → AsMmaHolder kind place x → AsMmaHolder kind place y → x ≡ y
as_mma_holder_settled kind place x y h k =
    h.numbers ∙ ap (λ (r : Result MmaSlot Refusal). four (mma_holder_numbers r)) (mma_holder_settled kind place h.holder k.holder h.allowed k.allowed) ∙ sym k.numbers

pub as_placement_settled : (card : List ℕ) (marks : ℕ) (shape coordinates before a b x y : List ℕ) → AsPlacement card marks shape coordinates before a x
    → AsPlacement card marks shape coordinates before b y → (a ≡ b) × (x ≡ y)
as_placement_settled card marks shape coordinates before a b x y h k =
    let same = placement_settled (card_from card marks) (tuple_from shape) (tuple_from coordinates) before a b h.placement k.placement h.allowed k.allowed in
    (same.1, h.numbers ∙ ap (λ (p : Result ℕ Refusal). four (placement_numbers p)) same.0 ∙ sym k.numbers)

pub as_reading_settled : (text before a b m n x y : List ℕ) → AsReading text before a m x → AsReading text before b n y → (a ≡ b) × (m ≡ n) × (x ≡ y)
as_reading_settled text before a b m n x y h k =
    let same = read_says_settled text h.reading k.reading h.allowed k.allowed in (
      h.of_card ∙ ap (λ (r : Reading). card_with r.layout before) same ∙ sym k.of_card,
      h.of_marks ∙ ap (λ (r : Reading). mark_bits r.layout.marks ∷ []) same ∙ sym k.of_marks,
      h.numbers ∙ ap (λ (r : Reading). four (read_numbers r.answer)) same ∙ sym k.numbers,
    )

pub as_verdict_settled : (card : List ℕ) (marks : ℕ) (before a b x y : List ℕ) → AsVerdict card marks before a x → AsVerdict card marks before b y → (a ≡ b) × (x ≡ y)
as_verdict_settled card marks before a b x y h k =
    let same = verdict_says_settled (card_from card marks) before a b h.verdict k.verdict h.allowed k.allowed in
    (same.0, h.numbers ∙ ap (λ (v : Result Approved Refusal). four (verdict_numbers v)) same.1 ∙ sym k.numbers)

pub as_owner_settled : (card : List ℕ) (marks : ℕ) (coordinates before a b x y : List ℕ) → AsOwner card marks coordinates before a x → AsOwner card marks coordinates before b y
    → (a ≡ b) × (x ≡ y)
as_owner_settled card marks coordinates before a b x y h k =
    let same = owner_says_settled (card_from card marks) coordinates before a b h.owner k.owner h.allowed k.allowed in
    (same.0, h.numbers ∙ ap (λ (v : Result ℕ Refusal). four (owner_numbers v)) same.1 ∙ sym k.numbers)

-- what is promised of a card is promised of the same card, made another way
pub owner_between : (one two : Card) (coordinates before after : List ℕ) (o : Result ℕ Refusal) → one ≡ two → OwnerSays one coordinates before after o
    → OwnerSays two coordinates before after o
owner_between one two coordinates before after o e p = subst (λ (card : Card). OwnerSays card coordinates before after o) e p

pub placed_between : (one two : Card) (shape shape' coordinates coordinates' : Tuple) (before after : List ℕ) (p : Result ℕ Refusal) → one ≡ two → shape ≡ shape'
    → coordinates ≡ coordinates' → Placing one shape coordinates before after p → PlacementSays two shape' coordinates' before after p
placed_between one two shape shape' coordinates coordinates' before after p e f g h =
    (placement_exactly two shape' coordinates' before after p).1
    (subst (λ (card : Card). Placing card shape' coordinates' before after p) e
    (subst (λ (t : Tuple). Placing one t coordinates' before after p) f (subst (λ (t : Tuple). Placing one shape t before after p) g h)))

pub written_settled : (registers : List (List Bits)) (sorts singles doubles s t x y v w : List ℕ)
    → RegistersWritten registers sorts singles doubles s x v → RegistersWritten registers sorts singles doubles t y w → (s ≡ t) × (x ≡ y) × (v ≡ w)
written_settled registers sorts singles doubles s t x y v w h k = (h.of_sorts ∙ sym k.of_sorts, h.of_singles ∙ sym k.of_singles, h.of_doubles ∙ sym k.of_doubles)
