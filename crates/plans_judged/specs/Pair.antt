-- Two cards in one space and two lent tables, before a plan is looked at: document 02's request 13, its checks in their order. 4 and 11 touch nothing;
-- any refusal after them empties the cells of both tables.
use Rattle.std.specs.Prelude.{Bool, true, false, cond, not, ◌&&◌, ◌||◌, List, [], ◌∷◌, ℕ, eqb, ltb, Result, Ok, Err}
use Rattle.judgement.specs.declared.Approved.{Approved}
use Rattle.answers.specs.declared.Refusal.{Refusal}
use Rattle.answers.specs.declared.Refusal.TheVariants.{Limits, Space, Shape, TooShort}
use Rattle.card.specs.Lists.{same}
use Rattle.card.specs.Card.{elements, cells, marks_of}
use Rattle.card.specs.Admission.{space_fits}
use Rattle.card.specs.declared.Card.{Card}
use Rattle.judgement.specs.Judgement.{Judgement, NotAdmitted, NoRoom, OutsideAt, Clashing, Passed}
use Rattle.judgement.specs.Verdict.{verdict_of}

-- one space: the lengths are the same, and they pass check 4
abbrev pub one_space : List ℕ → List ℕ → Bool
one_space one two = same one two && space_fits one

-- a shard iter carries a reuse mark; marks past the count are ignored
abbrev pub any_mark : List Bool → Bool
any_mark [] = false
any_mark (mark ∷ marks) = mark || any_mark marks

abbrev pub marked : Card → Bool
marked card = any_mark (marks_of card)

-- what the two cards come to: refused with nothing touched, refused with the cells of both tables emptied, or both approved, each with its owners
pub data Opening : Type 0 where
  Untouched : (refusal : Refusal) → Opening
  Emptied : (refusal : Refusal) → Opening
  Ready : (first second : List ℕ) → Opening

-- a card that is not approved is refused by its verdict's own number and details
abbrev pub after_verdict : Result Approved Refusal → Opening → Opening
after_verdict (Ok approval) then = then
after_verdict (Err refusal) then = Emptied refusal

-- both approved, the first judged first; no reuse mark on either; equally many elements; then the owners of both
abbrev pub after_verdicts : Card → Card → Result Approved Refusal → Result Approved Refusal → List ℕ → List ℕ → Opening
after_verdicts one two verdict other first second =
    after_verdict verdict
    (after_verdict other
    (cond (marked one || marked two) (Emptied Limits)
    (cond (not (eqb (elements one) (elements two))) (Emptied Shape)
    (Ready first second))))

-- the space, then the two tables of so many entries
abbrev pub opening_of : Card → Card → ℕ → ℕ → Opening → Opening
opening_of one two room other then =
    cond (not (one_space one.lengths two.lengths)) (Untouched Space)
    (cond (ltb room (cells one) || ltb other (cells one)) (Untouched (TooShort (cells one)))
    then)

-- The same by two judgements, for the crates above; nothing from here on has to be believed.
-- the owners that a judgement leaves in the cells
abbrev pub owners_of : Judgement → List ℕ
owners_of (NotAdmitted refusal) = []
owners_of NoRoom = []
owners_of (OutsideAt flat axis) = []
owners_of (Clashing x y cell) = []
owners_of (Passed owners count) = owners

abbrev pub after_both : Card → Card → Judgement → Judgement → Opening
after_both one two j k = after_verdicts one two (verdict_of one j) (verdict_of two k) (owners_of j) (owners_of k)

abbrev pub opening : Card → Card → ℕ → ℕ → Judgement → Judgement → Opening
opening one two room other j k = opening_of one two room other (after_both one two j k)
