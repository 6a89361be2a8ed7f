-- The verdict and the owner run, so that loads compute. Nothing here has to be believed: proofs/Run.antt shows that a run comes to the one
-- judgement that Judgement.antt allows.
use Rattle.std.specs.Prelude.{Bool, true, false, List, ℕ, zero, suc, ◌+◌, leb, Result, ⊤, Ok, Err}
use Rattle.answers.specs.declared.Refusal.{Refusal}
use Rattle.card.specs.Card.{elements, copies, cells}
use Rattle.card.specs.declared.Card.{Card}
use Rattle.rules.specs.Rules.{spot}
use Rattle.rules.specs.declared.Spot.{Spot}
use Rattle.rules.specs.declared.Spot.TheVariants.{Inside, Outside}
use Rattle.idle.specs.Admission.{full_admission}
use Rattle.claims.specs.Outcome.{Outcome, Owned, Clash}
use Rattle.claims.specs.Rows.{min_some}
use Rattle.claims.specs.Run.{run}
use Rattle.judgement.specs.Judgement.{placed, Judgement, NotAdmitted, NoRoom, OutsideAt, Clashing, Passed}
use Rattle.judgement.specs.Verdict.{asked_spot, OwnerJudgement, NoCell, ByVerdict}

-- the axis on which a spot lies outside, plus 1, and 0 inside
abbrev pub axis_entry : Spot → ℕ
axis_entry (Inside cell) = 0
axis_entry (Outside axis) = axis + 1

-- the smallest of so many copies, 0 where all lie inside
abbrev pub axis_met : (ℕ → Spot) → ℕ → ℕ
axis_met at zero = 0
axis_met at (suc r) = min_some (axis_met at r) (axis_entry (at r))

abbrev pub claimed : Outcome → Judgement
claimed (Owned table count) = Passed table count
claimed (Clash x y cell) = Clashing x y cell

-- look for a copy outside of so many elements, from a flat on, and then claim
abbrev pub judge_from : Card → ℕ → ℕ → Judgement
judge_from card zero flat = claimed (run (placed card) (elements card) (cells card))
judge_from card (suc left) flat =
    elim (axis_met (spot card flat) (copies card)) [ zero ↦ judge_from card left (flat + 1) | suc axis ↦ OutsideAt flat axis ]

abbrev pub judge_with : Card → Bool → Judgement
judge_with card true = judge_from card (elements card) 0
judge_with card false = NoRoom

abbrev pub judge_after : Card → ℕ → Result ⊤ Refusal → Judgement
judge_after card room (Ok _) = judge_with card (leb (cells card) room)
judge_after card room (Err refusal) = NotAdmitted refusal

-- what a card comes to in a table of so many entries
abbrev pub judge : Card → ℕ → Judgement
judge card room = judge_after card room (full_admission card)

abbrev pub owner_at : Card → ℕ → Spot → OwnerJudgement
owner_at card room (Inside cell) = ByVerdict (judge card room)
owner_at card room (Outside axis) = NoCell axis

abbrev pub owner_after : Card → List ℕ → ℕ → Result ⊤ Refusal → OwnerJudgement
owner_after card coordinates room (Ok _) = owner_at card room (asked_spot card coordinates)
owner_after card coordinates room (Err refusal) = ByVerdict (NotAdmitted refusal)

-- and what asking for the owner of a cell comes to
abbrev pub owner_run : Card → List ℕ → ℕ → OwnerJudgement
owner_run card coordinates room = owner_after card coordinates room (full_admission card)
