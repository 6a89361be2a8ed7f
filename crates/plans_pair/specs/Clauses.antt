-- What the functions inside promise each other: what two verdicts come to, and what is left in the tables before a plan is looked at.
use Rattle.std.specs.Prelude.{◌≡◌, Bool, ◌||◌, List, ℕ, length, Result, Err, Ok}
use Rattle.plans_second.specs.declared.Matching.{Matching}
use Rattle.answers.specs.declared.Refusal.{Refusal}
use Rattle.judgement.specs.declared.Approved.{Approved}
use Rattle.card.specs.Card.{cells}
use Rattle.card.specs.declared.Card.{Card}
use Rattle.claims.specs.Claims.{occupied}
use Rattle.judgement.specs.Judgement.{Judgement, ComesTo}
use Rattle.judgement.specs.Verdict.{verdict_of, table_after}
use Rattle.plans_judged.specs.Pair.{marked}
use Rattle.plans_judged.specs.Endings.{CellsHeld, PairPromise}
use Rattle.plans_second.specs.Clauses.{paired_by, matching_with}

-- both verdicts
abbrev pub pairing : Result Approved Refusal → Result Approved Refusal → Bool → Result Matching Refusal
pairing (Ok approval) verdict marks = paired_by verdict marks approval.elements
pairing (Err refusal) verdict marks = Err refusal

-- the second table is judged where the first card is approved, and else stays
abbrev pub if_approved : Result Approved Refusal → List ℕ → List ℕ → List ℕ
if_approved (Ok approval) judged table = judged
if_approved (Err refusal) judged table = table

pub record BothPromise (one two : Card) (first second first-after second-after : List ℕ) (answer : Result Matching Refusal) : Type 0 where
  pub judgement : Judgement
  pub other : Judgement
  pub comes : ComesTo one (length first) judgement
  pub comes_other : ComesTo two (length second) other
  pub answers : answer ≡ pairing (verdict_of one judgement) (verdict_of two other) (marked one || marked two)
  pub leaves : first-after ≡ table_after one judgement first
  pub leaves_other : second-after ≡ if_approved (verdict_of one judgement) (table_after two other second) second

-- both cards are ready, in tables that begin with their owners
abbrev pub both_ready : ℕ → List ℕ → List ℕ → CellsHeld (Result Matching Refusal)
both_ready size first second = record { answer = matching_with size (occupied second); first = first; second = second }

abbrev pub OpenPromise : Card → Card → (first second first-after second-after : List ℕ) → Result Matching Refusal → Type 0
OpenPromise one two = PairPromise one two Err (both_ready (cells one))
