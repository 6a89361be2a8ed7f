-- What the functions promise of the second card: what its verdict comes to beside the first's, and what it leaves in its table.
use Rattle.std.specs.Prelude.{◌≡◌, Bool, cond, not, ◌||◌, List, ℕ, eqb, length, Result, Err, Ok}
use Rattle.plans_second.specs.declared.Matching.{Matching}
use Rattle.answers.specs.declared.Refusal.{Refusal}
use Rattle.judgement.specs.declared.Approved.{Approved}
use Rattle.answers.specs.declared.Refusal.TheVariants.{Limits, Shape}
use Rattle.card.specs.declared.Card.{Card}
use Rattle.judgement.specs.Judgement.{Judgement, ComesTo}
use Rattle.judgement.specs.Verdict.{verdict_of, table_after}
use Rattle.plans_judged.specs.Pair.{marked}

-- two layouts that match: their cells, and how many of them the second occupies
abbrev pub matching_with : ℕ → ℕ → Result Matching Refusal
matching_with cells occupied = Ok (record { cells = cells; occupied = occupied })

-- the second verdict, where the first approved so many elements
abbrev pub paired_by : Result Approved Refusal → Bool → ℕ → Result Matching Refusal
paired_by (Ok approval) marks first = cond marks (Err Limits) (cond (not (eqb first approval.elements)) (Err Shape) (matching_with approval.cells approval.occupied))
paired_by (Err refusal) marks n = Err refusal

pub record OtherPromise (one two : Card) (n : ℕ) (second second-after : List ℕ) (answer : Result Matching Refusal) : Type 0 where
  pub other : Judgement
  pub comes_other : ComesTo two (length second) other
  pub answers : answer ≡ paired_by (verdict_of two other) (marked one || marked two) n
  pub leaves_other : second-after ≡ table_after two other second
