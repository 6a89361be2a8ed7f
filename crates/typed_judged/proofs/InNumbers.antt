-- Two typed lines in document 01's numbers: 4, then 18, then the verdict's, as the promise has them.
use Rattle.std.specs.Prelude.{Result}
use Prim.Native.Nat.{ℕ}
use mathlib.Core.Path.{◌≡◌, ap}
use mathlib.Core.List.{List}
use lib.ListN.{length, take}
use Rattle.answers.specs.declared.Refusal.{Refusal}
use Rattle.judgement.specs.declared.Approved.{Approved}
use Rattle.answers.specs.Refusals.{answer}
use Rattle.answers.specs.declared.Numbers.{Numbers}
use Rattle.card.specs.Card.{elements, cells}
use Rattle.card.specs.declared.Card.{Card}
use Rattle.claims.specs.Claims.{occupied}
use Rattle.notation.specs.Text.{Correct}
use Rattle.notation.specs.Beginning.{Refused}
use Rattle.notation.specs.Meaning.{layout_of}
use Rattle.typed_lengths.specs.Line.{LineSays}
use Rattle.judgement.specs.Verdict.{verdict_numbers}
use Rattle.judgement.proofs.InNumbers.{InNumbers, verdict_in_numbers}
use Rattle.judgement.proofs.Plain.{verdict_exactly}
use Rattle.typed_judged.specs.Judge.{card_for, JudgePromise}

-- the numbers of two lines, and what is then in the table
pub record JudgeInNumbers (first second before after : List ℕ) (n : Numbers) : Type 0 where
  -- 4 for a first line that does not say eight lengths; the table stays
  pub no_lengths : ((l : List ℕ) → LineSays first l → ⊥) → (n ≡ answer 4 0 0 0) × (after ≡ before)
  -- 18 with the text's longest beginning that some correct text also has; the table stays
  pub no_text : (l : List ℕ) → LineSays first l → (a : ℕ) → Refused Correct second a → (n ≡ answer 18 a 0 0) × (after ≡ before)
  -- else the verdict's on the card of the lengths and of what the text says, without swizzle
  pub judged : (l : List ℕ) → LineSays first l → (c : Correct second)
      → let card : Card = card_for l (layout_of c.says) in
      InNumbers card (length before) n (answer 0 (elements card) (occupied (take (cells card) after)) (cells card))

pub judge_in_numbers : (first second before after : List ℕ) (v : Result Approved Refusal) → JudgePromise first second before after v
    → JudgeInNumbers first second before after (verdict_numbers v)
judge_in_numbers first second before after v p = record {
  no_lengths = λ none. let o = p.no_lengths none in (ap verdict_numbers o.0, o.1);
  no_text = λ l says a r. let o = p.no_text l a says r in (ap verdict_numbers o.0, o.1);
  judged = λ l says c.
      let card : Card = card_for l (layout_of c.says) in
      verdict_in_numbers card before after v ((verdict_exactly card before after v).0 (p.judged l c says));
}
