-- What the functions inside promise each other: a verdict, and one entry read of the table after it.
use Rattle.std.specs.Prelude.{◌≡◌, List, ℕ, length, get_or, Result}
use Rattle.answers.specs.declared.Refusal.{Refusal}
use Rattle.card.specs.declared.Card.{Card}
use Rattle.judgement.specs.Judgement.{Judgement, ComesTo}
use Rattle.judgement.specs.Verdict.{verdict_of, table_after, read_entry}

-- the verdict, and one entry read of the table after it
pub record ReadAt (card : Card) (cell : ℕ) (before after : List ℕ) (owner : Result ℕ Refusal) : Type 0 where
  pub judgement : Judgement
  pub comes : ComesTo card (length before) judgement
  pub answers : owner ≡ read_entry (verdict_of card judgement) (get_or (table_after card judgement before) cell 0)
  pub leaves : after ≡ table_after card judgement before
