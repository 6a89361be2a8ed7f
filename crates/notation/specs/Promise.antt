-- What reading and writing a text promise.
use Rattle.std.specs.Prelude.{ℕ, ◌≡◌, false, List, pos, replicate, Ok, Err, Result, ⊤}
use Rattle.answers.specs.Refusals.{answer, refusal_numbers, numbers_of, just_zero, no_refusal}
use Rattle.answers.specs.declared.Numbers.{Numbers}
use Rattle.answers.specs.declared.Refusal.{Refusal}
use Rattle.answers.specs.declared.Refusal.TheVariants.{Notation as NotCorrect}
use Rattle.card.specs.Card.{none}
use Rattle.card.specs.declared.Iters.{Iters}
use Rattle.notation.specs.Text.{Correct}
use Rattle.notation.specs.Beginning.{Refused}
use Rattle.notation.specs.Meaning.{layout_of}
use Rattle.notation.specs.declared.Layout.{Layout}
use Rattle.notation.specs.declared.Reading.{Reading}

-- a record of zeros
abbrev pub no_iters : Iters
no_iters = record { at = replicate 8 none; count = 0 }

abbrev pub no_layout : Layout
no_layout = record { shard = no_iters; marks = replicate 8 false; replica = no_iters; offset = replicate 8 (pos 0) }

-- what reading promises: the layout that a correct text says; else refusal 18, where a is the length of the longest beginning that some correct text also
-- has, and a record of zeros
pub record ReadSays (text : List ℕ) (r : Reading) : Type 0 where
  pub correct : (c : Correct text) → r ≡ record { answer = no_refusal; layout = layout_of c.says }
  pub wrong : (a : ℕ) → Refused Correct text a → r ≡ record { answer = Err (NotCorrect a); layout = no_layout }

-- at number 0 the details of a reading are zero: its layout stands beside it
abbrev pub read_numbers : Result ⊤ Refusal → Numbers
read_numbers = numbers_of just_zero

-- The same by cases of the answer, for the crates above; nothing from here on has to be believed.
-- accepted exactly when the text is correct, with the layout that it says
pub record Accepted (text : List ℕ) (layout : Layout) : Type 0 where
  pub correct : Correct text
  pub layout_said : layout ≡ layout_of correct.says

-- else refusal 18, where a is the length of the longest beginning that some correct text also has, and a record of zeros
pub record NotAccepted (text : List ℕ) (refusal : Refusal) (layout : Layout) : Type 0 where
  pub a : ℕ
  pub eighteen : refusal ≡ NotCorrect a
  pub longest : Refused Correct text a
  pub zeros : layout ≡ no_layout

abbrev pub Comes : Result ⊤ Refusal → List ℕ → Layout → Type 0
Comes (Ok _) text layout = Accepted text layout
Comes (Err refusal) text layout = NotAccepted text refusal layout

abbrev pub Answered : List ℕ → Reading → Type 0
Answered text r = Comes r.answer text r.layout
