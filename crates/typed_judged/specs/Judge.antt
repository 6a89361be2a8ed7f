-- What the program judge says to two lines: the first is judged first, as refusal 4, then the notation, then the card.
use Rattle.std.specs.Prelude.{◌≡◌, Bool, true, false, List, ℕ, take, replicate, Result, Err, ⊤, Ok}
use Rattle.answers.specs.declared.Refusal.{Refusal}
use Rattle.judgement.specs.declared.Approved.{Approved}
use Rattle.answers.specs.declared.Numbers.{Numbers}
use Rattle.answers.specs.declared.Refusal.TheVariants.{Space, Notation as NotCorrect}
use Rattle.card.specs.declared.Card.{Card}
use Rattle.notation.specs.Text.{Correct}
use Rattle.notation.specs.Beginning.{Refused as NotText}
use Rattle.notation.specs.Meaning.{layout_of}
use Rattle.notation.specs.Promise.{Answered as TextAnswered}
use Rattle.notation.specs.declared.Layout.{Layout}
use Rattle.notation.specs.declared.Reading.{Reading}
use Rattle.typed_lengths.specs.Line.{LineSays, LengthsAnswered as LineAnswered}
use Rattle.typed_lengths.specs.declared.LineOfLengths.{LineOfLengths}
use Rattle.judgement.specs.Plain.{VerdictSays}
use Rattle.judgement.specs.Verdict.{verdict_numbers}

-- no swizzle
abbrev pub card_for : List ℕ → Layout → Card
card_for lengths layout = record {
  shard = layout.shard;
  marks = layout.marks;
  replica = layout.replica;
  offset = layout.offset;
  lengths = lengths;
  swizzle = record { m = 0; b = 0; s = 3 };
}

-- the promise: a first line that does not say eight lengths is 4, then a text that is not correct is 18, and the lent table stays; else the card is judged
pub record JudgePromise (first second before after : List ℕ) (verdict : Result Approved Refusal) : Type 0 where
  pub no_lengths : ((l : List ℕ) → LineSays first l → ⊥) → (verdict ≡ Err Space) × (after ≡ before)
  pub no_text : (l : List ℕ) (a : ℕ) → LineSays first l → NotText Correct second a → (verdict ≡ Err (NotCorrect a)) × (after ≡ before)
  pub judged : (l : List ℕ) (c : Correct second) → LineSays first l → VerdictSays (card_for l (layout_of c.says)) before after verdict

-- the program keeps the first 4,096 bytes of a line: as many of its buffer's as the line has, all where it has more
abbrev pub KeptOf : List ℕ → List ℕ → ℕ → Type 0
KeptOf line buffer held = take 4096 line ≡ take held buffer

-- and says the numbers of what the two whole lines come to in a table of zeros
pub record JudgedAs (first second : List ℕ) (entries : ℕ) (n : Numbers) : Type 0 where
  pub after : List ℕ
  pub verdict : Result Approved Refusal
  pub promised : JudgePromise first second (replicate entries 0) after verdict
  pub numbered : n ≡ verdict_numbers verdict

abbrev pub JudgedKept : List ℕ → ℕ → List ℕ → ℕ → Numbers → Type 0
JudgedKept first first-held second second-held n =
    (one two : List ℕ) → KeptOf one first first-held → KeptOf two second second-held → JudgedAs one two 16384 n

-- The same by what is read, for the functions inside; nothing from here on has to be believed.
-- a line that is wrong is refused, and the lent table stays
abbrev pub AfterLengths : Bool → List ℕ → List ℕ → Result Approved Refusal → Type 0 → Type 0
AfterLengths true before after verdict Next = Next
AfterLengths false before after verdict Next = (verdict ≡ Err Space) × (after ≡ before)

abbrev pub AfterText : Result ⊤ Refusal → List ℕ → List ℕ → Result Approved Refusal → Type 0 → Type 0
AfterText (Ok _) before after verdict Next = Next
AfterText (Err refusal) before after verdict Next = (verdict ≡ Err refusal) × (after ≡ before)

abbrev pub TypedOutcome : LineOfLengths → Reading → List ℕ → List ℕ → Result Approved Refusal → Type 0
TypedOutcome line reading before after verdict =
    AfterLengths line.correct before after verdict
    (AfterText reading.answer before after verdict
    (VerdictSays (card_for line.lengths reading.layout) before after verdict))

-- what the two lines are read as, and the verdict and the lent table that follow from it
pub record JudgeRead (first second before after : List ℕ) (verdict : Result Approved Refusal) : Type 0 where
  pub line : LineOfLengths
  pub line_read : LineAnswered first line
  pub reading : Reading
  pub text_read : TextAnswered second reading
  pub outcome : TypedOutcome line reading before after verdict
