-- The promise on two lines settles the answer: each line is read in one way, and the verdict on a card is one.
use Rattle.std.specs.Prelude.{Result, ⊤, Ok, Err}
use Prim.Native.Nat.{ℕ}
use mathlib.Core.Path.{◌≡◌, refl, sym, ap, ◌∙◌, subst, subst⁻¹}
use mathlib.Core.Logic.{◌↔◌}
use mathlib.Core.Bool.{Bool, true, false}
use mathlib.Core.List.{List}
use lib.ListN.{replicate}
use Rattle.answers.specs.Refusals.{no_refusal}
use Rattle.judgement.specs.declared.Approved.{Approved}
use Rattle.answers.specs.declared.Refusal.{Refusal}
use Rattle.answers.specs.declared.Numbers.{Numbers}
use Rattle.answers.specs.declared.Refusal.TheVariants.{Notation as NotCorrect}
use Rattle.notation.specs.Meaning.{layout_of}
use Rattle.notation.specs.Machine.{runs, read_run}
use Rattle.notation.specs.Promise.{no_layout, Comes, Answered}
use Rattle.notation.specs.declared.Layout.{Layout}
use Rattle.notation.specs.declared.Reading.{Reading}
use Rattle.notation.proofs.Theorems.{read_settled}
use Rattle.notation.proofs.Carried.{run_answers}
use Rattle.typed_lengths.specs.declared.LineOfLengths.{LineOfLengths}
use Rattle.typed_lengths.specs.Line.{LengthsCome as LineComes, LengthsAnswered as LineAnswered}
use Rattle.typed_lengths.specs.Machine.{line_start, line_stepped, line_concluded}
use Rattle.typed_lengths.proofs.Run.{answered, line_settled}
use Rattle.judgement.specs.Verdict.{verdict_numbers}
use Rattle.judgement.specs.Plain.{VerdictSays}
use Rattle.judgement.proofs.Plain.{verdict_says_settled}
use Rattle.typed_judged.specs.Judge.{card_for, TypedOutcome, JudgePromise, JudgeRead, JudgedAs}

outcome_settled : (correct : Bool) (read : Result ⊤ Refusal) (lengths : List ℕ) (layout : Layout) (before a b : List ℕ) (v w : Result Approved Refusal)
    → TypedOutcome (record { correct = correct; lengths = lengths }) (record { answer = read; layout = layout }) before a v
    → TypedOutcome (record { correct = correct; lengths = lengths }) (record { answer = read; layout = layout }) before b w → (a ≡ b) × (v ≡ w)
outcome_settled true (Ok _) lengths layout before a b v w h k = verdict_says_settled (card_for lengths layout) before a b v w h k
outcome_settled true (Err refusal) lengths layout before a b v w h k = (h.1 ∙ sym k.1, h.0 ∙ sym k.0)
outcome_settled false (Ok _) lengths layout before a b v w h k = (h.1 ∙ sym k.1, h.0 ∙ sym k.0)
outcome_settled false (Err refusal) lengths layout before a b v w h k = (h.1 ∙ sym k.1, h.0 ∙ sym k.0)

-- each line is read in one way
read_once : (first second before a b : List ℕ) (v w : Result Approved Refusal) → JudgeRead first second before a v → JudgeRead first second before b w → (a ≡ b) × (v ≡ w)
read_once first second before a b v w h k =
    let line : h.line ≡ k.line = line_settled first h.line k.line h.line_read k.line_read in
    let reading : h.reading ≡ k.reading = read_settled second h.reading k.reading h.text_read k.text_read in
    let same : TypedOutcome h.line h.reading before b w = subst⁻¹ (λ (x : LineOfLengths). TypedOutcome x h.reading before b w) line (subst⁻¹ (λ (x : Reading). TypedOutcome k.line x before b w) reading k.outcome) in
    outcome_settled h.line.correct h.reading.answer h.line.lengths h.reading.layout before a b v w h.outcome same

-- what the promise says of two lines is what they are read as, and the other way round
module _ (first second before after : List ℕ) (v : Result Approved Refusal) where
  by_reading : JudgePromise first second before after v → (x : Bool) (l : List ℕ) (y : Result ⊤ Refusal) (m : Layout) → LineComes x first l → Comes y second m
      → TypedOutcome (record { correct = x; lengths = l }) (record { answer = y; layout = m }) before after v
  by_reading p true l (Ok _) m c d =
      subst⁻¹ (λ (k : Layout). VerdictSays (card_for l k) before after v) d.layout_said (p.judged l d.correct c)
  by_reading p true l (Err refusal) m c d = let q = p.no_text l d.a c d.longest in (q.0 ∙ ap Err (sym d.eighteen), q.1)
  by_reading p false l y m c d = p.no_lengths c.0

  from_reading : JudgeRead first second before after v → JudgePromise first second before after v
  from_reading p = record {
    no_lengths = λ none. outcome (record { correct = false; lengths = replicate 8 0 }) p.reading (line_is _ (none, refl)) refl;
    no_text = λ l a says r.
        outcome (record { correct = true; lengths = l }) _ (line_is _ says)
        (text_is (record { answer = Err (NotCorrect a); layout = no_layout }) (record { a = a; eighteen = refl; longest = r; zeros = refl }));
    judged = λ l c says.
        outcome (record { correct = true; lengths = l }) _ (line_is _ says)
        (text_is (record { answer = no_refusal; layout = layout_of c.says }) (record { correct = c; layout_said = refl }));
  }
    where
      line_is : (x : LineOfLengths) → LineAnswered first x → p.line ≡ x
      line_is x a = line_settled first p.line x p.line_read a

      text_is : (x : Reading) → Answered second x → p.reading ≡ x
      text_is x a = read_settled second p.reading x p.text_read a

      outcome : (x : LineOfLengths) (y : Reading) → p.line ≡ x → p.reading ≡ y → TypedOutcome x y before after v
      outcome x y e f = subst (λ (z : LineOfLengths). TypedOutcome z y before after v) e (subst (λ (z : Reading). TypedOutcome p.line z before after v) f p.outcome)

  pub judge_exactly : JudgePromise first second before after v ↔ JudgeRead first second before after v
  judge_exactly = (
    λ p.
        let line = line_concluded (runs line_stepped line_start first) in
        record {
          line = line;
          line_read = answered first;
          reading = read_run second;
          text_read = run_answers second;
          outcome = by_reading p line.correct line.lengths (read_run second).answer (read_run second).layout (answered first) (run_answers second);
        },
    from_reading,
  )

-- two outcomes that the promise allows are equal
pub judge_settled : (first second before a b : List ℕ) (v w : Result Approved Refusal) → JudgePromise first second before a v → JudgePromise first second before b w → (a ≡ b) × (v ≡ w)
judge_settled first second before a b v w h k =
    read_once first second before a b v w ((judge_exactly first second before a v).0 h) ((judge_exactly first second before b w).0 k)

-- so what the program says to two lines is one
pub said_settled : (first second : List ℕ) (entries : ℕ) (m n : Numbers) → JudgedAs first second entries m → JudgedAs first second entries n → m ≡ n
said_settled first second entries m n p q =
    p.numbered
    ∙ ap verdict_numbers (judge_settled first second (replicate entries 0) p.after q.after p.verdict q.verdict p.promised q.promised).1
    ∙ sym q.numbered
