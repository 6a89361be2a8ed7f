-- A line longer than what is kept of it is answered as its beginning is: no line of eight lengths has more than 47 bytes, no correct text more than 352.
use Rattle.std.specs.Prelude.{Result, ⊤, Ok, Err}
use Prim.Native.Nat.{ℕ, ◌*◌, ◌≤◌, ◌<◌}
use mathlib.Core.Path.{◌≡◌, subst, subst⁻¹}
use mathlib.Core.Bool.{Bool, true, false}
use mathlib.Core.List.{List, [], ◌∷◌}
use mathlib.Core.Logic.{⊎_elim}
use native.Mathlib.Omega.{arith}
use lib.ListN.{length, length-append, take}
use lib.Seq.{take-take, take_all, length-take-le}
use Rattle.judgement.specs.declared.Approved.{Approved}
use Rattle.answers.specs.declared.Refusal.{Refusal}
use Rattle.notation.specs.Text.{decimal, Correct}
use Rattle.notation.specs.Beginning.{Begins, Refused}
use Rattle.notation.specs.Promise.{Comes, Answered}
use Rattle.notation.proofs.Long.{decimal_length, correct_length, begins_length}
use Rattle.laws.proofs.Order.{le_or_lt}
use Rattle.notation.specs.declared.Reading.{Reading}
use Rattle.typed_lengths.specs.Line.{LineSays, LengthsCome as LineComes, LengthsAnswered as LineAnswered}
use Rattle.typed_lengths.specs.declared.LineOfLengths.{LineOfLengths}
use Rattle.typed_lengths.proofs.Run.{further, spaced}
use Rattle.typed_judged.specs.Judge.{JudgePromise, JudgeRead}
use Rattle.typed_judged.proofs.Theorems.{judge_exactly}

-- eight lengths
further_length : (ns : List ℕ) → length (further ns) ≤ 6 * length ns
further_length [] = omega arith
further_length (n ∷ ns) = omega (arith, length-append (decimal n) (further ns), decimal_length n, further_length ns)

spaced_length : (ns : List ℕ) → length ns ≡ 8 → length (spaced ns) ≤ 47
spaced_length [] e = omega arith
spaced_length (n ∷ ns) e = omega (arith, length-append (decimal n) (further ns), decimal_length n, further_length ns, e)

-- a line of which more than 47 bytes are kept
pub long_lengths : (t : List ℕ) (k : ℕ) → 47 < k → k ≤ length t → (r : LineOfLengths) → LineAnswered (take k t) r → LineAnswered t r
long_lengths t k some kept r = by r.correct r.lengths
  where
    none : (x l : List ℕ) → LineSays x l → length x ≤ 47
    none x l s = rw s.spelled (spaced_length l s.eight)

    cut : length (take k t) ≡ k
    cut = length-take-le k t kept

    by : (x : Bool) (l : List ℕ) → LineComes x (take k t) l → LineComes x t l
    by true l c = absurd (omega (arith, none (take k t) l c, cut))
    by false l c = ((λ m s. absurd (omega (arith, none t m s))), c.1)

-- a text of which more than 352 bytes are kept
module _ (t : List ℕ) (k : ℕ) (some : 352 < k) (kept : k ≤ length t) where
  cut : length (take k t) ≡ k
  cut = length-take-le k t kept

  long_refused : (a : ℕ) → Refused Correct (take k t) a → Refused Correct t a
  long_refused a r =
      let low : a ≤ k = omega (arith, r.within, cut) in
      record {
        within = omega (arith, r.within, cut);
        begins = subst (λ (x : List ℕ). Begins Correct x) (take-take a k t low) r.begins;
        longest = λ j above in-text b.
            ⊎_elim
            (λ (le : j ≤ k). r.longest j above (omega (arith, cut)) (subst⁻¹ (λ (x : List ℕ). Begins Correct x) (take-take j k t le) b))
            (λ (gt : k < j). absurd (omega (arith, begins_length (take j t) b, length-take-le j t in-text)))
            (le_or_lt j k);
        incorrect = λ c. absurd (omega (arith, correct_length t c));
      }

  pub long_text : (r : Reading) → Answered (take k t) r → Answered t r
  long_text r = by r.answer
    where
      by : (x : Result ⊤ Refusal) → Comes x (take k t) r.layout → Comes x t r.layout
      by (Ok _) c = absurd (omega (arith, correct_length (take k t) c.correct, cut))
      by (Err refusal) c = record { a = c.a; eighteen = c.eighteen; longest = long_refused c.a c.longest; zeros = c.zeros }

-- two lines of which so many bytes are kept
read_kept : (first second before after : List ℕ) (verdict : Result Approved Refusal) (k : ℕ) → 352 < k → JudgeRead (take k first) (take k second) before after verdict
    → JudgeRead first second before after verdict
read_kept first second before after verdict k some p =
    record {
      line = p.line;
      line_read =
          ⊎_elim (λ (le : length first ≤ k). subst (λ (x : List ℕ). LineAnswered x p.line) (take_all k first le) p.line_read)
          (λ (gt : k < length first). long_lengths first k (omega arith) (omega arith) p.line p.line_read) (le_or_lt (length first) k);
      reading = p.reading;
      text_read =
          ⊎_elim (λ (le : length second ≤ k). subst (λ (x : List ℕ). Answered x p.reading) (take_all k second le) p.text_read)
          (λ (gt : k < length second). long_text second k some (omega arith) p.reading p.text_read) (le_or_lt (length second) k);
      outcome = p.outcome;
    }

pub judge_kept : (first second before after : List ℕ) (verdict : Result Approved Refusal) (k : ℕ) → 352 < k → JudgePromise (take k first) (take k second) before after verdict
    → JudgePromise first second before after verdict
judge_kept first second before after verdict k some p =
    (judge_exactly first second before after verdict).1
    (read_kept first second before after verdict k some ((judge_exactly (take k first) (take k second) before after verdict).0 p))
