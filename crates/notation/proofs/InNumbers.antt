-- Reading and writing in document 01's numbers, which pin the answers. By the checks in their order of what is written; of what is read by what the
-- text is: correct, or with a longest beginning.
use Rattle.std.specs.Prelude.{Ok, Err, Result, ⊤}
use Prim.Native.Nat.{ℕ}
use mathlib.Core.Path.{◌≡◌, refl, sym, ap, ◌∙◌, subst}
use mathlib.Core.Logic.{◌↔◌}
use mathlib.Core.Bool.{cond, not}
use mathlib.Core.List.{List, ◌++◌}
use lib.Dec.{eqb, ltb}
use lib.ListN.{length, drop}
use Rattle.answers.specs.declared.Refusal.{Refusal}
use Rattle.laws.proofs.Rungs.{apart}
use Rattle.answers.specs.Refusals.{answer, refusal_numbers, no_refusal}
use Rattle.answers.specs.declared.Numbers.{Numbers}
use Rattle.answers.specs.declared.Refusal.TheVariants.{Notation as NotCorrect}
use Rattle.answers.proofs.OneToOne.{read_back, refused_back, pinned, rung, refusal_not_zero}
use Rattle.card.specs.Admission.{counts_fit, numbers_fit, axes_fit}
use Rattle.card.specs.declared.Card.{Card}
use Rattle.notation.specs.Text.{Correct}
use Rattle.notation.specs.Beginning.{Refused}
use Rattle.notation.specs.Meaning.{layout_of}
use Rattle.notation.specs.Promise.{no_layout, Comes, Answered, read_numbers}
use Rattle.notation.specs.Writing.{text_of, answer_for, written_answer, bytes_after, write_numbers}
use Rattle.notation.specs.declared.Layout.{Layout}
use Rattle.notation.specs.declared.Reading.{Reading}
use Rattle.notation.proofs.Theorems.{text_says_one, longest_once}

-- pinning the numbers pins the answer
read_back_lem : (p : Result ⊤ Refusal) → read_back (λ n. no_refusal) Err (read_numbers p) ≡ p
read_back_lem (Ok _) = refl
read_back_lem (Err r) = refused_back (λ n. no_refusal) Err r

pub read_one_to_one : (p q : Result ⊤ Refusal) → read_numbers p ≡ read_numbers q → p ≡ q
read_one_to_one = pinned (λ n. no_refusal) Err read_numbers read_back_lem

write_back : (p : Result ℕ Refusal) → read_back (λ n. Ok n.a) Err (write_numbers p) ≡ p
write_back (Ok n) = refl
write_back (Err r) = refused_back (λ n. Ok n.a) Err r

pub write_one_to_one : (p q : Result ℕ Refusal) → write_numbers p ≡ write_numbers q → p ≡ q
write_one_to_one = pinned (λ n. Ok n.a) Err write_numbers write_back

-- the numbers of a text that was read, and the layout beside them
pub record ReadInNumbers (text : List ℕ) (n : Numbers) (layout : Layout) : Type 0 where
  -- 0 exactly when the text is correct, with the layout that it says
  pub accepted : (n ≡ answer 0 0 0 0) ↔ Correct text
  pub said : (c : Correct text) → layout ≡ layout_of c.says
  -- 18 with the length of the longest beginning that some correct text also has, with a layout of zeros
  pub refused : (a : ℕ) → (n ≡ answer 18 a 0 0) ↔ Refused Correct text a
  pub zeros : (a : ℕ) → Refused Correct text a → layout ≡ no_layout

pub read_in_numbers : (text : List ℕ) (r : Reading) → Answered text r → ReadInNumbers text (read_numbers r.answer) r.layout
read_in_numbers text r = by r.answer
  where
    by : (x : Result ⊤ Refusal) → Comes x text r.layout → ReadInNumbers text (read_numbers x) r.layout
    by (Ok _) c = record {
      accepted = (λ n. c.correct, λ d. refl);
      said = λ d. c.layout_said ∙ ap layout_of (text_says_one text c.correct d);
      refused = λ a. (λ n. let other : no_refusal ≡ Err (NotCorrect a) = read_one_to_one no_refusal (Err (NotCorrect a)) n in absurd (apart (cc)), λ l. absurd (l.incorrect c.correct));
      zeros = λ a l. absurd (l.incorrect c.correct);
    }
    by (Err s) c = record {
      accepted = (λ n. let other : Err s ≡ no_refusal = read_one_to_one (Err s) no_refusal n in absurd (apart (cc)), λ d. absurd (c.longest.incorrect d));
      said = λ d. absurd (c.longest.incorrect d);
      refused = λ a. (
        λ n.
            let same : Err (NotCorrect c.a) ≡ Err (NotCorrect a) = read_one_to_one _ _ (ap refusal_numbers (sym c.eighteen) ∙ n) in
            let one : c.a ≡ a = cc in
            subst (λ (k : ℕ). Refused Correct text k) one c.longest,
        λ l. ap refusal_numbers (c.eighteen ∙ ap NotCorrect (longest_once text c.a a c.longest l)),
      );
      zeros = λ a l. c.zeros;
    }

-- checks 1 to 3 in document 01's numbers, the first that fails, and what comes where none does: 11 or 0, both with the length of the text
abbrev pub written_numbers : Card → ℕ → Numbers
written_numbers card lent =
    cond (not (counts_fit card)) (answer 1 0 0 0)
    (cond (not (numbers_fit card)) (answer 2 0 0 0)
    (cond (not (axes_fit card)) (answer 3 0 0 0)
    (cond (ltb lent (length (text_of card))) (answer 11 (length (text_of card)) 0 0)
    (answer 0 (length (text_of card)) 0 0))))

pub write_in_numbers : (card : Card) (lent : ℕ) (r : Result ℕ Refusal) → r ≡ written_answer card lent → write_numbers r ≡ written_numbers card lent
write_in_numbers card lent r e =
    ap write_numbers e
    ∙ rung numbers (not (counts_fit card)) refl
    (rung numbers (not (numbers_fit card)) refl
    (rung numbers (not (axes_fit card)) refl
    (rung write_numbers (ltb lent (length (text_of card))) refl refl)))
  where
    numbers : Result ⊤ Refusal → Numbers
    numbers a = write_numbers (answer_for a (length (text_of card)) lent)

-- and the lent bytes by the numbers: at 0 the text, and those past it stay; else all stay
pub bytes_in_numbers : (card : Card) (lent after : List ℕ) (r : Result ℕ Refusal) → after ≡ bytes_after r card lent
    → after ≡ cond (eqb (write_numbers r).number 0) (text_of card ++ drop (write_numbers r).a lent) lent
bytes_in_numbers card lent after (Ok n) b = b
bytes_in_numbers card lent after (Err refusal) b = rw (refusal_not_zero refusal) b
