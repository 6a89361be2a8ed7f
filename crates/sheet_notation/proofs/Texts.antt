-- Every load of the notation has its stated answer, by tests that the checker computes, and so has whatever the promises allow.
use Rattle.std.specs.Prelude.{Ok, Result, ⊤, Err}
use Prim.Native.Nat.{ℕ, zero, suc, ◌-◌, ◌<◌}
use mathlib.Core.Path.{◌≡◌, refl, sym, ap, ◌∙◌, subst}
use mathlib.Core.Bool.{Bool, true, ◌&&◌, and-eq-true_iff}
use mathlib.Core.List.{List, [], ◌∷◌}
use native.Mathlib.Omega.{arith}
use native.Mathlib.Nat.{le_of_suc-le-suc, not-suc-le-zero}
use borrow.Author.Tests.{eqb-true}
use lib.Dec.{eqb}
use lib.ListN.{length, get_or}
use Rattle.laws.proofs.Table.{every, every_at}
use Rattle.answers.specs.Refusals.{refusal_numbers, no_refusal}
use Rattle.answers.specs.declared.Refusal.{Refusal}
use Rattle.answers.specs.declared.Refusal.TheVariants.{TooShort}
use Rattle.notation.specs.Text.{decimal}
use Rattle.notation.specs.Quoted.{quoted_bytes}
use Rattle.notation.specs.Machine.{read_run}
use Rattle.notation.specs.Promise.{Comes, Answered, read_numbers}
use Rattle.notation.specs.Machine.{stepped, moved}
use Rattle.notation.specs.Writing.{text_of, written_answer}
use Rattle.notation.specs.declared.Layout.{Layout}
use Rattle.notation.specs.declared.Reading.{Reading}
use Rattle.sheet_notation.specs.Loads.{Wrong, wrong_texts, Right, right, layout_card, right_texts}
use Rattle.notation.proofs.Carried.{read_carried}
use Rattle.sheet_notation.proofs.Same.{same_layout, layout_same}

ends : ℕ → Wrong → Bool
ends k load = let n = read_numbers (read_run (quoted_bytes load.text)).answer in eqb n.number 18 && eqb n.a load.a

test : every ends 0 wrong_texts ≡ true
unfolding ends wrong_texts stepped moved
test = refl

-- every reading of a wrong text that the promise allows is refusal 18 with the stated a
pub wrong_refused : (other : Wrong) (k : ℕ) → k < length wrong_texts → (r : Reading) → Answered (quoted_bytes (get_or wrong_texts k other).text) r
    → ((read_numbers r.answer).number ≡ 18) × ((read_numbers r.answer).a ≡ (get_or wrong_texts k other).a)
unfolding ends
wrong_refused other k h r allowed =
    let load = get_or wrong_texts k other in
    let n = read_numbers (read_run (quoted_bytes load.text)).answer in
    let t = (and-eq-true_iff (eqb n.number 18) (eqb n.a load.a)).0 (every_at ends wrong_texts other test k h) in
    rw (read_carried (quoted_bytes load.text) r allowed) (eqb-true n.number 18 t.0, eqb-true n.a load.a t.1)

-- what holds of each load, and of the one at k
abbrev All : (Right → Type 0) → List Right → Type 0
All P [] = Unit {0}
All P (x ∷ xs) = P x × All P xs

all_at : (P : Right → Type 0) (xs : List Right) (other : Right) → All P xs → (k : ℕ) → k < length xs → P (get_or xs k other)
all_at P [] other a k h = absurd (not-suc-le-zero h)
all_at P (x ∷ xs) other a zero h = a.0
all_at P (x ∷ xs) other a (suc k) h = all_at P xs other a.1 k (le_of_suc-le-suc h)

-- two layouts are the same, tested
same_reading : ℕ → Right → Bool
same_reading k load = let r = read_run (quoted_bytes load.text) in eqb (read_numbers r.answer).number 0 && same_layout r.layout load.layout

right_test : every same_reading 0 right ≡ true
unfolding same_reading right stepped moved
right_test = refl

done : (r : Result ⊤ Refusal) → (read_numbers r).number ≡ 0 → (t : List ℕ) (l : Layout) → Comes r t l → r ≡ no_refusal
done (Ok _) e t l c = refl
done (Err refusal) e t l c = absurd (let z : 18 ≡ 0 = ap (λ (x : Refusal). (refusal_numbers x).number) (sym c.eighteen) ∙ e in omega (arith, z))

-- every reading of a correct text that the promise allows gives its layout
pub right_read : (other : Right) (k : ℕ) → k < length right → (r : Reading) → Answered (quoted_bytes (get_or right k other).text) r
    → r ≡ record { answer = no_refusal; layout = (get_or right k other).layout }
unfolding same_reading
right_read other k h r allowed =
    let load = get_or right k other in
    let t = quoted_bytes load.text in
    let run = read_run t in
    let passed = (and-eq-true_iff (eqb (read_numbers run.answer).number 0) (same_layout run.layout load.layout)).0 (every_at same_reading right other right_test k h) in
    let same : r ≡ run = read_carried t r allowed in
    let is-done : run.answer ≡ no_refusal = done run.answer (eqb-true (read_numbers run.answer).number 0 passed.0) t run.layout (subst (λ (x : Reading). Answered t x) same allowed) in
    let its-layout : run.layout ≡ load.layout = layout_same run.layout load.layout passed.1 in
    same ∙ (λ i. record { answer = is-done i; layout = its-layout i })

-- a card that is written: with enough bytes lent the answer is the length of the text and the text stands in them, with one less it is refused
abbrev Writes : Right → Type 0
Writes load =
    let card = layout_card load.layout in
    let n = length (quoted_bytes load.text) in
    (text_of card ≡ quoted_bytes load.text) × (written_answer card n ≡ Ok n) × (written_answer card (n - 1) ≡ Err (TooShort n))

writes : All Writes right_texts
unfolding right_texts text_of decimal
writes = ((refl, refl, refl), ((refl, refl, refl), ((refl, refl, refl), ((refl, refl, refl), tt))))

pub right_written : (other : Right) (k : ℕ) → k < length right_texts → Writes (get_or right_texts k other)
right_written other k h = all_at Writes right_texts other writes k h
