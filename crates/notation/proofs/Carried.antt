-- What the machine reads of a text meets the promise of reading, so a load that is computed over it is a load of the promise, and every text is either
-- correct or refused.
use Rattle.std.specs.Prelude.{Result, ⊤, Ok, Err}
use Prim.Native.Nat.{ℕ, ◌+◌, ◌<◌}
use mathlib.Core.Path.{◌≡◌, refl, sym, ap, ap₂, ◌∙◌, subst, subst⁻¹}
use mathlib.Core.Logic.{◌↔◌}
use mathlib.Core.Bool.{Bool, true, false}
use mathlib.Core.List.{List, [], ◌∷◌, ◌++◌, append-nil, append_assoc}
use native.Mathlib.Omega.{arith}
use lib.ListN.{length, take, length-append}
use lib.Seq.{take-append_seam, take-append-add}
use Rattle.answers.specs.Refusals.{no_refusal}
use Rattle.answers.specs.declared.Refusal.{Refusal}
use Rattle.notation.specs.Text.{Correct}
use Rattle.notation.specs.Beginning.{Refused}
use Rattle.notation.specs.Promise.{ReadSays, Comes, Answered}
use Rattle.notation.specs.Machine.{State, runs, stepped, start, is_stuck, is_end, refused_at, read_from, read_run}
use Rattle.notation.specs.declared.Layout.{Layout}
use Rattle.notation.specs.declared.Reading.{Reading}
use Rattle.notation.proofs.Exact.{runs_append}
use Rattle.notation.proofs.Run.{stuck_refused, end_refused, end_accepted}
use Rattle.notation.proofs.Theorems.{read_settled}

refused : (t : List ℕ) (a : ℕ) → Refused Correct t a → Answered t (refused_at a)
refused t a r = record { a = a; eighteen = refl; longest = r; zeros = refl }

read_on : (t x : List ℕ) (r : State) → runs stepped start x ≡ r → is_stuck r.phase ≡ false → Answered (x ++ t) (read_from r (length x) t)
read_on [] x r e alive = by (is_end r) refl
  where
    same : x ++ [] ≡ x
    same = append-nil x

    by : (b : Bool) → is_end r ≡ b → Answered (x ++ []) (read_from r (length x) [])
    by true h = rw (same, h, ← e) (end_accepted x (rw e h))
    by false h = rw (same, h) (refused x (length x) (end_refused x (rw e alive) (rw e h)))
read_on (b ∷ t) x r e alive = by (is_stuck (stepped r b).phase) refl (λ (h : is_stuck (stepped r b).phase ≡ false). read_on t (x ++ (b ∷ [])) (stepped r b) (runs_append stepped start x (b ∷ []) ∙ ap (λ (q : State). stepped q b) e) h)
  where
    short : length x < length (x ++ (b ∷ t))
    short = omega (arith, length-append x (b ∷ t))

    before : is_stuck (runs stepped start (take (length x) (x ++ (b ∷ t)))).phase ≡ false
    before = rw (take-append_seam x (b ∷ t), e) alive

    by : (s : Bool) → is_stuck (stepped r b).phase ≡ s → (is_stuck (stepped r b).phase ≡ false → Answered ((x ++ (b ∷ [])) ++ t) (read_from (stepped r b) (length (x ++ (b ∷ []))) t))
        → Answered (x ++ (b ∷ t)) (read_from r (length x) (b ∷ t))
    by true h on =
        let dead : is_stuck (runs stepped start (take (length x + 1) (x ++ (b ∷ t)))).phase ≡ true = rw (take-append-add x (b ∷ t) 1, runs_append stepped start x (b ∷ []), e) h in
        rw h (refused (x ++ (b ∷ t)) (length x) (stuck_refused (x ++ (b ∷ t)) (length x) short before dead))
    by false h on =
        let longer : length (x ++ (b ∷ [])) ≡ length x + 1 = length-append x (b ∷ []) in
        rw h (subst (λ (n : ℕ). Answered (x ++ (b ∷ t)) (read_from (stepped r b) n t)) longer (subst (λ (l : List ℕ). Answered l (read_from (stepped r b) (length (x ++ (b ∷ []))) t)) (append_assoc x (b ∷ []) t) (on h)))

-- the machine answers every text
pub run_answers : (t : List ℕ) → Answered t (read_run t)
run_answers t = read_on t [] start refl refl

-- whatever the promise allows is what the machine reads
pub read_carried : (t : List ℕ) (r : Reading) → Answered t r → r ≡ read_run t
read_carried t r a = read_settled t r (read_run t) a (run_answers t)

-- the promise of reading, and the same by cases of the answer
pub read_exactly : (t : List ℕ) (r : Reading) → ReadSays t r ↔ Answered t r
read_exactly t r = (
  λ k. subst⁻¹ (Answered t) (by k (read_run t).answer (read_run t).layout (run_answers t)) (run_answers t),
  λ a. record {
    correct = λ c. read_settled t r _ a (record { correct = c; layout_said = refl });
    wrong = λ n w. read_settled t r _ a (refused t n w);
  },
)
  where
    by : ReadSays t r → (x : Result ⊤ Refusal) (l : Layout) → Comes x t l → r ≡ record { answer = x; layout = l }
    by k (Ok _) l c = k.correct c.correct ∙ ap (λ (m : Layout). record { answer = no_refusal; layout = m }) (sym c.layout_said)
    by k (Err refusal) l c =
        k.wrong c.a c.longest ∙ ap₂ (λ (q : Refusal) (m : Layout). record { answer = Err q; layout = m }) (sym c.eighteen) (sym c.zeros)

-- two readings that it allows are equal
pub read_says_settled : (t : List ℕ) (p q : Reading) → ReadSays t p → ReadSays t q → p ≡ q
read_says_settled t p q h k = read_settled t p q ((read_exactly t p).0 h) ((read_exactly t q).0 k)
