-- What the second verdict comes to beside the first.
use Rattle.std.specs.Prelude.{Result}
use mathlib.Core.Path.{◌≡◌, ap, ap₂, ◌∙◌}
use mathlib.Core.Bool.{Bool, ◌||◌}
use mathlib.Core.List.{List}
use Prim.Native.Nat.{ℕ}
use Rattle.plans_second.specs.declared.Matching.{Matching}
use Rattle.answers.specs.declared.Refusal.{Refusal}
use Rattle.judgement.specs.declared.Approved.{Approved}
use Rattle.card.specs.declared.Card.{Card}
use Rattle.judgement.specs.Plain.{VerdictSays}
use Rattle.judgement.specs.Verdict.{verdict_of}
use Rattle.judgement.proofs.Plain.{verdict_exactly}
use Rattle.plans_judged.specs.Pair.{marked}
use Rattle.plans_second.specs.Clauses.{paired_by, OtherPromise}

-- the second verdict
pub other_judged : {one two : Card} {n : ℕ} {second after : List ℕ} {v : Result Approved Refusal} {p : Result Matching Refusal} → VerdictSays two second after v → (a b : Bool)
    → a ≡ marked one → b ≡ marked two → p ≡ paired_by v (a || b) n → OtherPromise one two n second after p
other_judged {one} {two} {n} {second} {after} {v} {p} says a b ea eb e =
    let w = (verdict_exactly two second after v).0 says in
    record {
      other = w.judgement;
      comes_other = w.comes;
      answers = e ∙ ap (λ (u : Result Approved Refusal). paired_by u (a || b) n) w.answers ∙ ap₂ (λ (x y : Bool). paired_by (verdict_of two w.judgement) (x || y) n) ea eb;
      leaves_other = w.leaves;
    }
