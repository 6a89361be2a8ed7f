-- What is built and what is reported, taken apart.
use Rattle.std.specs.Prelude.{Result, ⊤, Ok, Err}
use mathlib.Core.Path.{◌≡◌, refl, sym, ap, ◌∙◌, subst}
use mathlib.Core.List.{List}
use Prim.Native.Nat.{ℕ}
use Rattle.answers.specs.Refusals.{no_refusal}
use Rattle.judgement.specs.declared.Approved.{Approved}
use Rattle.answers.specs.declared.Refusal.{Refusal}
use Rattle.card.specs.declared.Card.{Card}
use Rattle.judgement.specs.Plain.{VerdictSays}
use Rattle.canonical.specs.Canonical.{checked, canonical_card, built_by, built, reported, PromiseBy, CanonicalPromise}
use Rattle.canonical.specs.declared.Canonical.{Canonical}
use Rattle.canonical.specs.declared.Built.{Built}
use Rattle.canonical.specs.declared.Reported.{Reported}

-- the answer is that of the checks
answer_checked : (c : Result ⊤ Refusal) (a : Canonical) → (built_by c a).answer ≡ c
answer_checked (Ok _) a = refl
answer_checked (Err refusal) a = refl

pub checks_told : (a : Canonical) (b : Built) (c : Result ⊤ Refusal) → b ≡ built a → b.answer ≡ c → checked a ≡ c
checks_told a b c e told = sym (answer_checked (checked a) a) ∙ ap (λ (x : Built). x.answer) (sym e) ∙ told

-- the verdict is reported as it is
verdict_reported : (a : Canonical) (v : Result Approved Refusal) → (reported a v).verdict ≡ v
verdict_reported a (Ok approval) = refl
verdict_reported a (Err refusal) = refl

-- the promise where a card was built, and where it was refused
pub judged : (a : Canonical) (b : Built) (before after : List ℕ) (v : Result Approved Refusal) (r : Reported) → b ≡ built a → b.answer ≡ no_refusal
    → VerdictSays b.card before after v → r ≡ reported a v → CanonicalPromise a before after r
judged a b before after v r e told p q =
    let passed = checks_told a b no_refusal e told in
    let card : b.card ≡ canonical_card a = ap (λ (x : Built). x.card) e ∙ ap (λ (c : Result ⊤ Refusal). (built_by c a).card) passed in
    rw (passed, q, verdict_reported a v) (subst (λ (c : Card). VerdictSays c before after v) card p, refl)

pub refused : (a : Canonical) (b : Built) (before : List ℕ) (refusal : Refusal) (r : Reported) → b ≡ built a → b.answer ≡ Err refusal
    → r ≡ reported a (Err refusal) → CanonicalPromise a before before r
refused a b before refusal r e told q = rw (checks_told a b (Err refusal) e told) (q, refl)
