-- The order of checks with which verdict, owner and placement begin: 1 to 6, then 17, by the pair; and as it is run.
use Rattle.std.specs.Prelude.{◌≡◌, ℕ, Err, Ok, Result, ⊤, Option, Some, None}
use Rattle.answers.specs.Refusals.{no_refusal}
use Rattle.answers.specs.declared.Refusal.{Refusal}
use Rattle.answers.specs.declared.Refusal.TheVariants.{Idle}
use Rattle.card.specs.Admission.{admission}
use Rattle.card.specs.declared.Card.{Card}
use Rattle.idle.specs.Idle.{IdlePair, NoIdlePair}
use Rattle.idle.specs.Run.{pair_of}

-- a card is refused by checks 1 to 6; or, where they are passed, with 17 and its pair of idle combinations; or it passes, where it has none
pub record FullChecks (card : Card) (Refusing : Refusal → Type 0) (Passing : Type 0) : Type 0 where
  pub early : (refusal : Refusal) → admission card ≡ Err refusal → Refusing refusal
  pub idle : (a b : ℕ) → admission card ≡ no_refusal → IdlePair card.replica a b → Refusing (Idle a b)
  pub passed : admission card ≡ no_refusal → NoIdlePair card.replica → Passing

-- what the admission promises of its answer
abbrev pub AdmissionSays : Card → Result ⊤ Refusal → Type 0
AdmissionSays card answer = FullChecks card (λ refusal. answer ≡ Err refusal) (answer ≡ no_refusal)

-- The same run, for the crates above; nothing from here on has to be believed.
-- check 17: a card whose replica has such a pair is refused with it
abbrev pub idle_check : Option (ℕ × ℕ) → Result ⊤ Refusal
idle_check (Some (a, b)) = Err (Idle a b)
idle_check None = no_refusal

-- a check that is made where those before it are passed
abbrev pub next : Result ⊤ Refusal → Result ⊤ Refusal → Result ⊤ Refusal
next (Ok _) check = check
next (Err refusal) check = Err refusal

-- checks 1 to 6, then 17
unfoldable pub full_admission : Card → Result ⊤ Refusal
full_admission card = next (admission card) (idle_check (pair_of card.replica))
