-- The question run, so that loads compute. Nothing here has to be believed: proofs/Theorems.antt shows that the promise allows the run's outcome alone.
use Rattle.std.specs.Prelude.{List, ℕ, length, Result, ⊤, Ok, Err}
use Rattle.answers.specs.declared.Refusal.{Refusal}
use Rattle.judgement.specs.Verdict.{verdict_of, table_after}
use Rattle.judgement.specs.Run.{judge}
use Rattle.canonical.specs.Canonical.{checked, canonical_card, reported}
use Rattle.canonical.specs.declared.Canonical.{Canonical}
use Rattle.canonical.specs.declared.Reported.{Reported}

abbrev pub report_after : Result ⊤ Refusal → Canonical → List ℕ → Reported
report_after (Ok _) a before = reported a (verdict_of (canonical_card a) (judge (canonical_card a) (length before)))
report_after (Err refusal) a before = reported a (Err refusal)

abbrev pub report_run : Canonical → List ℕ → Reported
report_run a before = report_after (checked a) a before

abbrev pub left_after : Result ⊤ Refusal → Canonical → List ℕ → List ℕ
left_after (Ok _) a before = table_after (canonical_card a) (judge (canonical_card a) (length before)) before
left_after (Err refusal) a before = before

abbrev pub table_run : Canonical → List ℕ → List ℕ
table_run a before = left_after (checked a) a before
