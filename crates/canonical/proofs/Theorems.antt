-- What the promise over the canonical layouts means: it settles the outcome, which is the run's.
use Rattle.std.specs.Prelude.{Ok, Err, Result, ⊤}
use mathlib.Core.Path.{◌≡◌, refl, sym, ap, ◌∙◌}
use mathlib.Core.Bool.{Bool, true, false, cond, not}
use mathlib.Core.List.{List}
use Prim.Native.Nat.{ℕ, ◌*◌, ◌/◌, ◌%◌}
use native.Mathlib.Omega.{arith}
use lib.ListN.{length, take}
use Rattle.judgement.specs.declared.Approved.{Approved}
use Rattle.answers.specs.declared.Refusal.{Refusal}
use Rattle.answers.specs.Refusals.{answer, no_refusal}
use Rattle.answers.specs.declared.Refusal.TheVariants.{Swizzle, Canonical as NotCanonical}
use Rattle.laws.proofs.Rungs.{apart}
use Rattle.swizzle.specs.Mode.{known_bits, known}
use Rattle.swizzle.proofs.Widths.{at_known_bits}
use Rattle.card.specs.Card.{elements, cells}
use Rattle.judgement.specs.Plain.{VerdictSays}
use Rattle.claims.specs.Claims.{occupied}
use Rattle.judgement.proofs.Theorems.{IsApproval, verdict_one_to_one}
use Rattle.judgement.proofs.InNumbers.{InNumbers, verdict_in_numbers}
use Rattle.judgement.proofs.Run.{verdict_is_run}
use Rattle.judgement.proofs.Plain.{verdict_exactly, verdict_says_settled}
use Rattle.canonical.specs.Canonical.{fits, checked, in_elements, canonical_card, encoded_lbo, reported, PromiseBy, CanonicalPromise, reported_numbers}
use Rattle.canonical.specs.Run.{report_after, report_run, left_after, table_run}
use Rattle.canonical.specs.declared.Canonical.{Canonical}
use Rattle.canonical.specs.declared.Reported.{Reported}

-- what passes the checks passes each of them
pub checks_passed : (q : Canonical) → checked q ≡ no_refusal → (known q.bits q.mode ≡ true) × (fits q ≡ true)
checks_passed q = each (known q.bits q.mode) (fits q)
  where
    each : (k f : Bool) → cond (not k) (Err Swizzle) (cond (not f) (Err NotCanonical) no_refusal) ≡ no_refusal → (k ≡ true) × (f ≡ true)
    each true true e = (refl, refl)
    each true false e = absurd (apart (cc))
    each false f e = absurd (apart (cc))

settled_by : (c : Result ⊤ Refusal) (q : Canonical) (before a b : List ℕ) (r s : Reported) → PromiseBy c q before a r → PromiseBy c q before b s → (a ≡ b) × (r ≡ s)
settled_by (Ok _) q before a b r s h k =
    let same = verdict_says_settled (canonical_card q) before a b r.verdict s.verdict h.0 k.0 in
    (same.0, h.1 ∙ ap (reported q) same.1 ∙ sym k.1)
settled_by (Err refusal) q before a b r s h k = (h.1 ∙ sym k.1, h.0 ∙ sym k.0)

-- two outcomes that the promise allows are equal
pub canonical_settled : (q : Canonical) (before a b : List ℕ) (r s : Reported) → CanonicalPromise q before a r → CanonicalPromise q before b s → (a ≡ b) × (r ≡ s)
canonical_settled q before a b r s h k = settled_by (checked q) q before a b r s h k

run_by : (c : Result ⊤ Refusal) (q : Canonical) (before after : List ℕ) (r : Reported) → PromiseBy c q before after r
    → (r ≡ report_after c q before) × (after ≡ left_after c q before)
run_by (Ok _) q before after r h =
    let run = verdict_is_run (canonical_card q) before after r.verdict ((verdict_exactly (canonical_card q) before after r.verdict).0 h.0) in
    (h.1 ∙ ap (reported q) run.0, run.1)
run_by (Err refusal) q before after r h = h

-- and it is the run's: a load that the run computes is a load of the promise
pub canonical_is_run : (q : Canonical) (before after : List ℕ) (r : Reported) → CanonicalPromise q before after r
    → (r ≡ report_run q before) × (after ≡ table_run q before)
canonical_is_run q before after r h = run_by (checked q) q before after r h

-- the promise by the three ways that the checks go: bits or mode that are not known are 6, judged first
pub refused_6 : (q : Canonical) (before after : List ℕ) (r : Reported) → CanonicalPromise q before after r → known q.bits q.mode ≡ false
    → (r ≡ record { verdict = Err Swizzle; lbo = 0; sbo = 0 }) × (after ≡ before)
refused_6 q before after r h k = rw k at h

-- then 22
pub refused_22 : (q : Canonical) (before after : List ℕ) (r : Reported) → CanonicalPromise q before after r → known q.bits q.mode ≡ true → fits q ≡ false
    → (r ≡ record { verdict = Err NotCanonical; lbo = 0; sbo = 0 }) × (after ≡ before)
refused_22 q before after r h k f = rw (k, f) at h

-- and the remaining answers are the verdict's on the card
pub passed_on : (q : Canonical) (before after : List ℕ) (r : Reported) → CanonicalPromise q before after r → known q.bits q.mode ≡ true → fits q ≡ true
    → VerdictSays (canonical_card q) before after r.verdict × (r ≡ reported q r.verdict)
passed_on q before after r h k f = rw (k, f) at h

-- LBO and SBO as reported: both 0 where refused; where approved divided by 16, but 1 for an LBO that is not used
reported_so : (q : Canonical) (v : Result Approved Refusal) → ((IsApproval v → ⊥) → ((reported q v).lbo ≡ 0) × ((reported q v).sbo ≡ 0))
    × (IsApproval v → ((reported q v).lbo ≡ encoded_lbo q) × ((reported q v).sbo ≡ q.sbo / 16))
reported_so q (Ok approval) = (λ h. absurd (h tt), λ h. (refl, refl))
reported_so q (Err refusal) = (λ h. (refl, refl), λ h. absurd h)

reported_by : (c : Result ⊤ Refusal) (q : Canonical) (before after : List ℕ) (r : Reported) → PromiseBy c q before after r → r ≡ reported q r.verdict
reported_by (Ok _) q before after r h = h.1
reported_by (Err refusal) q before after r h = h.0 ∙ ap (λ (s : Reported). reported q s.verdict) (sym h.0)

pub encoded : (q : Canonical) (before after : List ℕ) (r : Reported) → CanonicalPromise q before after r
    → ((IsApproval r.verdict → ⊥) → (r.lbo ≡ 0) × (r.sbo ≡ 0))
    × (IsApproval r.verdict → (r.lbo ≡ encoded_lbo q) × (r.sbo ≡ q.sbo / 16))
encoded q before after r h =
    let so = reported_so q r.verdict in
    let e = reported_by (checked q) q before after r h in (
      λ no. (ap (λ (s : Reported). s.lbo) e ∙ (so.0 no).0, ap (λ (s : Reported). s.sbo) e ∙ (so.0 no).1),
      λ yes. (ap (λ (s : Reported). s.lbo) e ∙ (so.1 yes).0, ap (λ (s : Reported). s.sbo) e ∙ (so.1 yes).1),
    )

-- in document 01's numbers, in the order of the checks: 6, 22, and then the verdict's
pub canonical_in_numbers : (q : Canonical) (before after : List ℕ) (r : Reported) → CanonicalPromise q before after r
    → (known q.bits q.mode ≡ false → reported_numbers r ≡ answer 6 0 0 0)
    × (known q.bits q.mode ≡ true → fits q ≡ false → reported_numbers r ≡ answer 22 0 0 0)
    × (known q.bits q.mode ≡ true → fits q ≡ true
    → InNumbers (canonical_card q) (length before) (reported_numbers r)
    (answer 0 (elements (canonical_card q)) (occupied (take (cells (canonical_card q)) after)) (cells (canonical_card q))))
canonical_in_numbers q before after r h = (
  λ k. ap reported_numbers (refused_6 q before after r h k).0,
  λ k f. ap reported_numbers (refused_22 q before after r h k f).0,
  λ k f.
      verdict_in_numbers (canonical_card q) before after r.verdict
      ((verdict_exactly (canonical_card q) before after r.verdict).0 (passed_on q before after r h k f).0),
)

-- a byte stride that is a multiple of 16 is a whole number of elements: T times what is reported of it
pub whole_strides : (bits bytes : ℕ) → known_bits bits ≡ true → bytes % 16 ≡ 0 → in_elements bits bytes ≡ bytes / 16 * (128 / bits)
whole_strides bits bytes known aligned =
    at_known_bits (λ n. bytes * 8 / n ≡ bytes / 16 * (128 / n)) (omega arith) (omega arith) (omega arith) (omega arith) (omega arith) (omega arith) bits known

-- pinning the numbers and both encodings pins the answer
pub reported_one_to_one : (r s : Reported) → reported_numbers r ≡ reported_numbers s → r.lbo ≡ s.lbo → r.sbo ≡ s.sbo → r ≡ s
reported_one_to_one r s n l b =
    let v = verdict_one_to_one r.verdict s.verdict n in
    λ i. record { verdict = v i; lbo = l i; sbo = b i }
