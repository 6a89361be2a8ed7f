-- Source document 001's figures are packed, so they are approved without a run of the verdict.
use mathlib.Core.Path.{◌≡◌, refl, ap, ◌∙◌}
use mathlib.Core.List.{List}
use Prim.Native.Nat.{ℕ, ◌≤◌}
use native.Mathlib.Omega.{arith}
use lib.Count.{count_leading_zeros}
use lib.ListN.{length}
use Rattle.judgement.specs.Verdict.{approved_with}
use Rattle.swizzle.specs.Mode.{bit_length}
use Rattle.card.specs.Admission.{admission}
use Rattle.judgement.proofs.Theorems.{IsApproval}
use Rattle.canonical.specs.Printed.{MN, K, figure}
use Rattle.canonical.specs.Canonical.{reported, CanonicalPromise}
use Rattle.canonical.specs.declared.Canonical.{Canonical}
use Rattle.canonical.specs.declared.Reported.{Reported}
use Rattle.canonical_approval.proofs.Theorems.{PassedOn, K_swizzled_packed, K_plain_packed, MN_packed, K_too_wide}

-- so many elements in so many cells, all occupied, and LBO and SBO as printed, whatever was in the table
abbrev Comes : Canonical → ℕ → ℕ → ℕ → Type 0
Comes q n LBO SBO = (before after : List ℕ) (r : Reported) → n ≤ length before → CanonicalPromise q before after r
    → r ≡ record { verdict = approved_with n n n; lbo = LBO; sbo = SBO }

pub figure_188 : Comes (figure K 0 32 256 128 256) 256 16 8
unfolding bit_length count_leading_zeros admission
figure_188 before after r room promise =
    let q = figure K 0 32 256 128 256 in
    promise.1 ∙ ap (reported q) (K_plain_packed q before after r (record { passed = refl; admitted = refl; room = room; whole = refl }) promise refl refl refl refl refl)

pub figure_190 : Comes (figure MN 0 16 256 128 256) 256 16 8
unfolding bit_length count_leading_zeros admission
figure_190 before after r room promise =
    let q = figure MN 0 16 256 128 256 in
    promise.1 ∙ ap (reported q) (MN_packed q before after r (record { passed = refl; admitted = refl; room = room; whole = refl }) promise refl refl refl refl)

pub figure_191 : Comes (figure MN 1 16 256 512 512) 512 16 32
unfolding bit_length count_leading_zeros admission
figure_191 before after r room promise =
    let q = figure MN 1 16 256 512 512 in
    promise.1 ∙ ap (reported q) (MN_packed q before after r (record { passed = refl; admitted = refl; room = room; whole = refl }) promise refl refl refl refl)

pub figure_192 : Comes (figure MN 2 16 512 1024 1024) 1024 32 64
unfolding bit_length count_leading_zeros admission
figure_192 before after r room promise =
    let q = figure MN 2 16 512 1024 1024 in
    promise.1 ∙ ap (reported q) (MN_packed q before after r (record { passed = refl; admitted = refl; room = room; whole = refl }) promise refl refl refl refl)

-- Figure 189 is wider than its swizzle: no table, length, LBO or SBO has it approved
pub figure_189 : (LBO SBO L : ℕ) (before after : List ℕ) (r : Reported) → CanonicalPromise (figure K 1 32 LBO SBO L) before after r → IsApproval r.verdict → ⊥
figure_189 LBO SBO L before after r promise = K_too_wide (figure K 1 32 LBO SBO L) before after r promise refl refl (omega arith)

-- in 64B mode the same m and k fill the width: packed, it is approved
pub in_64_b_mode : (LBO : ℕ) → Comes (figure K 2 32 LBO 512 256) 256 1 32
unfolding bit_length count_leading_zeros admission
in_64_b_mode LBO before after r room promise =
    let q = figure K 2 32 LBO 512 256 in
    promise.1 ∙ ap (reported q) (K_swizzled_packed q before after r (record { passed = refl; admitted = refl; room = room; whole = refl }) promise refl refl refl refl refl)
